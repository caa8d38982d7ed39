use Rattle.std.proofs.Common.{inl, inr, arith}
use Rattle.std.proofs.lemmas.Bool.{cases_lt}
use Rattle.mapping.proofs.Clearing.{past}
use Rattle.mapping.proofs.client.clear_object.Goals as goal

pub returns : goal.returns
returns g c =
    record {
      none = λ p. elim (cases_lt p 1024) [
        | inl l ↦ c.loop-number.invariant.none p (omega arith)
        | inr l ↦ past _ _ c.args.object (g.met.H.MappingHardware.lawful c.loop-number.hardware c.args.object) p l
      ];
      apart = c.loop-number.invariant.apart;
    }
