use Rattle.std.proofs.Common.{refl, ◌∙◌, inl, inr, arith, rules, below_more}
use Rattle.std.proofs.lemmas.Bool.{cases_lt}
use Rattle.manager.proofs.Stored.{no_object}
use Rattle.manager.proofs.state.Manager.start.Goals as goal

pub loop-object-preserved : goal.loop-object-preserved
loop-object-preserved g c =
    below_more _ _
    (λ o h p. c.clear_object.ensures.apart o p (λ e. omega arith) ∙ c.loop-object.invariant o h p)
    (λ p. c.clear_object.ensures.none p)

pub returns : goal.returns
returns g c =
    record {
      cleared = λ o p. elim (cases_lt o 4) [
        | inl l ↦ c.loop-object.invariant o (omega arith) p
        | inr h ↦ no_object _ _ o p (g.met.H.MappingHardware.lawful c.loop-object.hardware o p) h
      ];
      absent = search rules;
      source = refl;
      closed = refl;
      unreserved = search rules;
      words = refl;
    }
