use Rattle.std.proofs.Common.{subst}
use Rattle.mapping.specs.Leaves.{Clear}
use Rattle.mapping.proofs.Clearing.{undone}
use Rattle.mapping.proofs.laws.put_then_clear.Goals as goal

pub returns : goal.returns
returns g c =
    undone _ _ _ _ c.args.pages.object _ _ c.first.ensures.1 c.in_ok-put.ensures c.clear.result
    (subst (λ o. Clear (g.H.MappingHardware.at c.put.new.self) (g.H.MappingHardware.at c.clear.new.self) o c.first.result.number.0 c.clear.result) c.first.ensures.0 c.clear.ensures)
