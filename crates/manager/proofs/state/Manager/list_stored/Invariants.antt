use Rattle.manager.proofs.Stored.{Listed}
use Rattle.manager.proofs.state.Manager.list_stored.Given as goal

abbrev pub invariant-loop-number : goal.invariant-loop-number
invariant-loop-number g l = Listed (g.H.MappingHardware.at l.self.hardware l.object) l.number l.initial.list l.list l.count
