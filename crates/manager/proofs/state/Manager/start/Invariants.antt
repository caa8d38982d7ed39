use Rattle.std.proofs.Common.{◌≡◌, ℕ, ◌<◌, None}
use Rattle.manager.proofs.state.Manager.start.Given as goal

abbrev pub invariant-loop-object : goal.invariant-loop-object
invariant-loop-object g l = (o : ℕ) → o < l.object → (p : ℕ) → g.H.MappingHardware.at l.hardware o p ≡ None
