use Rattle.std.proofs.Common.{◌≡◌, ℕ, ◌/◌, ◌^◌, ◌<◌, false}
use Rattle.blocks.specs.Bit.{bit}
use Rattle.frames.specs.Maximal.{node}
use Rattle.frames.proofs.marks.Marks.around.Given as goal

abbrev pub invariant-loop-order : goal.invariant-loop-order
invariant-loop-order l = (j : ℕ) → j < l.order → bit l.self.row (node j (l.frame.0 / 2 ^ j)) ≡ false
