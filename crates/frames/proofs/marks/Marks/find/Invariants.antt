use Rattle.std.proofs.Common.{◌≡◌, ℕ, ◌-◌, ◌^◌, ◌<◌, ◌≤◌, false}
use Rattle.blocks.specs.Bit.{bit}
use Rattle.frames.specs.Maximal.{node}
use Rattle.frames.proofs.marks.Marks.find.Given as goal

abbrev pub invariant-loop-order : goal.invariant-loop-order
invariant-loop-order l = (j i : ℕ) → l.fn.order ≤ j → j < l.order → i < 2 ^ (11 - j) → bit l.self.row (node j i) ≡ false
