use Rattle.std.proofs.Common.{ℕ, ◌-◌, Bool}
use Rattle.blocks.specs.Bit.{bit}
use Rattle.frames.specs.Maximal.{Splits, Marked, Whole}
use Rattle.frames.proofs.Steps.{less}
use Rattle.frames.proofs.marks.Marks.merge.Given as goal

abbrev pub invariant-loop-twin : goal.invariant-loop-twin
invariant-loop-twin l =
    (p q : ℕ → Bool) → Marked (bit l.initial.self.row) p → Splits q p l.fn.from.order l.fn.from.index
    → Whole q l.block.order l.block.index × Marked (bit l.self.row) (less q l.block.order l.block.index)

abbrev pub decreases-loop-twin : goal.decreases-loop-twin
decreases-loop-twin l = 9 - l.block.order
