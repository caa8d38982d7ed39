use Rattle.std.proofs.Common.{◌≡◌, ℕ, ◌-◌, ◌*◌, ◌^◌, ◌≤◌, Bool}
use Rattle.blocks.specs.Bit.{bit}
use Rattle.frames.specs.Maximal.{Parts, Marked}
use Rattle.frames.proofs.marks.Marks.split.Given as goal

abbrev pub invariant-loop-low : goal.invariant-loop-low
invariant-loop-low l =
    record {
      from : l.order ≤ l.block.order;
      to : l.block.order ≤ l.fn.from.order;
      index : l.block.index ≡ l.fn.from.index * 2 ^ (l.fn.from.order - l.block.order);
      marked : (p q : ℕ → Bool) → Marked (bit l.initial.self.row) p
          → Parts p q l.fn.from.order l.fn.from.index l.block.order l.block.index → Marked (bit l.self.row) q;
    }

abbrev pub decreases-loop-low : goal.decreases-loop-low
decreases-loop-low l = l.block.order
