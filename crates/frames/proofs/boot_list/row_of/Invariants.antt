use Rattle.std.proofs.Common.{◌≡◌, ℕ}
use Rattle.blocks.specs.Bit.{bit}
use Rattle.frames.specs.Source.{tally}
use Rattle.frames.specs.Listed.{listed, Distinct, AllBelow}
use Rattle.frames.proofs.boot_list.row_of.Given as goal

abbrev pub invariant-loop-frame : goal.invariant-loop-frame
invariant-loop-frame l =
    record {
      row : (f : ℕ) → bit l.row f ≡ listed l.places l.frame-index f;
      distinct : Distinct l.places l.frame-index;
      below : AllBelow l.places l.frame-index l.frames.number;
      count : l.frame-index ≡ tally (bit l.row) l.frames.number;
    }
