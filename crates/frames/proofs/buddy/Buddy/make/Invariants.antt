use Rattle.std.proofs.Common.{◌≡◌, ℕ, ◌<◌, ◌≤◌, true, false, length}
use Rattle.blocks.specs.Bit.{bit}
use Rattle.frames.specs.Maximal.{Marked}
use Rattle.frames.proofs.buddy.Buddy.make.Given as goal

abbrev pub invariant-loop-frame : goal.invariant-loop-frame
invariant-loop-frame l =
    record {
      words : length l.free ≡ 32;
      free : (k : ℕ) → k < l.frame → bit l.free k ≡ true;
      rest : (k : ℕ) → l.frame ≤ k → bit l.free k ≡ false;
      marked : Marked (bit l.marks.row) (bit l.free);
    }
