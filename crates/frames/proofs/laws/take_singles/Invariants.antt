use Rattle.std.proofs.Common.{◌≡◌, ◌+◌, length}
use Rattle.blocks.specs.Bit.{bit}
use Rattle.frames.specs.Source.{tally}
use Rattle.frames.specs.Laws.{Without}
use Rattle.frames.proofs.laws.take_singles.Given as goal

abbrev pub invariant-loop-frame : goal.invariant-loop-frame
invariant-loop-frame g l =
    record {
      words : length l.taken ≡ 32;
      without : Without (g.S.FrameSource.means l.initial.source) (g.S.FrameSource.means l.source) (bit l.taken);
      all : (g.S.FrameSource.means l.source).avail + l.count ≡ (g.S.FrameSource.means l.initial.source).avail;
      count : l.count ≡ tally (bit l.taken) (g.S.FrameSource.means l.initial.source).total;
    }

abbrev pub decreases-loop-frame : goal.decreases-loop-frame
decreases-loop-frame g l = (g.S.FrameSource.means l.source).avail
