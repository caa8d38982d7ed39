use Rattle.std.proofs.Common.{◌≡◌, ℕ, ◌+◌, ◌<◌, ◌≤◌}
use Rattle.blocks.specs.Bit.{bit}
use Rattle.frames.specs.Source.{Source, Lawful, tally}
use Rattle.frames.specs.Laws.{Without}
use Rattle.frames.proofs.laws.give_singles.Given as goal

abbrev pub invariant-loop-frame : goal.invariant-loop-frame
invariant-loop-frame g l =
    (s : Source) → Lawful s → Without s (g.S.FrameSource.means l.initial.source) (bit l.taken)
    → ((g.S.FrameSource.means l.source).total ≡ s.total)
    × ((f : ℕ) → f < l.frame → (g.S.FrameSource.means l.source).free f ≡ s.free f)
    × ((f : ℕ) → l.frame ≤ f → (g.S.FrameSource.means l.source).free f ≡ (g.S.FrameSource.means l.initial.source).free f)
    × ((g.S.FrameSource.means l.source).avail ≡ (g.S.FrameSource.means l.initial.source).avail + tally (bit l.taken) l.frame)
