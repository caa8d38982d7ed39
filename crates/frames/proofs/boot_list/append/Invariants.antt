use Rattle.std.proofs.Common.{◌≡◌, length}
use Rattle.frames.specs.Listed.{Appended}
use Rattle.frames.proofs.boot_list.append.Given as goal

abbrev pub invariant-loop-i : goal.invariant-loop-i
invariant-loop-i l =
    Appended l.initial.places l.places l.from l.first l.i
    × (length l.places ≡ length l.initial.places)
