use Rattle.std.proofs.Common.{◌≡◌, length}
use Rattle.replay.proofs.listing.write_lines.Given as goal

abbrev pub invariant-loop : goal.invariant-loop
invariant-loop g l = length l.buffer ≡ 4096
