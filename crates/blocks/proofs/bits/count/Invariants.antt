use Rattle.std.proofs.Common.{◌≡◌, ◌^◌, ◌<◌, take}
use Rattle.blocks.specs.Bit.{bits_set}
use Rattle.blocks.proofs.bits.count.Given as goal

abbrev pub invariant-loop-word : goal.invariant-loop-word
invariant-loop-word l = bits_set l.words < 2 ^ 64 → l.n ≡ bits_set (take l.word-index l.words)
