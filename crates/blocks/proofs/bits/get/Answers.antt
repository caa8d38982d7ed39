use Rattle.std.proofs.Common.{◌/◌, ◌%◌, ◌^◌, get_or, sym, ◌∙◌, arith}
use lib.Bits.{and_mask}
use Rattle.std.proofs.lemmas.Bool.{le-ltb}
use Rattle.blocks.proofs.Digits.{bit_past}
use Rattle.blocks.proofs.bits.get.Goals as goal

pub returns-then-w-words : goal.returns-then-w-words
returns-then-w-words c = rw (and_mask (get_or c.args.words.now (c.args.place / 64) 0 / 2 ^ (c.args.place % 64)) 1)

pub returns-else-w-words : goal.returns-else-w-words
returns-else-w-words c = le-ltb _ _ c.if-w-words.false ∙ sym (bit_past c.args.words.now c.args.place (omega arith))
