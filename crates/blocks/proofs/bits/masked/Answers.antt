use Rattle.std.proofs.Common.{◌∙◌, sym, arith}
use lib.Bits.{bit_and}
use Rattle.std.proofs.lemmas.Bool.{eq-eqb, ne_eqb}
use Rattle.blocks.proofs.Digits.{digit_or, digit_and, digit_xor}
use Rattle.blocks.proofs.bits.masked.Goals as goal

pub returns-then-value-clause-on : goal.returns-then-value-clause-on
returns-then-value-clause-on c k h = eq-eqb _ 1 (omega (arith, h, digit_or c.args.word c.args.mask k)) ∙ sym c.if-value.true

pub returns-then-value-clause-off : goal.returns-then-value-clause-off
returns-then-value-clause-off c k h = omega (arith, h, digit_or c.args.word c.args.mask k)

pub returns-else-value-clause-on : goal.returns-else-value-clause-on
returns-else-value-clause-on c k h =
    ne_eqb _ 1 (λ e. omega (arith, h, e, digit_xor c.args.word (bit_and c.args.word c.args.mask) k, digit_and c.args.word c.args.mask k)) ∙ sym c.if-value.false

pub returns-else-value-clause-off : goal.returns-else-value-clause-off
returns-else-value-clause-off c k h = omega (arith, h, digit_xor c.args.word (bit_and c.args.word c.args.mask) k, digit_and c.args.word c.args.mask k)
