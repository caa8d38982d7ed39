use Rattle.std.proofs.Common.{◌%◌, refl, sym, ◌∙◌, arith}
use Rattle.std.proofs.Math.Bool.{and-true}
use Rattle.std.proofs.lemmas.Bool.{lt-ltb}
use Rattle.blocks.proofs.Digits.{mask_self, mask_other, write_same, write_kept}
use Rattle.blocks.proofs.bits.set.Goals as goal

pub returns-then-w-words-clause-here : goal.returns-then-w-words-clause-here
returns-then-w-words-clause-here c =
    write_same c.args.words.now _ c.masked.result c.args.place c.if-w-words.true refl
    ∙ c.masked.ensures.on (c.args.place % 64) (mask_self c.args.place)
    ∙ rw (lt-ltb _ _ c.if-w-words.true) (sym (and-true c.args.value))

pub returns-then-w-words-clause-others : goal.returns-then-w-words-clause-others
returns-then-w-words-clause-others c j ne =
    write_kept c.args.words.now _ c.masked.result j c.if-w-words.true
    (λ e. c.masked.ensures.off (j % 64) (mask_other c.args.place (j % 64) (λ m. ne (omega arith))))
