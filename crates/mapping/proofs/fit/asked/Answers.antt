use Rattle.std.proofs.Common.{refl, sym, ap, ◌∙◌}
use Rattle.std.proofs.lemmas.Bool.{true≢false}
use Rattle.mapping.specs.Leaves.{lay}
use Rattle.mapping.proofs.fit.asked.Goals as goal

pub returns-then-not-fits : goal.returns-then-not-fits
returns-then-not-fits c = (refl, λ f. true≢false (sym ((c.if-not-fits.ensures c.args.writable).1 f)))

pub returns : goal.returns
returns c = (
  ap (λ n. lay n c.order.result c.args.frame.0 c.args.writable) c.first.ensures ∙ ap (λ k. lay c.args.pages.pages.block.first k c.args.frame.0 c.args.writable) c.order.ensures,
  (c.if-not-fits.ensures c.args.writable).0 refl,
)
