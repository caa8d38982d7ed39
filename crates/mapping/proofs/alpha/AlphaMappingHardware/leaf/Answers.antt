use Rattle.std.proofs.Common.{◌+◌, ◌*◌, vec_items, sym, refl, ap, ◌∙◌, arith}
use Rattle.std.proofs.lemmas.Bool.{true≢false}
use Rattle.mapping.specs.AlphaFormat.{alpha_leaf}
use Rattle.mapping.specs.AlphaLeaves.{at_in, at_out}
use Rattle.mapping.proofs.Rewritten.{read_at}
use Rattle.mapping.proofs.AlphaState.{table_of}
use Rattle.mapping.proofs.alpha.AlphaMappingHardware.leaf.Goals as goal

pub returns-then-not-in_range : goal.returns-then-not-in_range
returns-then-not-in_range c = sym (at_out _ _ _ (λ h. true≢false (sym (c.if-not-in_range.ensures.1 h))))

pub returns : goal.returns
returns c =
    let r = c.if-not-in_range.ensures.0 refl in
    let l = (table_of c.args.self.now).long in
    let e = read_at (vec_items c.args.self.now.table) _ _ (c.args.page.object * 1024 + c.args.page.number.0) 4096 c.index-2.ensures c.index.ensures l (omega arith) in
    c.decode.ensures ∙ ap (alpha_leaf c.args.page.number.0) e ∙ sym (at_in _ _ _ r.0 r.1)
