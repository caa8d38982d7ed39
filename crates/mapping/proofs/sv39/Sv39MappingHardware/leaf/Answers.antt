use Rattle.std.proofs.Common.{◌+◌, ◌*◌, ◌/◌, ◌%◌, vec_items, sym, refl, ap, ◌∙◌, arith}
use Rattle.std.proofs.lemmas.Bool.{true≢false}
use Rattle.mapping.specs.Sv39Format.{sv39_leaf}
use Rattle.mapping.specs.Sv39Words.{at_in, at_out, walk_small, walk_big}
use Rattle.mapping.proofs.Rewritten.{read_at}
use Rattle.mapping.proofs.Sv39State.{long_of}
use Rattle.mapping.proofs.sv39.Sv39MappingHardware.leaf.Goals as goal

pub returns-then-not-in_range : goal.returns-then-not-in_range
returns-then-not-in_range c = sym (at_out _ _ _ (λ h. true≢false (sym (c.if-not-in_range.ensures.1 h))))

pub returns-then-top-eq-POINTER : goal.returns-then-top-eq-POINTER
returns-then-top-eq-POINTER c =
    let r = c.if-not-in_range.ensures.0 refl in
    let l = long_of c.args.self.now.levels in
    let t = read_at (vec_items c.args.self.now.levels.table) _ _ (c.args.page.object * 2 + c.args.page.number.0 / 512) 4104 c.index-top.ensures c.upper.ensures l (omega (arith, r.0, r.1)) in
    let e = read_at (vec_items c.args.self.now.levels.table) _ _ (8 + c.args.page.object * 1024 + c.args.page.number.0) 4104 c.index.ensures c.lower.ensures l (omega (arith, r.0, r.1)) in
    c.decode.ensures ∙ ap (sv39_leaf c.args.page.number.0 0) e
    ∙ sym (at_in _ _ _ r.0 r.1 ∙ walk_small _ _ _ (sym (ap (λ x. x % 4) t) ∙ c.if-top-eq-POINTER.true))

pub returns-else-top-eq-POINTER : goal.returns-else-top-eq-POINTER
returns-else-top-eq-POINTER c =
    let r = c.if-not-in_range.ensures.0 refl in
    let l = long_of c.args.self.now.levels in
    let t = read_at (vec_items c.args.self.now.levels.table) _ _ (c.args.page.object * 2 + c.args.page.number.0 / 512) 4104 c.index-top.ensures c.upper.ensures l (omega (arith, r.0, r.1)) in
    c.decode-else-top-eq-POINTER.ensures ∙ ap (sv39_leaf (c.args.page.number.0 / 512 * 512) 9) t
    ∙ sym (at_in _ _ _ r.0 r.1 ∙ walk_big _ _ _ (λ h. c.if-top-eq-POINTER.false (ap (λ x. x % 4) t ∙ h)))
