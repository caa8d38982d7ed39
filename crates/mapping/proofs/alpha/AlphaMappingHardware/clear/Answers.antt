use Rattle.std.proofs.Common.{◌≡◌, ℕ, ◌+◌, ◌*◌, ◌/◌, ◌^◌, List, length, get_or, vec_items, sym, refl, ap, ◌∙◌, subst, arith}
use Rattle.std.proofs.lemmas.Bool.{true≢false}
use Rattle.mapping.specs.Leaves.{Cleared}
use Rattle.mapping.specs.AlphaFormat.{order_in, alpha_at}
use Rattle.mapping.specs.AlphaWords.{Order, hinted}
use Rattle.mapping.specs.AlphaTables.{Sound}
use Rattle.mapping.specs.AlphaLeaves.{at_in, at_out, leaf_none, alpha_table}
use Rattle.mapping.proofs.Rewritten.{read_at, rewritten, part_zeroed}
use Rattle.mapping.proofs.AlphaCalls.{ends, written, cleared, cleared_sound}
use Rattle.mapping.proofs.AlphaState.{sound_of, table_of}
use Rattle.mapping.proofs.alpha.AlphaMappingHardware.clear.Goals as goal
use Rattle.mapping.proofs.alpha.AlphaMappingHardware.clear.Goals.{After-fill}

pub returns-then-not-in_range-clause-leaves : goal.returns-then-not-in_range-clause-leaves
returns-then-not-in_range-clause-leaves c = (at_out _ _ _ (λ h. true≢false (sym (c.if-not-in_range.ensures.1 h))), refl)

pub returns-then-entry-eq0-clause-leaves : goal.returns-then-entry-eq0-clause-leaves
returns-then-entry-eq0-clause-leaves c =
    let r = c.if-not-in_range.ensures.0 refl in
    let l = (table_of c.args.self.now).long in
    let e = read_at (vec_items c.args.self.now.table) _ _ (c.args.page.object * 1024 + c.args.page.number.0) 4096 c.index-entry.ensures c.index.ensures l (omega arith) in
    (at_in _ _ _ r.0 r.1 ∙ leaf_none _ _ (sym e ∙ c.if-entry-eq0.true), refl)

pub slice_bounds-fill-end : goal.slice_bounds-fill-end
slice_bounds-fill-end c =
    let t = c.if-not-in_range.ensures.0 refl in
    let r : Order c.order_of-order.result = subst Order (sym c.order_of-order.ensures.0) (hinted _) in
    let b = ends c.args.page.object c.args.page.number.0 _ c.index-start.result c.span.result t.0 t.1 r (omega (arith, c.index-start.ensures, c.floor.ensures)) c.span.ensures in
    omega (arith, b, c.args.self.now.long)

-- the entries once the leaf's are 0
abbrev after : After-fill → List ℕ
after c = rewritten c.args.self.now.table.len c.index-start.result (c.index-start.result + c.span.result) (vec_items c.args.self.now.table) c.deref_mut.result.now c.fill.new.self

done : (c : After-fill)
    → Sound (λ i. get_or (after c) i 0)
    × Cleared (alpha_at (vec_items c.args.self.now.table)) (alpha_at (after c)) c.args.page.object c.args.page.number.0 c.order_of-order.result
    × (length (after c) ≡ 4096)
done c =
    let xs : List ℕ = vec_items c.args.self.now.table in
    let s : ℕ = c.index-start.result in
    let o : ℕ = c.args.page.object in
    let p : ℕ = c.args.page.number.0 in
    let k : ℕ = c.order_of-order.result in
    let t = c.if-not-in_range.ensures.0 refl in
    let l : length xs ≡ 4096 = (table_of c.args.self.now).long in
    let r : Order k = subst Order (sym c.order_of-order.ensures.0) (hinted _) in
    let at : s ≡ o * 1024 + p / 2 ^ k * 2 ^ k = omega (arith, c.index-start.ensures, c.floor.ensures) in
    let b = ends o p k s c.span.result t.0 t.1 r at c.span.ensures in
    let w = part_zeroed c.args.self.now.table.len s (s + c.span.result) _ xs c.deref_mut.result.now c.fill.new.self
    c.deref_mut.ensures.value (sym c.args.self.now.table.ok.0) (omega arith) (omega (arith, b, c.args.self.now.table.ok.0)) c.fill.ensures.len (c.fill.ensures.after (λ y e. e)) in
    let v = written (o * 1024 + p / 2 ^ k * 2 ^ k) (2 ^ k) 0 at (omega (arith, c.span.ensures)) refl w in
    let e = read_at xs _ _ (o * 1024 + p) 4096 c.index-entry.ensures c.index.ensures l (omega (arith, t.0, t.1)) in
    let some : get_or xs (o * 1024 + p) 0 ≡ 0 → ⊥ = λ z. c.if-entry-eq0.false (e ∙ z) in
    let is = c.order_of-order.ensures.0 ∙ ap order_in e in (
      cleared_sound xs (after c) o p (sound_of c.args.self.now) t.0 t.1 some k is v,
      cleared xs (after c) o p (sound_of c.args.self.now) t.0 t.1 some k is v,
      v.long ∙ l,
    )

pub invariant_of-self : goal.invariant_of-self
invariant_of-self c = let s = (done (goal.at.invariant_of-self c).After-fill).0 in record {
  long = c.args.self.now.long;
  small = s.small;
  same = s.same;
}

pub returns-clause-leaves : goal.returns-clause-leaves
returns-clause-leaves c = (done (goal.at.returns-clause-leaves c).After-fill).1

pub returns-clause-entries : goal.returns-clause-entries
returns-clause-entries c = let d = done (goal.at.returns-clause-entries c).After-fill in alpha_table _ d.0 d.2
