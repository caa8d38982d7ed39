use Rattle.std.proofs.Common.{◌≡◌, ℕ, ◌+◌, ◌*◌, ◌^◌, ◌<◌, ◌≤◌, cond, List, length, get_or, vec_items, sym, refl, ap, ◌∙◌, arith}
use Rattle.mapping.specs.declared.leaf.Leaf.{Leaf}
use Rattle.mapping.specs.Leaves.{Fit, PutOk, laid}
use Rattle.mapping.specs.AlphaFormat.{order_in, alpha_word, alpha_sizes, alpha_at}
use Rattle.mapping.specs.AlphaTables.{Sound}
use Rattle.mapping.specs.AlphaLeaves.{alpha_table}
use Rattle.mapping.proofs.Rewritten.{read_at, rewritten, part_written}
use Rattle.mapping.proofs.AlphaCalls.{starts, written, put_ok, put_sound, put_reaches}
use Rattle.mapping.proofs.AlphaState.{sound_of, table_of}
use Rattle.mapping.proofs.alpha.AlphaMappingHardware.put.Goals as goal
use Rattle.mapping.proofs.alpha.AlphaMappingHardware.put.Goals.{After-lay}

pub returns-then-order_of-leaf-clause-leaves : goal.returns-then-order_of-leaf-clause-leaves
returns-then-order_of-leaf-clause-leaves c =
    let xs : List ℕ = vec_items c.args.self.now.table in
    let o : ℕ = c.args.pages.object in
    let l : Leaf = laid c.args.pages.pages c.args.frame c.args.writable in
    let e : c.in_ok-leaf.leaf ≡ l = c.in_ok-leaf.ensures.0 in
    let fit : Fit alpha_sizes o l = c.in_ok-leaf.ensures.1 in
    let k : c.in_ok-leaf.leaf.order ≡ l.order = ap (λ (m : Leaf). m.order) e in
    let there = starts o l fit in
    let v = read_at xs _ _ (o * 1024 + l.first.0) 4096 c.index.ensures (omega (arith, c.index-start.ensures, c.first.ensures)) (table_of c.args.self.now).long there in
    let q = c.order_of.ensures.0 ∙ ap order_in v in
    let more : l.order < order_in (get_or xs (o * 1024 + l.first.0) 0) = omega (arith, q, k, c.if-order_of-leaf.true) in
    (record { misfit = λ e. absurd (omega arith); fit = λ _. fit; reaches = λ _. put_reaches xs o l (sound_of c.args.self.now) fit c.args.pages.pages.block.aligned more }, refl)

-- the entries once the leaf's are written
abbrev after : After-lay → List ℕ
after c = rewritten c.args.self.now.table.len c.index-start.result (c.index-start.result + c.span.result) (vec_items c.args.self.now.table) c.deref_mut.result.now c.lay.new.entries

done : (c : After-lay)
    → Sound (λ i. get_or (after c) i 0)
    × PutOk alpha_sizes (alpha_at (vec_items c.args.self.now.table)) (alpha_at (after c)) c.args.pages.object (laid c.args.pages.pages c.args.frame c.args.writable)
    × (length (after c) ≡ 4096)
done c =
    let xs : List ℕ = vec_items c.args.self.now.table in
    let s : ℕ = c.index-start.result in
    let o : ℕ = c.args.pages.object in
    let l : Leaf = laid c.args.pages.pages c.args.frame c.args.writable in
    let e : c.in_ok-leaf.leaf ≡ l = c.in_ok-leaf.ensures.0 in
    let fit : Fit alpha_sizes o l = c.in_ok-leaf.ensures.1 in
    let k : c.in_ok-leaf.leaf.order ≡ l.order = ap (λ (m : Leaf). m.order) e in
    let there = starts o l fit in
    let long : length xs ≡ 4096 = (table_of c.args.self.now).long in
    let at : s ≡ o * 1024 + l.first.0 = omega (arith, c.index-start.ensures, c.first.ensures) in
    let count : c.span.result ≡ 2 ^ l.order = c.span.ensures ∙ ap (λ n. 2 ^ n) k in
    let v = read_at xs _ _ (o * 1024 + l.first.0) 4096 c.index.ensures at long there in
    let q = c.order_of.ensures.0 ∙ ap order_in v in
    let free : order_in (get_or xs (o * 1024 + l.first.0) 0) ≤ l.order = omega (arith, q, k, c.if-order_of-leaf.false) in
    let b : s + c.span.result ≤ 4096 = let a = fit.object in let w = fit.within in omega (arith, at, count) in
    let w = part_written c.args.self.now.table.len s (s + c.span.result) c.encode.result 4294967296 xs c.deref_mut.result.now c.lay.new.entries
    c.deref_mut.ensures.value (sym c.args.self.now.table.ok.0) (omega arith) (omega (arith, b, c.args.self.now.table.ok.0)) c.lay.auto.entries c.lay.ensures in
    let word = c.encode.ensures.0 ∙ ap (λ (m : Leaf). alpha_word m.frame.0 m.order (cond m.writable 0 1)) e in
    let u = written (o * 1024 + l.first.0) (2 ^ l.order) _ at (omega (arith, count)) word w in (
      put_sound xs (after c) o l (sound_of c.args.self.now) fit c.args.pages.pages.block.aligned free u,
      put_ok xs (after c) o l (sound_of c.args.self.now) fit c.args.pages.pages.block.aligned free u,
      u.long ∙ long,
    )

pub invariant_of-self : goal.invariant_of-self
invariant_of-self c = let s = (done (goal.at.invariant_of-self c).After-lay).0 in record {
  long = c.args.self.now.long;
  small = s.small;
  same = s.same;
}

pub returns-clause-leaves : goal.returns-clause-leaves
returns-clause-leaves c = (done (goal.at.returns-clause-leaves c).After-lay).1

pub returns-clause-entries : goal.returns-clause-entries
returns-clause-entries c = let d = done (goal.at.returns-clause-entries c).After-lay in alpha_table _ d.0 d.2
