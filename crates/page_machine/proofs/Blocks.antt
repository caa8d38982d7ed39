-- Blocks of pages: whole ones and the leaf they can have, the test and the facts.
use Rattle.std.proofs.Common.{◌≡◌, ℕ, zero, suc, ◌+◌, ◌-◌, ◌*◌, ◌/◌, ◌%◌, ◌^◌, ◌<◌, ◌≤◌, Bool, true, false, cond, ◌&&◌, eqb, Some, None, Option, sym, refl, ap, ◌∙◌, subst, inl, inr, mod-lt, arith, pow_pos, shr-shr}
use lib.Pow.{split, high}
use Rattle.std.proofs.lemmas.Bool.{cases_eq, and_parts, and_from, eqb-true, eq-eqb, cond-true}
use Rattle.mapping.specs.declared.leaf.Leaf.{Leaf}
use Rattle.mapping.specs.Leaves.{lay}
use Rattle.page_machine.specs.Leaves.{Home, home, Homes, Whole, Together, same, lies_at, rises, leaf_from, block_leaf}

pub coarser : (p q k j : ℕ) → k ≤ j → Together k p q → Together j p q
coarser p q k j h e =
    let s : k + (j - k) ≡ j = omega arith in
    let t : p / 2 ^ (k + (j - k)) ≡ q / 2 ^ (k + (j - k)) = sym (shr-shr p k (j - k)) ∙ ap (λ x. x / 2 ^ (j - k)) e ∙ shr-shr q k (j - k) in
    rw s at t

-- the place of q in its block
pub in_block : (q k i : ℕ) → q / 2 ^ k ≡ i → i * 2 ^ k + q % 2 ^ k ≡ q
in_block q k i e = sym (ap (λ x. x * 2 ^ k + q % 2 ^ k) e) ∙ split q k

pub small : (q k : ℕ) → q % 2 ^ k < 2 ^ k
small q k = mod-lt q (pow_pos k)

pub same_bit : (a b : Bool) → same a b ≡ true → a ≡ b
same_bit true b e = sym e
same_bit false true e = e
same_bit false false e = refl

pub same_bit_self : (a : Bool) → same a a ≡ true
same_bit_self true = refl
same_bit_self false = refl

pub lies : (x : Option Home) (f : ℕ) (s : Bool) → lies_at x f s ≡ true → x ≡ Some (home f s)
lies None f s e = absurd (let z : ◌≡◌ {A = ℕ} 0 1 = cc in omega arith)
lies (Some x) f s e =
    let t = and_parts (eqb x.frame f) (same x.stored s) e in
    let a : x.frame ≡ f = eqb-true _ _ t.0 in
    let b : x.stored ≡ s = same_bit _ _ t.1 in
    λ i. Some (home (a i) (b i))

pub lies_back : (f : ℕ) (s : Bool) → lies_at (Some (home f s)) f s ≡ true
lies_back f s = and_from _ _ (eq-eqb f f refl) (same_bit_self s)

pub rises_each : (h : Homes) (p f : ℕ) (s : Bool) (n : ℕ) → rises h p f s n ≡ true → (j : ℕ) → j < n → h (p + j) ≡ Some (home (f + j) s)
unfolding rises
rises_each h p f s zero e j l = absurd (omega arith)
rises_each h p f s (suc n) e j l =
    let t = and_parts (lies_at (h (p + n)) (f + n) s) (rises h p f s n) e in
    elim (cases_eq j n) [
      | inl y ↦ rw y (lies (h (p + n)) (f + n) s t.0)
      | inr y ↦ rises_each h p f s n t.1 j (omega arith)
    ]

pub each_rises : (h : Homes) (p f : ℕ) (s : Bool) (n : ℕ) → ((j : ℕ) → j < n → h (p + j) ≡ Some (home (f + j) s)) → rises h p f s n ≡ true
unfolding rises
each_rises h p f s zero e = refl
each_rises h p f s (suc n) e =
    and_from _ _ (ap (λ x. lies_at x (f + n) s) (e n (omega arith)) ∙ lies_back (f + n) s) (each_rises h p f s n (λ j l. e j (omega arith)))

module _ (h : Homes) (k i : ℕ) where
  whole_from : (x : Option Home) (l : Leaf) → h (i * 2 ^ k) ≡ x → leaf_from h k i x ≡ Some l → Whole h k i l
  whole_from None l e f = absurd (let z : ◌≡◌ {A = ℕ} 0 1 = cc in omega arith)
  whole_from (Some x) l e f = go (eqb (x.frame % 2 ^ k) 0 && rises h (i * 2 ^ k) x.frame x.stored (2 ^ k)) refl f
    where
      made : Leaf
      made = lay (i * 2 ^ k) k x.frame x.stored

      go : (b : Bool) → (eqb (x.frame % 2 ^ k) 0 && rises h (i * 2 ^ k) x.frame x.stored (2 ^ k)) ≡ b → cond b (Some made) None ≡ Some l → Whole h k i l
      go false b g = absurd (let z : ◌≡◌ {A = ℕ} 0 1 = cc in omega arith)
      go true b g =
          let t = and_parts (eqb (x.frame % 2 ^ k) 0) (rises h (i * 2 ^ k) x.frame x.stored (2 ^ k)) b in
          let same : made ≡ l = cc in
          subst (λ (y : Leaf). Whole h k i y) same
          (record { order = refl; first = refl; aligned = eqb-true _ _ t.0; each = rises_each h _ _ _ _ t.1 })

  pub whole : (l : Leaf) → block_leaf h k i ≡ Some l → Whole h k i l
  unfolding block_leaf
  whole l e = whole_from (h (i * 2 ^ k)) l refl e

  pub whole_back : (l : Leaf) → Whole h k i l → block_leaf h k i ≡ Some l
  unfolding block_leaf
  whole_back l w =
      let z : i * 2 ^ k + 0 ≡ i * 2 ^ k = omega arith in
      let y : l.frame.0 + 0 ≡ l.frame.0 = omega arith in
      let f : h (i * 2 ^ k) ≡ Some (home l.frame.0 l.writable)
      = sym (ap h z) ∙ w.each 0 (pow_pos k) ∙ ap (λ n. Some (home n l.writable)) y in
      ap (leaf_from h k i) f
      ∙ cond-true _ _ _ (and_from _ _ (eq-eqb _ _ w.aligned) (each_rises h _ _ _ _ w.each))
      ∙ (λ j. Some (lay (sym w.first j) (sym w.order j) l.frame.0 l.writable))

  -- a block with an absent page has no leaf
  pub holed : (q : ℕ) → q / 2 ^ k ≡ i → h q ≡ None → block_leaf h k i ≡ None
  holed q e n = go (block_leaf h k i) refl
    where
      go : (x : Option Leaf) → block_leaf h k i ≡ x → block_leaf h k i ≡ None
      go None f = f
      go (Some l) f =
          let w = (whole l f).each (q % 2 ^ k) (small q k) in
          let s = ap h (in_block q k i e) in
          absurd (let z : ◌≡◌ {A = ℕ} 0 1 = cc in omega arith)

-- a block's leaf hangs on its pages alone
pub leaf_kept : (h g : Homes) (k i : ℕ) → ((q : ℕ) → q / 2 ^ k ≡ i → h q ≡ g q) → block_leaf h k i ≡ block_leaf g k i
leaf_kept h g k i e = go (block_leaf h k i) (block_leaf g k i) refl refl
  where
    move : (h g : Homes) → ((q : ℕ) → q / 2 ^ k ≡ i → h q ≡ g q) → (l : Leaf) → Whole h k i l → Whole g k i l
    move h g e l w = record { order = w.order; first = w.first; aligned = w.aligned; each = λ j s. sym (e (i * 2 ^ k + j) (high i k s)) ∙ w.each j s }

    go : (x y : Option Leaf) → block_leaf h k i ≡ x → block_leaf g k i ≡ y → block_leaf h k i ≡ block_leaf g k i
    go None None a b = a ∙ sym b
    go (Some l) y a b = a ∙ sym (whole_back g k i l (move h g e l (whole h k i l a)))
    go None (Some l) a b = whole_back h k i l (move g h (λ q s. sym (e q s)) l (whole g k i l b)) ∙ sym b
