use Rattle.std.proofs.Common.{◌≡◌, ℕ, zero, suc, ◌+◌, ◌-◌, ◌*◌, ◌/◌, ◌%◌, ◌^◌, ◌<◌, Bool, true, false, cond, is_some, [], ◌∷◌, Some, None, Option, sym, refl, ap, ◌∙◌, subst, inl, inr, arith}
use Rattle.std.proofs.lemmas.Bool.{cases_eq, cases_Bool, cond-true, cond-false, eq-eqb, ne_eqb, lt-ltb, le-ltb}
use Rattle.mapping.specs.Told.{none_some, some_is}
use Rattle.mapping.specs.declared.leaf.Leaf.{Leaf}
use Rattle.mapping.specs.Leaves.{Leaves, AllLawful, Determines, lay}
use Rattle.mapping.specs.AlphaFormat.{alpha_of, alpha_sizes, alpha_entry, alpha_leaf, alpha_word, AlphaTells, AlphaDetermines}
use Rattle.mapping.specs.Sv39Format.{sv39_sizes, sv39_of, lower_of, upper_of, any_leaf, sv39_entry, sv39_leaf, sv39_word, walk, Sv39Tells, Sv39Determines}
use Rattle.mapping.specs.AlphaLeaves.{leaf_none, read_back, order_of}
use Rattle.mapping.specs.Sv39Words.{leaf_not, leaf_is, walk_big, walk_small, word_leaf, sized, leaf_word}

-- Alpha: the entry in the two ways that it is written
alpha_spelled : (f k : ℕ) (w : Bool) → f * 4294967296 + 4353 + 32 * (k / 3) + cond w 0 4 ≡ alpha_word f k (cond w 0 1)
unfolding alpha_word
alpha_spelled f k true = refl
alpha_spelled f k false = refl

pub alpha_tells : AlphaTells
alpha_tells at law o p a b =
    let i : ℕ = o * 1024 + p in
    let q : i / 1024 ≡ o = omega arith in
    let r : i % 1024 ≡ p = omega arith in
    let e : alpha_entry at i ≡ alpha_of p (at o p) = ap (λ x. alpha_of x (at (i / 1024) x)) r ∙ ap (λ y. alpha_of p (at y p)) q in
    ap (alpha_leaf p) e ∙ go (at o p) refl
  where
    go : (x : Option Leaf) → at o p ≡ x → alpha_leaf p (alpha_of p x) ≡ x
    go None e = leaf_none p 0 refl
    go (Some l) e =
        let w = law.each o p l e in
        ap (alpha_leaf p) (alpha_spelled (l.frame.0 + p % 2 ^ l.order) l.order l.writable)
        ∙ read_back l p p (order_of l.order w.sized) w.aligned w.straight w.from w.below

pub alpha_determines : AlphaDetermines
alpha_determines at bt la lb o p a b e = sym (alpha_tells at la o p a b) ∙ ap (alpha_leaf p) e ∙ alpha_tells bt lb o p a b

pub alpha_determines_places : Determines alpha_sizes alpha_entry (λ o p. (o * 1024 + p) ∷ [])
alpha_determines_places at bt la lb o p a b e = alpha_determines at bt la lb o p a b (cc)

-- Sv39
sv39_spelled : (f : ℕ) (w : Bool) → f * 1024 + cond w 199 67 ≡ sv39_word f (cond w 1 0)
unfolding sv39_word
sv39_spelled f true = omega arith
sv39_spelled f false = omega arith

of_leaf : (l : Leaf) → sv39_of l % 4 ≡ 3
of_leaf l = ap (λ x. x % 4) (sv39_spelled l.frame.0 l.writable) ∙ word_leaf _ _

of_tells : (l : Leaf) (f k : ℕ) → f ≡ l.first.0 → k ≡ l.order → sv39_leaf f k (sv39_of l) ≡ Some l
of_tells l f k a b =
    ap (sv39_leaf f k) (sv39_spelled l.frame.0 l.writable) ∙ leaf_is f k _ (word_leaf _ _) ∙ leaf_word f k l.frame.0 l.writable
    ∙ ap (λ x. Some (lay x k l.frame.0 l.writable)) a ∙ ap (λ x. Some (lay l.first.0 x l.frame.0 l.writable)) b

-- a page with a leaf is found among those around it
pub any_has : (at : Leaves) (o p n d : ℕ) (l : Leaf) → d < n → at o (p + d) ≡ Some l → any_leaf at o p n ≡ true
unfolding any_leaf
any_has at o p zero d l h e = absurd (omega arith)
any_has at o p (suc n) d l h e =
    elim (cases_eq d n) [
      | inl q ↦ cond-true _ true _ (ap is_some (ap (λ x. at o (p + x)) (sym q) ∙ e))
      | inr q ↦
          let i : d < n = omega arith in
          elim (cases_Bool (is_some (at o (p + n)))) [
            | inl b ↦ cond-true _ true _ b
            | inr b ↦ cond-false _ true _ b ∙ any_has at o p n d l i e
          ]
    ]

module _ (at : Leaves) (law : AllLawful sv39_sizes at) (o p : ℕ) (a : o < 4) (b : p < 1024) where
  upper_is : sv39_entry at (o * 2 + p / 512) ≡ upper_of (o * 2 + p / 512) (at o (p / 512 * 512)) (any_leaf at o (p / 512 * 512) 512)
  upper_is =
      let i : ℕ = o * 2 + p / 512 in
      let q : i / 2 ≡ o = omega arith in
      let r : i % 2 ≡ p / 512 = omega arith in
      cond-true _ _ _ (lt-ltb i 8 (omega arith))
      ∙ ap (λ x. upper_of i (at x (i % 2 * 512)) (any_leaf at x (i % 2 * 512) 512)) q
      ∙ ap (λ x. upper_of i (at o (x * 512)) (any_leaf at o (x * 512) 512)) r

  lower_is : sv39_entry at (8 + o * 1024 + p) ≡ lower_of (at o p)
  lower_is =
      let i : ℕ = 8 + o * 1024 + p in
      let q : (i - 8) / 1024 ≡ o = omega arith in
      let r : (i - 8) % 1024 ≡ p = omega arith in
      cond-false _ _ _ (le-ltb i 8 (omega arith)) ∙ ap (λ x. lower_of (at x ((i - 8) % 1024))) q ∙ ap (λ x. lower_of (at o x)) r

  -- a leaf of order 9 has the whole half
  big_first : (q r : ℕ) (l : Leaf) → at o q ≡ Some l → l.order ≡ 9 → q / 512 ≡ r / 512 → at o r ≡ Some l
  big_first q r l e k d =
      let w = law.each o q l e in
      let z : 2 ^ l.order ≡ 512 = ap (λ x. 2 ^ x) k in
      let m : l.first.0 % 512 ≡ 0 = subst (λ x. l.first.0 % x ≡ 0) z w.aligned in
      let f = w.from in
      let u = w.below in
      w.same r (omega arith) (omega arith)

  -- the upper entry where no leaf of order 9 lies there
  plain : ((l : Leaf) → at o p ≡ Some l → l.order ≡ 9 → ⊥) → (x : Option Leaf) → at o (p / 512 * 512) ≡ x
      → upper_of (o * 2 + p / 512) x (any_leaf at o (p / 512 * 512) 512) ≡ cond (any_leaf at o (p / 512 * 512) 512) ((o * 2 + p / 512) * 1024 + 1) 0
  plain none9 None e = refl
  plain none9 (Some l) e =
      cond-false _ _ _ (ne_eqb l.order 9 (λ k. none9 l (big_first (p / 512 * 512) p l e k (omega arith)) k))

  tell : (x : Option Leaf) → at o p ≡ x → walk (sv39_entry at (o * 2 + p / 512)) (sv39_entry at (8 + o * 1024 + p)) p ≡ x
  tell (Some l) e =
      let w = law.each o p l e in
      elim (sized l.order w.sized) [
        | inl k ↦
            let first : at o (p / 512 * 512) ≡ Some l = big_first p (p / 512 * 512) l e k (omega arith) in
            let u : sv39_entry at (o * 2 + p / 512) ≡ sv39_of l = upper_is ∙ ap (λ x. upper_of (o * 2 + p / 512) x (any_leaf at o (p / 512 * 512) 512)) first ∙ cond-true _ _ _ (eq-eqb l.order 9 k) in
            let z : 2 ^ l.order ≡ 512 = ap (λ x. 2 ^ x) k in
            let m : l.first.0 % 512 ≡ 0 = subst (λ x. l.first.0 % x ≡ 0) z w.aligned in
            let f = w.from in
            let d = w.below in
            ap (λ x. walk x (sv39_entry at (8 + o * 1024 + p)) p) u
            ∙ walk_big (sv39_of l) _ p (λ h. let y = of_leaf l in omega arith)
            ∙ of_tells l (p / 512 * 512) 9 (omega arith) (sym k)
        | inr k ↦
            let none9 : (m : Leaf) → at o p ≡ Some m → m.order ≡ 9 → ⊥ = λ m g h. let y : l.order ≡ m.order = ap (λ (z : Leaf). z.order) (some_is _ _ (sym e ∙ g)) in omega arith in
            let s : p / 512 * 512 + p % 512 ≡ p = omega arith in
            let any : any_leaf at o (p / 512 * 512) 512 ≡ true = any_has at o (p / 512 * 512) 512 (p % 512) l (omega arith) (ap (at o) s ∙ e) in
            let u : sv39_entry at (o * 2 + p / 512) ≡ (o * 2 + p / 512) * 1024 + 1 = upper_is ∙ plain none9 _ refl ∙ cond-true _ _ _ any in
            let v : sv39_entry at (8 + o * 1024 + p) ≡ sv39_of l = lower_is ∙ ap lower_of e ∙ cond-true _ _ _ (eq-eqb l.order 0 k) in
            let z : 2 ^ l.order ≡ 1 = ap (λ x. 2 ^ x) k in
            let f = w.from in
            let d = w.below in
            walk_small _ _ p (omega arith) ∙ ap (sv39_leaf p 0) v ∙ of_tells l p 0 (omega arith) (sym k)
      ]
  tell None e =
      let none9 : (m : Leaf) → at o p ≡ Some m → m.order ≡ 9 → ⊥ = λ m g h. none_some m _ e g in
      let u : sv39_entry at (o * 2 + p / 512) ≡ cond (any_leaf at o (p / 512 * 512) 512) ((o * 2 + p / 512) * 1024 + 1) 0 = upper_is ∙ plain none9 _ refl in
      let v : sv39_entry at (8 + o * 1024 + p) ≡ 0 = lower_is ∙ ap lower_of e in
      elim (cases_Bool (any_leaf at o (p / 512 * 512) 512)) [
        | inl y ↦ let t = u ∙ cond-true _ _ _ y in walk_small _ _ p (omega arith) ∙ leaf_not p 0 _ (λ h. omega arith)
        | inr y ↦ let t = u ∙ cond-false _ _ _ y in walk_big _ _ p (λ h. omega arith) ∙ leaf_not (p / 512 * 512) 9 _ (λ h. omega arith)
      ]

pub sv39_tells : Sv39Tells
sv39_tells at law o p a b = tell at law o p a b (at o p) refl

pub sv39_determines : Sv39Determines
sv39_determines at bt la lb o p a b u v =
    sym (sv39_tells at la o p a b) ∙ ap (λ x. walk x (sv39_entry at (8 + o * 1024 + p)) p) u
    ∙ ap (λ x. walk (sv39_entry bt (o * 2 + p / 512)) x p) v ∙ sv39_tells bt lb o p a b

pub sv39_determines_places : Determines sv39_sizes sv39_entry (λ o p. (o * 2 + p / 512) ∷ (8 + o * 1024 + p) ∷ [])
sv39_determines_places at bt la lb o p a b e = sv39_determines at bt la lb o p a b (cc) (cc)
