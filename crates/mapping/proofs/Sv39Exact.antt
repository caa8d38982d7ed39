use Rattle.std.proofs.Common.{◌≡◌, ℕ, zero, suc, ◌+◌, ◌-◌, ◌*◌, ◌/◌, ◌%◌, ◌^◌, ◌<◌, true, false, cond, eqb, List, length, get_or, is_some, Some, None, Option, sym, refl, ap, ◌∙◌, subst, inl, inr, arith}
use Rattle.std.proofs.lemmas.Bool.{cases_eq, cases_lt, cases_Bool, cond-true, cond-false, eq-eqb, ne_eqb, lt-ltb, le-ltb, true≢false}
use Rattle.mapping.specs.Told.{none_some, some_is}
use Rattle.mapping.specs.declared.leaf.Leaf.{Leaf}
use Rattle.mapping.specs.Leaves.{Leaves, Lawful}
use Rattle.mapping.specs.Sv39Format.{sv39_word, held, sv39_at, sv39_sizes, lower_of, upper_of, any_leaf, sv39_of, sv39_entry, Sv39Table}
use Rattle.mapping.specs.Sv39Words.{Sound, any_zero, any_where, word_frame, word_leaf, upper_kinds, lower_kinds, leaf_not, leaf_is, at_small, at_big, sized}
use Rattle.mapping.specs.Sv39Moves.{big_frame, sv39_lawful}
use Rattle.mapping.specs.Inverse.{any_has}

flags : (h : ℕ) → h < 2 → 67 + 132 * h ≡ cond (eqb h 1) 199 67
flags h l = elim (cases_eq h 0) [ inl z ↦ rw z | inr n ↦ let z : h ≡ 1 = omega arith in rw z ]

word_opened : (f h : ℕ) → sv39_word f h ≡ f * 1024 + (67 + 132 * h)
unfolding sv39_word
word_opened f h = omega arith

-- a leaf's entry by its own frame and flags
spelled : (e f : ℕ) → e ≡ sv39_word f (e / 4 % 2) → e ≡ e / 1024 * 1024 + cond (eqb (e / 4 % 2) 1) 199 67
spelled e f m =
    let g : e / 1024 ≡ f = ap (λ x. x / 1024) m ∙ word_frame f (e / 4 % 2) (omega arith) in
    opened e f m g ∙ ap (λ x. e / 1024 * 1024 + x) (flags (e / 4 % 2) (omega arith))
  where
    opened : (e f : ℕ) → e ≡ sv39_word f (e / 4 % 2) → e / 1024 ≡ f → e ≡ e / 1024 * 1024 + (67 + 132 * (e / 4 % 2))
    opened e f m g = m ∙ word_opened f (e / 4 % 2) ∙ ap (λ x. x * 1024 + (67 + 132 * (e / 4 % 2))) (sym g)

module _ (xs : List ℕ) (sound : Sound (λ i. get_or xs i 0)) (o p : ℕ) (a : o < 4) (b : p < 1024) where
  low_zero : held (λ i. get_or xs i 0) (o * 2 + p / 512) ≡ false → get_or xs (8 + o * 1024 + p) 0 ≡ 0
  unfolding held
  low_zero h =
      let i : 8 + (o * 2 + p / 512) * 512 + p % 512 ≡ 8 + o * 1024 + p = omega arith in
      subst (λ j. get_or xs j 0 ≡ 0) i (any_zero _ 512 h (p % 512) (omega arith))

  pub low_exact : get_or xs (8 + o * 1024 + p) 0 ≡ lower_of (sv39_at xs o p)
  low_exact =
      elim (cases_eq (get_or xs (o * 2 + p / 512) 0 % 4) 3) [
        | inl t ↦ low_zero (big_frame xs sound (o * 2 + p / 512) (omega arith) t).1 ∙ sym (ap lower_of (at_big xs sound o p a b t))
        | inr t ↦ elim (lower_kinds _ (sound.low (8 + o * 1024 + p) (omega arith))) [
          | inl z ↦ z ∙ sym (ap lower_of (at_small xs sound o p a b t ∙ leaf_not p 0 _ (λ h. omega arith)))
          | inr m ↦ spelled _ _ m ∙ sym (ap lower_of (at_small xs sound o p a b t ∙ leaf_is p 0 _ (ap (λ x. x % 4) m ∙ word_leaf _ _)))
        ]
      ]

  -- a leaf of order 0 lies under a pointer, one of order 9 in the top entry
  pub under : (l : Leaf) → sv39_at xs o p ≡ Some l → l.order ≡ 0 → get_or xs (o * 2 + p / 512) 0 ≡ (o * 2 + p / 512) * 1024 + 1
  under l e z =
      elim (upper_kinds _ _ _ (sound.top (o * 2 + p / 512) (omega arith))) [
        | inl k ↦ k.1
        | inr k ↦ elim k [
          | inl m ↦ let y = low_zero m.0 in absurd (none_some l _ (at_small xs sound o p a b (λ h. let q = m.1 in omega arith) ∙ leaf_not p 0 _ (λ h. omega arith)) e)
          | inr m ↦ let q : 9 ≡ l.order = ap (λ (z : Leaf). z.order) (some_is _ _ (sym (at_big xs sound o p a b (ap (λ x. x % 4) m.1 ∙ word_leaf _ _)) ∙ e)) in absurd (omega arith)
        ]
      ]

  pub over : (l : Leaf) → sv39_at xs o p ≡ Some l → l.order ≡ 9 → get_or xs (o * 2 + p / 512) 0 ≡ l.frame.0 * 1024 + cond l.writable 199 67
  over l e z =
      elim (cases_eq (get_or xs (o * 2 + p / 512) 0 % 4) 3) [
        | inl t ↦ elim (upper_kinds _ _ _ (sound.top (o * 2 + p / 512) (omega arith))) [
          | inl k ↦ let q = k.1 in absurd (omega arith)
          | inr k ↦ elim k [
            | inl m ↦ let q = m.1 in absurd (omega arith)
            | inr m ↦ spelled _ _ m.1 ∙ ap (λ (y : Leaf). y.frame.0 * 1024 + cond y.writable 199 67) (some_is _ _ (sym (at_big xs sound o p a b t) ∙ e))
          ]
        ]
        | inr t ↦ elim (cases_eq (get_or xs (8 + o * 1024 + p) 0 % 4) 3) [
          | inl h ↦ let q : 0 ≡ l.order = ap (λ (z : Leaf). z.order) (some_is _ _ (sym (at_small xs sound o p a b t ∙ leaf_is p 0 _ h) ∙ e)) in absurd (omega arith)
          | inr h ↦ absurd (none_some l _ (at_small xs sound o p a b t ∙ leaf_not p 0 _ h) e)
        ]
      ]

-- what the format gives for the upper entry of half i of object o
pub record Top (at : Leaves) (o i e : ℕ) : Type 0 where
  pub leaf : (l : Leaf) → at o (i * 512) ≡ Some l → l.order ≡ 9 → e ≡ sv39_of l
  pub pointer : (d : ℕ) (l : Leaf) → d < 512 → at o (i * 512 + d) ≡ Some l → l.order ≡ 0 → e ≡ (o * 2 + i) * 1024 + 1
  pub none : ((d : ℕ) → d < 512 → at o (i * 512 + d) ≡ None) → e ≡ 0

pub top_exact : (xs : List ℕ) → Sound (λ i. get_or xs i 0) → (o i : ℕ) → o < 4 → i < 2 → Top (sv39_at xs) o i (get_or xs (o * 2 + i) 0)
unfolding held
top_exact xs sound o i a b =
    record {
      leaf = λ l e z. let h : i * 512 / 512 ≡ i = omega arith in subst (λ y. get_or xs (o * 2 + y) 0 ≡ l.frame.0 * 1024 + cond l.writable 199 67) h (over xs sound o (i * 512) a (omega arith) l e z);
      pointer = λ d l g e z. let h : (i * 512 + d) / 512 ≡ i = omega arith in subst (λ y. get_or xs (o * 2 + y) 0 ≡ (o * 2 + y) * 1024 + 1) h (under xs sound o (i * 512 + d) a (omega arith) l e z);
      none = λ each. elim (upper_kinds _ _ _ (sound.top (o * 2 + i) (omega arith))) [
        | inl k ↦
            let w = any_where _ 512 k.0 in
            let g : w.0 < 512 = w.1 in
            let q : 8 + (o * 2 + i) * 512 + w.0 ≡ 8 + o * 1024 + (i * 512 + w.0) = omega arith in
            let n : get_or xs (8 + o * 1024 + (i * 512 + w.0)) 0 ≡ 0 → ⊥ = subst (λ y. get_or xs y 0 ≡ 0 → ⊥) q w.2 in
            absurd (n (low_exact xs sound o (i * 512 + w.0) a (omega arith) ∙ ap lower_of (each w.0 g)))
        | inr k ↦ elim k [
          | inl m ↦ m.1
          | inr m ↦
              let h : i ≡ (i * 512 + 0) / 512 = omega arith in
              let t : get_or xs (o * 2 + (i * 512 + 0) / 512) 0 % 4 ≡ 3 = subst (λ y. get_or xs (o * 2 + y) 0 % 4 ≡ 3) h (ap (λ x. x % 4) m.1 ∙ word_leaf _ _) in
              absurd (none_some _ _ (each 0 (omega arith)) (at_big xs sound o (i * 512 + 0) a (omega arith) t))
        ]
      ];
    }

-- some page has a leaf, or none has
has : {A : Type 0} (x : Option A) → is_some x ≡ true → (a : A) × (x ≡ Some a)
has None e = absurd (true≢false (sym e))
has (Some a) e = (a, refl)

lacks : {A : Type 0} (x : Option A) → is_some x ≡ false → x ≡ None
lacks None e = refl
lacks (Some a) e = absurd (true≢false e)

any_finds : (at : Leaves) (o p n : ℕ) → any_leaf at o p n ≡ true → (d : ℕ) × (l : Leaf) × (d < n) × (at o (p + d) ≡ Some l)
unfolding any_leaf
any_finds at o p zero e = absurd (true≢false (sym e))
any_finds at o p (suc n) e =
    elim (cases_Bool (is_some (at o (p + n)))) [
      | inl b ↦ let h = has _ b in (n, h.0, omega arith, h.1)
      | inr b ↦ let r = any_finds at o p n (sym (cond-false _ true _ b) ∙ e) in let k = r.2 in (r.0, r.1, omega arith, r.3)
    ]

any_lacks : (at : Leaves) (o p n : ℕ) → any_leaf at o p n ≡ false → (d : ℕ) → d < n → at o (p + d) ≡ None
any_lacks at o p n e d h =
    elim (cases_Bool (is_some (at o (p + d)))) [
      | inl b ↦ let x = has _ b in absurd (true≢false (sym (any_has at o p n d x.0 h x.1) ∙ e))
      | inr b ↦ lacks _ b
    ]

module _ (xs : List ℕ) (sound : Sound (λ i. get_or xs i 0)) where
  module _ (o i : ℕ) (a : o < 4) (b : i < 2) where
    first : (x : Option Leaf) → sv39_at xs o (i * 512) ≡ x → get_or xs (o * 2 + i) 0 ≡ upper_of (o * 2 + i) x (any_leaf (sv39_at xs) o (i * 512) 512)
    first (Some l) e =
        let t = top_exact xs sound o i a b in
        elim (cases_eq l.order 9) [
          | inl z ↦ t.leaf l e z ∙ sym (cond-true _ _ _ (eq-eqb l.order 9 z))
          | inr n ↦
              let q : i * 512 ≡ i * 512 + 0 = omega arith in
              let z : l.order ≡ 0 = elim (sized l.order (sv39_lawful xs sound o (i * 512) l e).sized) [ inl h ↦ absurd (n h) | inr h ↦ h ] in
              let e' : sv39_at xs o (i * 512 + 0) ≡ Some l = ap (sv39_at xs o) (sym q) ∙ e in
              t.pointer 0 l (omega arith) e' z
              ∙ sym (cond-false _ _ _ (ne_eqb l.order 9 n) ∙ cond-true _ _ _ (any_has (sv39_at xs) o (i * 512) 512 0 l (omega arith) e'))
        ]
    first None e =
        let t = top_exact xs sound o i a b in
        elim (cases_Bool (any_leaf (sv39_at xs) o (i * 512) 512)) [
          | inl y ↦
              let r = any_finds (sv39_at xs) o (i * 512) 512 y in
              let d : ℕ = r.0 in
              let l : Leaf = r.1 in
              let h : d < 512 = r.2 in
              let w : Lawful sv39_sizes (sv39_at xs) o (i * 512 + d) l = sv39_lawful xs sound o (i * 512 + d) l r.3 in
              elim (sized l.order w.sized) [
                | inl z ↦
                    let p : 2 ^ l.order ≡ 512 = ap (λ k. 2 ^ k) z in
                    let f = w.from in
                    let u = w.below in
                    let m : l.first.0 % 512 ≡ 0 = subst (λ k. l.first.0 % k ≡ 0) p w.aligned in
                    absurd (none_some l _ e (w.same (i * 512) (omega arith) (omega arith)))
                | inr z ↦ t.pointer d l h r.3 z ∙ sym (cond-true _ _ _ y)
              ]
          | inr y ↦ t.none (any_lacks (sv39_at xs) o (i * 512) 512 y) ∙ sym (cond-false _ _ _ y)
        ]

  pub sv39_entry_lem : (i : ℕ) → i < 4104 → get_or xs i 0 ≡ sv39_entry (sv39_at xs) i
  sv39_entry_lem i h =
      elim (cases_lt i 8) [
        | inl l ↦
            let e : i / 2 * 2 + i % 2 ≡ i = omega arith in
            subst (λ j. get_or xs j 0 ≡ upper_of j (sv39_at xs (i / 2) (i % 2 * 512)) (any_leaf (sv39_at xs) (i / 2) (i % 2 * 512) 512)) e
            (first (i / 2) (i % 2) (omega arith) (omega arith) _ refl)
            ∙ sym (cond-true _ _ _ (lt-ltb i 8 l))
        | inr g ↦
            let e : 8 + (i - 8) / 1024 * 1024 + (i - 8) % 1024 ≡ i = omega arith in
            ap (λ j. get_or xs j 0) (sym e) ∙ low_exact xs sound ((i - 8) / 1024) ((i - 8) % 1024) (omega arith) (omega arith)
            ∙ sym (cond-false _ _ _ (le-ltb i 8 g))
      ]

  pub sv39_table : length xs ≡ 4104 → Sv39Table (sv39_at xs) xs
  sv39_table l = record { long = l; exact = sv39_entry_lem }
