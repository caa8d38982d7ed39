use Rattle.std.specs.Prelude.{◌≡◌, ℕ, zero, suc, ◌+◌, ◌*◌, ◌/◌, ◌%◌, ◌^◌, ◌<◌, ◌≤◌, Bool, true, false, cond, ◌≢◌, ◌⊎◌, List, Some, None, ◌==◌, slice_index, slice_index_or, refl}
use Rattle.std.proofs.Common.{ap, ◌∙◌, subst}
use Rattle.std.proofs.Math.Path.{sym}
use Rattle.std.proofs.Math.Logic.{inl, inr}
use native.Mathlib.Omega.{arith}
use Rattle.std.proofs.lemmas.Bool.{cases_eq, cases_lt, cond-true, cond-false, eq-eqb, ne_eqb, true≢false, both_ways}
use Rattle.mapping.specs.Told.{told_in, told_out}
use Rattle.mapping.specs.declared.leaf.Leaf.{Leaf}
use Rattle.mapping.specs.Leaves.{OneOf, lay}
use Rattle.mapping.specs.Sv39Format.{sv39_word, lower_word, upper_word, any_below, held, sv39_leaf, walk, sv39_at, sv39_sizes}

pub any_cong : (f g : ℕ → ℕ) (n : ℕ) → ((d : ℕ) → d < n → f d ≡ g d) → any_below f n ≡ any_below g n
unfolding any_below
any_cong f g zero e = refl
any_cong f g (suc n) e = ap (λ x. cond (x == 0) (any_below f n) true) (e n (omega arith)) ∙ ap (λ x. cond (g n == 0) x true) (any_cong f g n (λ d h. e d (omega arith)))

pub any_none : (f : ℕ → ℕ) (n : ℕ) → ((d : ℕ) → d < n → f d ≡ 0) → any_below f n ≡ false
unfolding any_below
any_none f zero e = refl
any_none f (suc n) e = cond-true (f n == 0) (any_below f n) true (eq-eqb (f n) 0 (e n (omega arith))) ∙ any_none f n (λ d h. e d (omega arith))

pub any_some : (f : ℕ → ℕ) (n d : ℕ) → d < n → (f d ≢ 0) → any_below f n ≡ true
unfolding any_below
any_some f zero d h z = absurd (omega arith)
any_some f (suc n) d h z =
    elim (cases_eq (f n) 0) [
      | inr y ↦ cond-false (f n == 0) (any_below f n) true (ne_eqb (f n) 0 y)
      | inl y ↦ cond-true (f n == 0) (any_below f n) true (eq-eqb (f n) 0 y) ∙ any_some f n d (elim (cases_eq d n) [ inl e ↦ absurd (z (ap f e ∙ y)) | inr e ↦ omega arith ]) z
    ]

pub any_zero : (f : ℕ → ℕ) (n : ℕ) → any_below f n ≡ false → (d : ℕ) → d < n → f d ≡ 0
any_zero f n e d h = elim (cases_eq (f d) 0) [ inl z ↦ z | inr z ↦ absurd (both_ways _ e (any_some f n d h z)) ]

-- a table that holds a leaf has one somewhere
pub any_where : (f : ℕ → ℕ) (n : ℕ) → any_below f n ≡ true → (d : ℕ) × (d < n) × (f d ≢ 0)
unfolding any_below
any_where f zero e = absurd (true≢false (sym e))
any_where f (suc n) e =
    elim (cases_eq (f n) 0) [
      | inr y ↦ (n, omega arith, y)
      | inl y ↦ let w = any_where f n (sym (cond-true (f n == 0) (any_below f n) true (eq-eqb (f n) 0 y)) ∙ e) in let h = w.1 in (w.0, omega arith, w.2)
    ]

pub record Sound (t : ℕ → ℕ) : Type 0 where
  pub small : (i : ℕ) → t i < 2 ^ 21
  pub low : (i : ℕ) → 8 ≤ i → t i ≡ lower_word (t i)
  pub top : (n : ℕ) → n < 8 → t n ≡ upper_word n (t n) (held t n)

-- i lies in table n
pub record On (n i : ℕ) : Type 0 where
  pub from : 8 + n * 512 ≤ i
  pub below : i < 8 + n * 512 + 512

-- only top entry n and its table change
pub record Moved (s t : ℕ → ℕ) (n : ℕ) : Type 0 where
  pub tops : (m : ℕ) → m < 8 → (m ≢ n) → t m ≡ s m
  pub lows : (i : ℕ) → 8 ≤ i → (On n i → ⊥) → t i ≡ s i

-- upper entry n is set to v, and every entry of its table is 0; all others stay
pub record Topped (xs ys : List ℕ) (n v : ℕ) : Type 0 where
  pub here : slice_index_or ys n 0 ≡ v
  pub inside : (d : ℕ) → d < 512 → slice_index ys (8 + n * 512 + d) ≡ 0
  pub others : (j : ℕ) → (j ≢ n) → (On n j → ⊥) → slice_index ys j ≡ slice_index xs j

-- entry i of table n is set to v, and upper entry n points to the table if it holds a leaf; all others stay
pub record Lowered (xs ys : List ℕ) (n i v : ℕ) : Type 0 where
  pub here : slice_index_or ys i 0 ≡ v
  pub top : slice_index_or ys n 0 ≡ cond (held (λ i. slice_index ys i) n) (n * 1024 + 1) 0
  pub others : (j : ℕ) → (j ≢ i) → (j ≢ n) → slice_index ys j ≡ slice_index xs j

on? : (n i : ℕ) → On n i ⊎ (On n i → ⊥)
on? n i = elim (cases_lt i (8 + n * 512)) [
  | inl a ↦ inr (λ o. let b = o.from in omega arith)
  | inr a ↦ elim (cases_lt i (8 + n * 512 + 512)) [ inl b ↦ inl (record { from = a; below = b }) | inr b ↦ inr (λ o. let c = o.below in omega arith) ]
]

pub held_kept : (s t : ℕ → ℕ) (n m : ℕ) → Moved s t n → (m ≢ n) → held t m ≡ held s m
unfolding held
held_kept s t n m mv ne =
    any_cong _ _ 512 (λ d h. mv.lows (8 + m * 512 + d) (omega arith) (λ o. let a = o.from in let b = o.below in off d h a b))
  where
    off : (d : ℕ) → d < 512 → 8 + n * 512 ≤ 8 + m * 512 + d → 8 + m * 512 + d < 8 + n * 512 + 512 → ⊥
    off d h a b = ne (omega arith)

pub step : (s t : ℕ → ℕ) (n : ℕ) → Sound s → Moved s t n
    → ((i : ℕ) → On n i → (t i < 2 ^ 21) × (t i ≡ lower_word (t i)))
    → t n < 2 ^ 21 → t n ≡ upper_word n (t n) (held t n) → Sound t
step s t n sound mv lows fit top =
    record {
      small = λ i. elim (cases_lt i 8) [
        | inl h ↦ elim (cases_eq i n) [ inl e ↦ subst (λ x. t x < 2 ^ 21) (sym e) fit | inr e ↦ subst (λ x. x < 2 ^ 21) (sym (mv.tops i h e)) (sound.small i) ]
        | inr h ↦ elim (on? n i) [ inl o ↦ (lows i o).0 | inr o ↦ subst (λ x. x < 2 ^ 21) (sym (mv.lows i h o)) (sound.small i) ]
      ];
      low = λ i h. elim (on? n i) [ inl o ↦ (lows i o).1 | inr o ↦ subst (λ x. x ≡ lower_word x) (sym (mv.lows i h o)) (sound.low i h) ];
      top = λ m h. elim (cases_eq m n) [
        | inl e ↦ subst (λ x. t x ≡ upper_word x (t x) (held t x)) (sym e) top
        | inr e ↦ mv.tops m h e ∙ sound.top m h ∙ ap (λ x. upper_word m x (held s m)) (sym (mv.tops m h e)) ∙ ap (upper_word m (t m)) (sym (held_kept s t n m mv e))
      ];
    }

-- words
pub word_frame : (f w : ℕ) → w < 2 → sv39_word f w / 1024 ≡ f
unfolding sv39_word
word_frame f w h = omega arith

pub word_huge : (f w : ℕ) → w < 2 → f % 512 ≡ 0 → sv39_word f w / 524288 * 512 ≡ f
unfolding sv39_word
word_huge f w h a =
    let e : f * 1024 + 67 + 132 * w ≡ f / 512 * 524288 + (67 + 132 * w) = omega arith in
    let d : (f / 512 * 524288 + (67 + 132 * w)) / 524288 ≡ f / 512 = lib.Arith.digits_div (f / 512) (omega arith) in
    ap (λ x. x / 524288 * 512) e ∙ ap (λ x. x * 512) d ∙ (omega arith)

pub word_bit : (f w : ℕ) → w < 2 → sv39_word f w / 4 % 2 ≡ w
unfolding sv39_word
word_bit f w h = elim (cases_eq w 0) [ inl z ↦ omega arith | inr z ↦ let y : w ≡ 1 = omega arith in omega arith ]

pub word_some : (f w : ℕ) → sv39_word f w ≢ 0
unfolding sv39_word
word_some f w z = omega arith

pub word_lower : (f w : ℕ) → w < 2 → sv39_word f w ≡ lower_word (sv39_word f w)
unfolding lower_word
word_lower f w h =
    sym (cond-false (sv39_word f w == 0) 0 (sv39_word (sv39_word f w / 1024) (sv39_word f w / 4 % 2)) (ne_eqb _ 0 (word_some f w))
    ∙ ap (λ x. sv39_word x (sv39_word f w / 4 % 2)) (word_frame f w h) ∙ ap (sv39_word f) (word_bit f w h))

pub lower_zero : 0 ≡ lower_word 0
unfolding lower_word
lower_zero = refl

pub word_upper : (n f w : ℕ) → w < 2 → f % 512 ≡ 0 → sv39_word f w ≡ upper_word n (sv39_word f w) false
unfolding upper_word
word_upper n f w h a =
    sym (cond-false (sv39_word f w == 0) 0 (sv39_word (sv39_word f w / 524288 * 512) (sv39_word f w / 4 % 2)) (ne_eqb _ 0 (word_some f w))
    ∙ ap (λ x. sv39_word x (sv39_word f w / 4 % 2)) (word_huge f w h a) ∙ ap (sv39_word f) (word_bit f w h))

pub upper_held : (n e : ℕ) → upper_word n e true ≡ n * 1024 + 1
unfolding upper_word
upper_held n e = refl

pub upper_zero : (n : ℕ) → 0 ≡ upper_word n 0 false
unfolding upper_word
upper_zero n = refl

-- a top entry is 0, a pointer or a leaf
pub upper_kinds : (n e : ℕ) (h : Bool) → e ≡ upper_word n e h
    → ((h ≡ true) × (e ≡ n * 1024 + 1)) ⊎ (((h ≡ false) × (e ≡ 0)) ⊎ ((h ≡ false) × (e ≡ sv39_word (e / 524288 * 512) (e / 4 % 2))))
unfolding upper_word
upper_kinds n e true w = inl (refl, w)
upper_kinds n e false w =
    elim (cases_eq e 0) [
      | inl z ↦ inr (inl (refl, z))
      | inr y ↦ inr (inr (refl, w ∙ cond-false (e == 0) 0 _ (ne_eqb e 0 y)))
    ]

pub lower_kinds : (e : ℕ) → e ≡ lower_word e → (e ≡ 0) ⊎ (e ≡ sv39_word (e / 1024) (e / 4 % 2))
unfolding lower_word
lower_kinds e w =
    elim (cases_eq e 0) [ inl z ↦ inl z | inr y ↦ inr (w ∙ cond-false (e == 0) 0 _ (ne_eqb e 0 y)) ]

pub word_leaf : (f w : ℕ) → sv39_word f w % 4 ≡ 3
unfolding sv39_word
word_leaf f w = omega arith

pub leaf_not : (f k e : ℕ) → (e % 4 ≢ 3) → sv39_leaf f k e ≡ None
unfolding sv39_leaf
leaf_not f k e n = cond-false _ _ _ (ne_eqb (e % 4) 3 n)

abbrev pub leaf_of : ℕ → ℕ → ℕ → Leaf
leaf_of f k e = lay (f) (k) (e / 1024) (e / 4 % 2 == 1)

pub leaf_is : (f k e : ℕ) → e % 4 ≡ 3 → sv39_leaf f k e ≡ Some (leaf_of f k e)
unfolding sv39_leaf
leaf_is f k e n = cond-true _ _ _ (eq-eqb (e % 4) 3 n)

pub at_in : (xs : List ℕ) (o p : ℕ) → o < 4 → p < 1024 → sv39_at xs o p ≡ walk (slice_index xs (o * 2 + p / 512)) (slice_index xs (8 + o * 1024 + p)) p
unfolding sv39_at
at_in xs o p a b = told_in _ o p a b

pub at_out : (xs : List ℕ) (o p : ℕ) → ((o < 4) × (p < 1024) → ⊥) → sv39_at xs o p ≡ None
unfolding sv39_at
at_out xs o p out = told_out _ o p out

pub at_object : (xs : List ℕ) (o p : ℕ) → 4 ≤ o → sv39_at xs o p ≡ None
at_object xs o p a = at_out xs o p (λ h. let b = h.0 in omega arith)

pub at_page : (xs : List ℕ) (o p : ℕ) → 1024 ≤ p → sv39_at xs o p ≡ None
at_page xs o p a = at_out xs o p (λ h. let b = h.1 in omega arith)

pub walk_big : (t l p : ℕ) → (t % 4 ≢ 1) → walk t l p ≡ sv39_leaf (p / 512 * 512) 9 t
unfolding walk
walk_big t l p h = cond-false _ _ _ (ne_eqb (t % 4) 1 h)

pub walk_small : (t l p : ℕ) → t % 4 ≡ 1 → walk t l p ≡ sv39_leaf p 0 l
unfolding walk
walk_small t l p h = cond-true _ _ _ (eq-eqb (t % 4) 1 h)

module _ (xs : List ℕ) (sound : Sound (λ i. slice_index xs i)) (o p : ℕ) (a : o < 4) (b : p < 1024) where
  -- a top entry that is no leaf: the table tells, whether the pointer stands or not
  pub at_small : (slice_index xs (o * 2 + p / 512) % 4 ≢ 3) → sv39_at xs o p ≡ sv39_leaf p 0 (slice_index xs (8 + o * 1024 + p))
  unfolding held
  at_small n =
      let e : ℕ = slice_index_or xs (o * 2 + p / 512) 0 in
      let l : ℕ = slice_index_or xs (8 + o * 1024 + p) 0 in
      at_in xs o p a b ∙ elim (upper_kinds (o * 2 + p / 512) e _ (sound.top (o * 2 + p / 512) (omega arith))) [
        | inl k ↦ let z = k.1 in walk_small e l p (omega arith)
        | inr k ↦ elim k [
          | inl m ↦
              let z : e ≡ 0 = m.1 in
              let i : 8 + (o * 2 + p / 512) * 512 + p % 512 ≡ 8 + o * 1024 + p = omega arith in
              let y : l ≡ 0 = sym (ap (λ j. slice_index xs j) i) ∙ any_zero _ 512 m.0 (p % 512) (omega arith) in
              walk_big e l p (λ w. omega arith) ∙ leaf_not _ 9 e n ∙ sym (leaf_not p 0 l (λ w. omega arith))
          | inr m ↦ absurd (n (ap (λ x. x % 4) m.1 ∙ word_leaf _ _))
        ]
      ]

  pub at_big : slice_index_or xs (o * 2 + p / 512) 0 % 4 ≡ 3 → sv39_at xs o p ≡ Some (leaf_of (p / 512 * 512) 9 (slice_index xs (o * 2 + p / 512)))
  at_big h = at_in xs o p a b ∙ walk_big _ _ p (λ w. omega arith) ∙ leaf_is _ 9 _ h

pub bit_low : (w : Bool) → cond w 1 0 < 2
bit_low true = omega arith
bit_low false = omega arith

bit_back : (w : Bool) → (cond w 1 0 == 1) ≡ w
bit_back true = refl
bit_back false = refl

pub sized : (k : ℕ) → OneOf sv39_sizes k → (k ≡ 9) ⊎ (k ≡ 0)
sized k s =
    let t = s.there in
    elim (cases_eq s.place 0) [
      | inl z ↦ inl (sym s.is ∙ ap (λ i. slice_index sv39_sizes i) z)
      | inr y ↦ let z : s.place ≡ 1 = omega arith in inr (sym s.is ∙ ap (λ i. slice_index sv39_sizes i) z)
    ]

pub leaf_word : (f k n : ℕ) (w : Bool) → Some (leaf_of f k (sv39_word n (cond w 1 0))) ≡ Some (lay f k n w)
leaf_word f k n w =
    ap (λ x. Some (lay (f) (k) (x) (sv39_word n (cond w 1 0) / 4 % 2 == 1))) (word_frame n (cond w 1 0) (bit_low w))
    ∙ ap (λ x. Some (lay (f) (k) (n) (x == 1))) (word_bit n (cond w 1 0) (bit_low w))
    ∙ ap (λ x. Some (lay (f) (k) (n) (x))) (bit_back w)
