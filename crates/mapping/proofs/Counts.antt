use Rattle.std.proofs.Common.{◌≡◌, ℕ, zero, suc, ◌+◌, ◌<◌, ◌≤◌, cond, eqb, not, sym, refl, ap, ◌∙◌, inl, inr, arith}
use mir.Val.{bool_byte}
use Rattle.std.proofs.lemmas.Bool.{cases_eq, cases_Bool, cond-true, cond-false, eq-eqb, ne_eqb}
use Rattle.mapping.specs.Sv39Format.{any_below, count_below}
use Rattle.mapping.specs.Sv39Words.{any_zero, any_where}

-- 1 of an entry that is not 0
abbrev pub one : ℕ → ℕ
one x = cond (eqb x 0) 0 1

pub one_byte : (x : ℕ) → bool_byte (not (eqb x 0)) ≡ one x
one_byte x = elim (cases_eq x 0) [ inl z ↦ rw (eq-eqb x 0 z) refl | inr n ↦ rw (ne_eqb x 0 n) refl ]

pub one_zero : (x : ℕ) → x ≡ 0 → one x ≡ 0
one_zero x z = cond-true (eqb x 0) 0 1 (eq-eqb x 0 z)

pub one_some : (x : ℕ) → (x ≡ 0 → ⊥) → one x ≡ 1
one_some x n = cond-false (eqb x 0) 0 1 (ne_eqb x 0 n)

pub one_small : (x : ℕ) → one x ≤ 1
one_small x = elim (cases_eq x 0) [ inl z ↦ omega (arith, one_zero x z) | inr n ↦ omega (arith, one_some x n) ]

pub count_cong : (f g : ℕ → ℕ) (n : ℕ) → ((d : ℕ) → d < n → g d ≡ f d) → count_below g n ≡ count_below f n
unfolding count_below
count_cong f g zero e = refl
count_cong f g (suc n) e = ap (λ x. x + one (g n)) (count_cong f g n (λ d h. e d (omega arith))) ∙ ap (λ x. count_below f n + one x) (e n (omega arith))

pub count_none : (f : ℕ → ℕ) (n : ℕ) → ((d : ℕ) → d < n → f d ≡ 0) → count_below f n ≡ 0
unfolding count_below
count_none f zero e = refl
count_none f (suc n) e = omega (arith, count_none f n (λ d h. e d (omega arith)), one_zero (f n) (e n (omega arith)))

pub count_small : (f : ℕ → ℕ) (n : ℕ) → count_below f n ≤ n
unfolding count_below
count_small f zero = omega arith
count_small f (suc n) = omega (arith, count_small f n, one_small (f n))

-- each entry is counted
pub count_has : (f : ℕ → ℕ) (n d : ℕ) → d < n → one (f d) ≤ count_below f n
unfolding count_below
count_has f zero d h = absurd (omega arith)
count_has f (suc n) d h =
    elim (cases_eq d n) [
      | inl e ↦ omega (arith, ap (λ x. one (f x)) e)
      | inr e ↦ let l : d < n = omega arith in omega (arith, count_has f n d l)
    ]

pub count_zero : (f : ℕ → ℕ) (n : ℕ) → count_below f n ≡ 0 → (d : ℕ) → d < n → f d ≡ 0
count_zero f n z d h =
    elim (cases_eq (f d) 0) [ inl e ↦ e | inr e ↦ absurd (omega (arith, count_has f n d h, one_some (f d) e)) ]

-- one entry changes
pub count_set : (f g : ℕ → ℕ) (n d : ℕ) → d < n → ((j : ℕ) → j < n → (j ≡ d → ⊥) → g j ≡ f j) → count_below g n + one (f d) ≡ count_below f n + one (g d)
unfolding count_below
count_set f g zero d h e = absurd (omega arith)
count_set f g (suc n) d h e =
    elim (cases_eq d n) [
      | inl q ↦ omega (arith, ap (λ x. one (f x)) q, ap (λ x. one (g x)) q, count_cong f g n (λ j l. e j (omega arith) (λ z. omega arith)))
      | inr q ↦
          let l : d < n = omega arith in
          omega (arith, count_set f g n d l (λ j i. e j (omega arith)), ap one (e n (omega arith) (λ z. q (sym z))))
    ]

-- no leaf is counted exactly where none is there
pub count_any : (f : ℕ → ℕ) (n x y : ℕ) → cond (eqb (count_below f n) 0) x y ≡ cond (any_below f n) y x
count_any f n x y =
    elim (cases_Bool (any_below f n)) [
      | inl t ↦
          let w = any_where f n t in
          cond-false _ x y (ne_eqb (count_below f n) 0 (λ z. w.2 (count_zero f n z w.0 w.1))) ∙ sym (cond-true _ y x t)
      | inr t ↦ cond-true _ x y (eq-eqb (count_below f n) 0 (count_none f n (any_zero f n t))) ∙ sym (cond-false _ y x t)
    ]
