-- Sums and counts of pages.
use Rattle.std.proofs.Common.{◌≡◌, ℕ, zero, suc, ◌+◌, ◌-◌, ◌<◌, ◌≤◌, Bool, true, false, not, ◌⊎◌, sym, refl, ap, inl, inr, add-zero, add-suc, arith}
use Rattle.std.proofs.lemmas.Bool.{cases_eq}
use Rattle.page_machine.specs.Counting.{sum, page_count, bit}

pub sum_same : (f g : ℕ → ℕ) (n : ℕ) → ((k : ℕ) → k < n → f k ≡ g k) → sum f n ≡ sum g n
unfolding sum
sum_same f g zero e = refl
sum_same f g (suc n) e =
    let i : sum f n ≡ sum g n = sum_same f g n (λ k h. e k (omega arith)) in
    let j : f n ≡ g n = e n (omega arith) in
    omega arith

-- f and g agree but at i
pub sum_at : (f g : ℕ → ℕ) (i n : ℕ) → i < n → ((k : ℕ) → (k ≡ i → ⊥) → f k ≡ g k) → sum f n + g i ≡ sum g n + f i
unfolding sum
sum_at f g i zero h e = absurd (omega arith)
sum_at f g i (suc n) h e = elim (cases_eq i n) [
  | inl x ↦
      let s : sum f n ≡ sum g n = sum_same f g n (λ k l. e k (λ y. omega arith)) in
      let a : f i ≡ f n = ap f x in
      let b : g i ≡ g n = ap g x in
      omega arith
  | inr x ↦
      let s : sum f n + g i ≡ sum g n + f i = sum_at f g i n (omega arith) e in
      let a : f n ≡ g n = e n (λ y. x (sym y)) in
      omega arith
]

pub sum_zero : (f : ℕ → ℕ) (n : ℕ) → ((k : ℕ) → k < n → f k ≡ 0) → sum f n ≡ 0
unfolding sum
sum_zero f zero e = refl
sum_zero f (suc n) e =
    let i : sum f n ≡ 0 = sum_zero f n (λ k h. e k (omega arith)) in
    let j : f n ≡ 0 = e n (omega arith) in
    omega arith

pub pages_none : (t : ℕ → ℕ → Bool) → ((o p : ℕ) → t o p ≡ false) → page_count t ≡ 0
unfolding page_count
pages_none t e = sum_zero _ 4 (λ o _. sum_zero _ 1024 (λ p _. ap bit (e o p)))

-- t and u agree but at page p of o, where u passes and t does not
pub pages_more : (t u : ℕ → ℕ → Bool) (o p : ℕ) → o < 4 → p < 1024 → ((b q : ℕ) → ((b ≡ o) × (q ≡ p) → ⊥) → t b q ≡ u b q) → t o p ≡ false → u o p ≡ true → page_count u ≡ page_count t + 1
unfolding page_count
pages_more t u o p ho hp e x y =
    let row : (ℕ → ℕ → Bool) → ℕ → ℕ = λ s b. sum (λ q. bit (s b q)) 1024 in
    let r : row t o + bit (u o p) ≡ row u o + bit (t o p)
    = sum_at (λ q. bit (t o q)) (λ q. bit (u o q)) p 1024 hp (λ q n. ap bit (e o q (λ z. n z.1))) in
    let s : sum (row t) 4 + row u o ≡ sum (row u) 4 + row t o
    = sum_at (row t) (row u) o 4 ho (λ b n. sum_same _ _ 1024 (λ q _. ap bit (e b q (λ z. n z.0)))) in
    let a : bit (u o p) ≡ 1 = ap bit y in
    let b : bit (t o p) ≡ 0 = ap bit x in
    omega arith

pub sum_split : (f : ℕ → ℕ) (a n : ℕ) → sum f (a + n) ≡ sum f a + sum (λ j. f (a + j)) n
unfolding sum
sum_split f a zero = rw (add-zero a) (omega arith)
sum_split f a (suc n) = rw (add-suc a n) (let i : sum f (a + n) ≡ sum f a + sum (λ j. f (a + j)) n = sum_split f a n in omega arith)

-- f and g agree but from a below a + n
pub sum_block : (f g : ℕ → ℕ) (a n m : ℕ) → a + n ≤ m → ((k : ℕ) → (k < a) ⊎ (a + n ≤ k) → f k ≡ g k) → sum f m + sum (λ j. g (a + j)) n ≡ sum g m + sum (λ j. f (a + j)) n
sum_block f g a n m h e =
    let z : (a + n) + (m - (a + n)) ≡ m = omega arith in
    let front : sum f a ≡ sum g a = sum_same f g a (λ k l. e k (inl l)) in
    let back : sum (λ j. f ((a + n) + j)) (m - (a + n)) ≡ sum (λ j. g ((a + n) + j)) (m - (a + n)) = sum_same _ _ (m - (a + n)) (λ k l. e ((a + n) + k) (inr (omega arith))) in
    let u : sum f m ≡ sum f (a + n) + sum (λ j. f ((a + n) + j)) (m - (a + n)) = rw z at (sum_split f (a + n) (m - (a + n))) in
    let v : sum g m ≡ sum g (a + n) + sum (λ j. g ((a + n) + j)) (m - (a + n)) = rw z at (sum_split g (a + n) (m - (a + n))) in
    omega (arith, sum_split f a n, sum_split g a n)

-- t and u agree but on n pages of o from a on
pub pages_block : (t u : ℕ → ℕ → Bool) (o a n : ℕ) → o < 4 → a + n ≤ 1024 → ((b q : ℕ) → ((b ≡ o) × (a ≤ q) × (q < a + n) → ⊥) → t b q ≡ u b q) → page_count t + sum (λ j. bit (u o (a + j))) n ≡ page_count u + sum (λ j. bit (t o (a + j))) n
unfolding page_count
pages_block t u o a n ho hp e =
    let row : (ℕ → ℕ → Bool) → ℕ → ℕ = λ s b. sum (λ q. bit (s b q)) 1024 in
    let r : row t o + sum (λ j. bit (u o (a + j))) n ≡ row u o + sum (λ j. bit (t o (a + j))) n
    = sum_block (λ q. bit (t o q)) (λ q. bit (u o q)) a n 1024 hp (λ q s. ap bit (e o q (λ z. elim s [ inl x ↦ omega arith | inr x ↦ omega arith ]))) in
    let s : sum (row t) 4 + row u o ≡ sum (row u) 4 + row t o
    = sum_at (row t) (row u) o 4 ho (λ b n. sum_same _ _ 1024 (λ q _. ap bit (e b q (λ z. n z.0)))) in
    omega arith

pub sum_ones : (f : ℕ → ℕ) (n : ℕ) → ((k : ℕ) → k < n → f k ≡ 1) → sum f n ≡ n
unfolding sum
sum_ones f zero e = refl
sum_ones f (suc n) e =
    let i : sum f n ≡ n = sum_ones f n (λ k h. e k (omega arith)) in
    omega (arith, e n (omega arith))

pub sum_le : (f g : ℕ → ℕ) (n : ℕ) → ((k : ℕ) → k < n → f k ≤ g k) → sum f n ≤ sum g n
unfolding sum
sum_le f g zero e = omega arith
sum_le f g (suc n) e = omega (arith, sum_le f g n (λ k l. e k (omega arith)), e n (omega arith))

pub sum_has : (f : ℕ → ℕ) (i n : ℕ) → i < n → f i ≤ sum f n
unfolding sum
sum_has f i zero l = absurd (omega arith)
sum_has f i (suc n) l = elim (cases_eq i n) [ inl e ↦ omega (arith, ap f e) | inr e ↦ omega (arith, sum_has f i n (omega arith)) ]

-- what passes and what does not
pub sum_both : (t : ℕ → Bool) (n : ℕ) → sum (λ j. bit (t j)) n + sum (λ j. bit (not (t j))) n ≡ n
unfolding sum
sum_both t zero = refl
sum_both t (suc n) = let i = sum_both t n in omega (arith, two (t n))
  where
    two : (b : Bool) → bit b + bit (not b) ≡ 1
    two true = refl
    two false = refl

bit_le : (a b : Bool) → (a ≡ true → b ≡ true) → bit a ≤ bit b
bit_le false b f = omega arith
bit_le true b f = omega (arith, ap bit (f refl))

pub pages_le : (t u : ℕ → ℕ → Bool) → ((o p : ℕ) → t o p ≡ true → u o p ≡ true) → page_count t ≤ page_count u
unfolding page_count
pages_le t u f = sum_le _ _ 4 (λ o _. sum_le _ _ 1024 (λ p _. bit_le (t o p) (u o p) (f o p)))
