-- Pieces tile what passes.
use Rattle.std.proofs.Common.{◌≡◌, ℕ, zero, suc, ◌+◌, ◌-◌, ◌*◌, ◌/◌, ◌%◌, ◌^◌, ◌<◌, ◌≤◌, Bool, true, false, ◌⊎◌, List, [], ◌∷◌, ◌++◌, sym, refl, ap, ◌∙◌, subst, inl, inr, add-mul, one-mul, mul-add, arith, shr-shr}
use native.Mathlib.Nat.{two-pow-succ}
use lib.Pow.{high}
use Rattle.std.proofs.lemmas.Bool.{cases_eq, cases_Bool, and_parts, and_from, both_ways, cond-true, cond-false}
use Rattle.page_machine.specs.Counting.{sum, bit}
use Rattle.page_machine.specs.Pieces.{Piece, Within, every, pieces}
use Rattle.page_machine.specs.PieceLaws.{numbers, Among, Rising, Tiles, PiecesTile}
use Rattle.page_machine.proofs.Sums.{sum_same, sum_zero, sum_ones, sum_split}
use Rattle.page_machine.proofs.Blocks.{in_block, small}

double : (k : ℕ) → 2 ^ suc k ≡ 2 ^ k + 2 ^ k
double k = two-pow-succ k

pub all_each : (t : ℕ → Bool) (a n : ℕ) → every t a n ≡ true → (j : ℕ) → j < n → t (a + j) ≡ true
unfolding every
all_each t a zero e j l = absurd (omega arith)
all_each t a (suc n) e j l =
    let p = and_parts (t (a + n)) (every t a n) e in
    elim (cases_eq j n) [ inl y ↦ rw y p.0 | inr y ↦ all_each t a n p.1 j (omega arith) ]

pub each_all : (t : ℕ → Bool) (a n : ℕ) → ((j : ℕ) → j < n → t (a + j) ≡ true) → every t a n ≡ true
unfolding every
each_all t a zero e = refl
each_all t a (suc n) e = and_from _ _ (e n (omega arith)) (each_all t a n (λ j l. e j (omega arith)))

pub half_left : (i k : ℕ) → (i + i) * 2 ^ k ≡ i * 2 ^ suc k
half_left i k = omega (arith, add-mul i i (2 ^ k), mul-add i (2 ^ k) (2 ^ k), ap (λ x. i * x) (double k))

pub half_right : (i k : ℕ) → (i + i + 1) * 2 ^ k ≡ i * 2 ^ suc k + 2 ^ k
half_right i k = omega (arith, add-mul (i + i) 1 (2 ^ k), one-mul (2 ^ k), half_left i k)

halves : (f k : ℕ) → f / 2 ^ suc k ≡ f / 2 ^ k / 2
halves f k = let z : k + 1 ≡ suc k = omega arith in sym (shr-shr f k 1 ∙ ap (λ n. f / 2 ^ n) z)

pub up : (f k i : ℕ) → (f / 2 ^ k ≡ i + i) ⊎ (f / 2 ^ k ≡ i + i + 1) → f / 2 ^ suc k ≡ i
up f k i (inl e) = halves f k ∙ (let z : f / 2 ^ k / 2 ≡ i = omega arith in z)
up f k i (inr e) = halves f k ∙ (let z : f / 2 ^ k / 2 ≡ i = omega arith in z)

pub down : (f k i : ℕ) → f / 2 ^ suc k ≡ i → (f / 2 ^ k ≡ i + i) ⊎ (f / 2 ^ k ≡ i + i + 1)
down f k i e =
    let z : f / 2 ^ k / 2 ≡ i = sym (halves f k) ∙ e in
    elim (cases_eq (f / 2 ^ k) (i + i)) [ inl x ↦ inl x | inr x ↦ inr (omega arith) ]

pub passes : (t : ℕ → Bool) (k i : ℕ) → every t (i * 2 ^ k) (2 ^ k) ≡ true → (f : ℕ) → f / 2 ^ k ≡ i → t f ≡ true
passes t k i a f e = ap t (sym (in_block f k i e)) ∙ all_each t (i * 2 ^ k) (2 ^ k) a (f % 2 ^ k) (small f k)

whole_piece : (t : ℕ → Bool) (k i : ℕ) → ((f : ℕ) → f / 2 ^ k ≡ i → t f ≡ true) → Tiles t k i (record { order = k; index = i } ∷ [])
whole_piece t k i p = record {
  size = omega (arith, sum_ones (λ j. bit (t (i * 2 ^ k + j))) (2 ^ k) (λ j l. ap bit (p (i * 2 ^ k + j) (high i k l))));
  pass = λ b f a e. elim a [ inl x ↦ let y : f / 2 ^ k ≡ i = subst (λ (c : Piece). Within c f) (sym x) e in (p f y, y) | inr x ↦ absurd x ];
  cover = λ f e x. (record { order = k; index = i }, inl refl, e);
  small = λ b a. elim a [ inl x ↦ let y : k ≡ b.order = ap (λ (c : Piece). c.order) x in omega arith | inr x ↦ absurd x ];
  maximal = λ j m l e x. (record { order = k; index = i }, inl refl, l, e);
  rising = (omega arith, omega arith);
}

among_cases : (xs ys : List Piece) (b : Piece) → Among (xs ++ ys) b → Among xs b ⊎ Among ys b
among_cases [] ys b a = inr a
among_cases (x ∷ xs) ys b (inl e) = inl (inl e)
among_cases (x ∷ xs) ys b (inr a) = elim (among_cases xs ys b a) [ inl k ↦ inl (inr k) | inr k ↦ inr k ]

among_left : (xs ys : List Piece) (b : Piece) → Among xs b → Among (xs ++ ys) b
among_left [] ys b a = absurd a
among_left (x ∷ xs) ys b (inl e) = inl e
among_left (x ∷ xs) ys b (inr a) = inr (among_left xs ys b a)

among_right : (xs ys : List Piece) (b : Piece) → Among ys b → Among (xs ++ ys) b
among_right [] ys b a = a
among_right (x ∷ xs) ys b a = inr (among_right xs ys b a)

places_append : (xs ys : List Piece) → numbers (xs ++ ys) ≡ numbers xs + numbers ys
places_append [] ys = omega arith
places_append (x ∷ xs) ys = let i = places_append xs ys in omega arith

rising_from : (a c : ℕ) (xs : List Piece) (e : ℕ) → a ≤ c → Rising c xs e → Rising a xs e
rising_from a c [] e l r = omega arith
rising_from a c (x ∷ xs) e l r = (omega (arith, r.0), r.1)

rising_append : (a c e : ℕ) (xs ys : List Piece) → Rising a xs c → Rising c ys e → Rising a (xs ++ ys) e
rising_append a c e [] ys r q = rising_from a c ys e r q
rising_append a c e (x ∷ xs) ys r q = (r.0, rising_append (x.index * 2 ^ x.order + 2 ^ x.order) c e xs ys r.1 q)

module _ (t : ℕ → Bool) (k i : ℕ) (xs ys : List Piece) (l : Tiles t k (i + i) xs) (r : Tiles t k (i + i + 1) ys) (some : every t (i * 2 ^ suc k) (2 ^ suc k) ≡ false) where
  joined_max : (j m : ℕ) → j ≤ suc k → m / 2 ^ (suc k - j) ≡ i → ((f : ℕ) → f / 2 ^ j ≡ m → t f ≡ true) → (b : Piece) × Among (xs ++ ys) b × (j ≤ b.order) × (m / 2 ^ (b.order - j) ≡ b.index)
  joined_max j m h e p = elim (cases_eq j (suc k)) [
    | inl x ↦
        let z : suc k - j ≡ 0 = omega arith in
        let y : m ≡ i = (let w : m / 2 ^ 0 ≡ i = rw z at e in omega arith) in
        absurd (both_ways _ some (each_all t _ _ (λ n b. p (i * 2 ^ suc k + n) (ap (λ c. (i * 2 ^ suc k + n) / 2 ^ c) x ∙ high i (suc k) b ∙ sym y))))
    | inr x ↦
        let z : suc (k - j) ≡ suc k - j = omega arith in
        let low : j ≤ k = omega arith in
        elim (down m (k - j) i (ap (λ c. m / 2 ^ c) z ∙ e)) [
          | inl y ↦ let w = l.maximal j m low y p in (w.0, among_left xs ys w.0 w.1, w.2, w.3)
          | inr y ↦ let w = r.maximal j m low y p in (w.0, among_right xs ys w.0 w.1, w.2, w.3)
        ]
  ]

  joined : Tiles t (suc k) i (xs ++ ys)
  joined = record {
    size =
        let s : sum (λ j. bit (t (i * 2 ^ suc k + j))) (2 ^ k + 2 ^ k) ≡ sum (λ j. bit (t (i * 2 ^ suc k + j))) (2 ^ k) + sum (λ j. bit (t (i * 2 ^ suc k + (2 ^ k + j)))) (2 ^ k) = sum_split _ (2 ^ k) (2 ^ k) in
        let d : sum (λ j. bit (t (i * 2 ^ suc k + j))) (2 ^ suc k) ≡ sum (λ j. bit (t (i * 2 ^ suc k + j))) (2 ^ k + 2 ^ k) = ap (sum (λ j. bit (t (i * 2 ^ suc k + j)))) (double k) in
        let a : sum (λ j. bit (t ((i + i) * 2 ^ k + j))) (2 ^ k) ≡ sum (λ j. bit (t (i * 2 ^ suc k + j))) (2 ^ k) = sum_same _ _ (2 ^ k) (λ j _. ap (λ n. bit (t (n + j))) (half_left i k)) in
        let b : sum (λ j. bit (t ((i + i + 1) * 2 ^ k + j))) (2 ^ k) ≡ sum (λ j. bit (t (i * 2 ^ suc k + (2 ^ k + j)))) (2 ^ k)
        = sum_same _ _ (2 ^ k) (λ j _. let z : (i + i + 1) * 2 ^ k + j ≡ i * 2 ^ suc k + (2 ^ k + j) = omega (arith, half_right i k) in ap (λ n. bit (t n)) z) in
        omega (arith, places_append xs ys, l.size, r.size);
    pass = λ b f a e. elim (among_cases xs ys b a) [
      | inl x ↦ let w = l.pass b f x e in (w.0, up f k i (inl w.1))
      | inr x ↦ let w = r.pass b f x e in (w.0, up f k i (inr w.1))
    ];
    cover = λ f e x. elim (down f k i e) [
      | inl y ↦ let w = l.cover f y x in (w.0, among_left xs ys w.0 w.1, w.2)
      | inr y ↦ let w = r.cover f y x in (w.0, among_right xs ys w.0 w.1, w.2)
    ];
    small = λ b a. elim (among_cases xs ys b a) [ inl x ↦ omega (arith, l.small b x) | inr x ↦ omega (arith, r.small b x) ];
    maximal = joined_max;
    rising =
        let a : Rising (i * 2 ^ suc k) xs ((i + i) * 2 ^ k + 2 ^ k) = subst (λ (n : ℕ). Rising n xs ((i + i) * 2 ^ k + 2 ^ k)) (half_left i k) l.rising in
        let z : (i + i + 1) * 2 ^ k ≡ (i + i) * 2 ^ k + 2 ^ k = omega (arith, half_left i k, half_right i k) in
        let y : (i + i + 1) * 2 ^ k + 2 ^ k ≡ i * 2 ^ suc k + 2 ^ suc k = omega (arith, half_right i k, double k) in
        rising_append _ _ _ xs ys a (subst (λ (n : ℕ). Rising n ys (i * 2 ^ suc k + 2 ^ suc k)) z (subst (λ (n : ℕ). Rising ((i + i + 1) * 2 ^ k) ys n) y r.rising));
  }

no_piece : (t : ℕ → Bool) (i : ℕ) → t i ≡ false → Tiles t 0 i []
no_piece t i n =
    let no : (f : ℕ) → f / 2 ^ 0 ≡ i → t f ≡ true → ⊥ = λ f e x. let z : f ≡ i = omega arith in both_ways _ n (sym (ap t z) ∙ x) in
    record {
      size = sym (sum_zero (λ j. bit (t (i * 2 ^ 0 + j))) (2 ^ 0) (λ j l. let z : i * 2 ^ 0 + j ≡ i = omega arith in ap (λ c. bit (t c)) z ∙ ap bit n));
      pass = λ b f a e. absurd a;
      cover = λ f e x. absurd (no f e x);
      small = λ b a. absurd a;
      maximal = λ j m l e p.
          let z : j ≡ 0 = omega arith in
          let y : m / 2 ^ (0 - 0) ≡ i = subst (λ (c : ℕ). m / 2 ^ (0 - c) ≡ i) z e in
          let w : i / 2 ^ 0 ≡ m = omega arith in
          absurd (no i (omega arith) (p i (ap (λ c. i / 2 ^ c) z ∙ w)));
      rising = omega arith;
    }

pub pieces_tile : PiecesTile
unfolding pieces
pieces_tile t zero i = elim (cases_Bool (t i)) [
  | inl x ↦ subst (λ (bs : List Piece). Tiles t 0 i bs) (sym (cond-true (t i) _ _ x)) (whole_piece t 0 i (λ f e. let z : f ≡ i = omega arith in ap t z ∙ x))
  | inr x ↦ subst (λ (bs : List Piece). Tiles t 0 i bs) (sym (cond-false (t i) _ _ x)) (no_piece t i x)
]
pieces_tile t (suc k) i =
    let l = pieces_tile t k (i + i) in
    let r = pieces_tile t k (i + i + 1) in
    elim (cases_Bool (every t (i * 2 ^ suc k) (2 ^ suc k))) [
      | inl x ↦ subst (λ (bs : List Piece). Tiles t (suc k) i bs) (sym (cond-true _ _ _ x)) (whole_piece t (suc k) i (passes t (suc k) i x))
      | inr x ↦ subst (λ (bs : List Piece). Tiles t (suc k) i bs) (sym (cond-false _ _ _ x)) (joined t k i _ _ l r x)
    ]
