use Rattle.std.proofs.Common.{◌≡◌, ◌==◌, nat_eq, bit_and, ℕ, zero, suc, ◌+◌, ◌-◌, ◌*◌, ◌/◌, ◌%◌, ◌^◌, ◌<◌, ◌≤◌, true, false, List, get_or, sym, ap, ◌∙◌, subst, ⊎_elim, min, ◌⊎◌, inl, inr, mod-lt, arith, pow_mono}
use lib.Pow.{ones_split, ones_lt, high, mod-pow-add, mod-mod-pow}
use Rattle.std.proofs.lemmas.Nat.{pow_pos, pow-add, shr-shr, and_mask}
use Rattle.std.proofs.lemmas.Bool.{cases_lt, cases_eq, eq-eqb, eqb-true, both_ways}
use Rattle.blocks.specs.Bit.{digit, bit}
use Rattle.blocks.proofs.Digits.{bit_at}
use Rattle.blocks.proofs.Runs.{aligned}

-- one digit more
step : (n c : ℕ) → n % 2 ^ suc c ≡ digit n c * 2 ^ c + n % 2 ^ c
step n c = let e : suc c ≡ 1 + c = omega arith in ap (λ x. n % 2 ^ x) e ∙ mod-pow-add n 1 c

twice : (c : ℕ) → 2 ^ suc c ≡ 2 ^ c * 2
twice c = let e : suc c ≡ c + 1 = omega arith in ap (λ x. 2 ^ x) e ∙ pow-add 2 c 1

-- c low digits that are all 1 are the number 2 ^ c - 1
pub ones_from : (n c : ℕ) → ((k : ℕ) → k < c → digit n k ≡ 1) → n % 2 ^ c ≡ 2 ^ c - 1
ones_from n zero h = omega arith
ones_from n (suc c) h =
    let i = ones_from n c (λ k l. h k (omega arith)) in
    let d : digit n c * 2 ^ c ≡ 2 ^ c = let e = h c (omega arith) in rw e (omega arith) in
    omega (arith, i, d, step n c, twice c, pow_pos c)

-- and the other way round
pub ones_at : (n c : ℕ) → n % 2 ^ c ≡ 2 ^ c - 1 → (k : ℕ) → k < c → digit n k ≡ 1
ones_at n zero e k l = absurd (omega arith)
ones_at n (suc c) e k l =
    let b : n % 2 ^ c < 2 ^ c = mod-lt n (pow_pos c) in
    let two : digit n c < 2 = omega arith in
    let d : digit n c ≡ 1 =
    ⊎_elim
    (λ (z : digit n c ≡ 0). absurd (let o : digit n c * 2 ^ c ≡ 0 = rw z (omega arith) in omega (arith, e, o, b, step n c, twice c, pow_pos c)))
    (λ (z : digit n c ≡ 0 → ⊥). omega (arith, z, two))
    (cases_eq (digit n c) 0) in
    let m : n % 2 ^ c ≡ 2 ^ c - 1 = let o : digit n c * 2 ^ c ≡ 2 ^ c = rw d (omega arith) in omega (arith, e, o, step n c, twice c, pow_pos c) in
    ⊎_elim (λ (u : k < c). ones_at n c m k u) (λ (u : c ≤ k). let q : c ≡ k = omega arith in subst (λ x. digit n x ≡ 1) q d) (cases_lt k c)

-- the mask of c bits
mask_is : (c : ℕ) → c ≤ 64 → 18446744073709551615 / 2 ^ (64 - c) ≡ 2 ^ c - 1
mask_is c l =
    let e : 64 ≡ c + (64 - c) = omega arith in
    ap (λ x. (2 ^ x - 1) / 2 ^ (64 - c)) e ∙ ap (λ x. x / 2 ^ (64 - c)) (ones_split c (64 - c)) ∙ high (2 ^ c - 1) (64 - c) (ones_lt (64 - c))

-- a bit of a word, counted from the place that the word is shifted to
shifted : (ws : List ℕ) (n k : ℕ) → n % 64 + k < 64 → bit ws (n + k) ≡ (digit (get_or ws (n / 64) 0 / 2 ^ (n % 64)) k == 1)
shifted ws n k l =
    let e : n + k ≡ n / 64 * 64 + (n % 64 + k) = omega arith in
    ap (bit ws) e ∙ bit_at ws (n / 64) (n % 64 + k) l ∙ ap (λ x. x % 2 == 1) (sym (shr-shr (get_or ws (n / 64) 0) (n % 64) k))

-- the test of a word says whether c bits from n on, which lie in it, are set
pub filled_yes : (ws : List ℕ) (n c : ℕ) → n % 64 + c ≤ 64
    → nat_eq (bit_and (get_or ws (n / 64) 0 / 2 ^ (n % 64)) (18446744073709551615 / 2 ^ (64 - c))) (18446744073709551615 / 2 ^ (64 - c)) ≡ true
    → (k : ℕ) → k < c → bit ws (n + k) ≡ true
filled_yes ws n c l h k b =
    let y : ℕ = get_or ws (n / 64) 0 / 2 ^ (n % 64) in
    let m = mask_is c (omega arith) in
    let e : bit_and y (18446744073709551615 / 2 ^ (64 - c)) ≡ 18446744073709551615 / 2 ^ (64 - c) = eqb-true _ _ h in
    let f : y % 2 ^ c ≡ 2 ^ c - 1 = sym (and_mask y c) ∙ subst (λ x. bit_and y x ≡ x) m e in
    shifted ws n k (omega arith) ∙ eq-eqb (digit y k) 1 (ones_at y c f k b)

pub filled_no : (ws : List ℕ) (n c : ℕ) → n % 64 + c ≤ 64
    → nat_eq (bit_and (get_or ws (n / 64) 0 / 2 ^ (n % 64)) (18446744073709551615 / 2 ^ (64 - c))) (18446744073709551615 / 2 ^ (64 - c)) ≡ false
    → ((k : ℕ) → k < c → bit ws (n + k) ≡ true) → ⊥
filled_no ws n c l h all =
    let y : ℕ = get_or ws (n / 64) 0 / 2 ^ (n % 64) in
    let m = mask_is c (omega arith) in
    let f = ones_from y c (λ k b. eqb-true (digit y k) 1 (sym (shifted ws n k (omega arith)) ∙ all k b)) in
    let e : bit_and y (18446744073709551615 / 2 ^ (64 - c)) ≡ 18446744073709551615 / 2 ^ (64 - c) = subst (λ x. bit_and y x ≡ x) (sym m) (and_mask y c ∙ f) in
    both_ways _ h (eq-eqb _ _ e)

-- a block's pages fill whole words, or a part of one word
pub in_words : (f k : ℕ) → k ≤ 9 → f % 2 ^ k ≡ 0 → ((2 ^ k ≤ 64) × (f % 64 + 2 ^ k ≤ 64)) ⊎ ((64 ≤ 2 ^ k) × (f % 64 ≡ 0) × (2 ^ k % 64 ≡ 0))
in_words f k l h =
    ⊎_elim
    (λ (s : k < 7). inl (pow_mono {i = k} {j = 6} (omega arith), aligned f k (omega arith) h))
    (λ (s : 7 ≤ k).
    let e : k ≡ (k - 6) + 6 = omega arith in
    let w : f % 64 ≡ 0 = sym (mod-mod-pow f (k - 6) 6) ∙ ap (λ x. f % 2 ^ x % 64) (sym e) ∙ ap (λ x. x % 64) h in
    let p : 2 ^ k ≡ 2 ^ (k - 6) * 64 = ap (λ x. 2 ^ x) e ∙ pow-add 2 (k - 6) 6 in
    inr (pow_mono {i = 6} {j = k} (omega arith), w, omega (arith, p)))
    (cases_lt k 7)

-- what a turn of the loop over a block's words reads: w pages from `at` on, which lie in one word and in the block, and no
-- page of the block is left before at + 64
pub record Turn (f k at w : ℕ) : Type 0 where
  pub some : 1 ≤ w
  pub word : at % 64 + w ≤ 64
  pub inside : at + w ≤ f + 2 ^ k
  pub whole : (j : ℕ) → j < at + 64 → j < f + 2 ^ k → j < at + w

pub turn : (o f k at w : ℕ) → k ≤ 9 → f % 2 ^ k ≡ 0 → o * 1024 + f ≤ at → (at - (o * 1024 + f)) % 64 ≡ 0 → at < o * 1024 + f + 2 ^ k → w ≡ min (2 ^ k) 64
    → Turn (o * 1024 + f) k at w
turn o f k at w l h a m e q =
    let p = pow_pos k in
    ⊎_elim
    (λ (s : (2 ^ k ≤ 64) × (f % 64 + 2 ^ k ≤ 64)).
    let b : at ≡ o * 1024 + f = omega (arith, s.0) in
    record { some = omega (arith, s.0); word = omega (arith, s.0, s.1, b); inside = omega (arith, s.0, b); whole = λ j u v. omega (arith, s.0, b) })
    (λ (s : (64 ≤ 2 ^ k) × (f % 64 ≡ 0) × (2 ^ k % 64 ≡ 0)).
    let b : w ≡ 64 = omega (arith, s.0) in
    record { some = omega arith; word = omega (arith, s.1, b); inside = omega (arith, s.1, s.2, b); whole = λ j u v. omega (arith, b) })
    (in_words f k l h)
