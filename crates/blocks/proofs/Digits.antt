use Rattle.std.proofs.Common.{◌≡◌, ℕ, zero, suc, ◌+◌, ◌-◌, ◌*◌, ◌/◌, ◌%◌, ◌^◌, ◌<◌, ◌≤◌, min, max, true, false, eqb, List, length, get_or, set, replicate, take, drop, sym, refl, ap, ◌∙◌, subst, ⊎_elim, one-mul, arith}
use lib.Bits.{bit_and, bit_or, bit_xor, and_step, or_step, xor_step, and_shr, or_shr, xor_shr, differ}
use lib.Count.{count_trailing_zeros, under}
use Rattle.std.proofs.lemmas.Nat.{pow_pos, pow-add, pow_below, one_shl, shr-shr, shr_below}
use Rattle.std.proofs.lemmas.List.{get_or-set_same, get_or-set_other, get_or_past, get_or-replicate, length-replicate, get_or-take, get_or-drop}
use lib.ListN.{length-take, length-drop}
use Rattle.std.proofs.lemmas.Bool.{cases_eq, cases_order, cases_lt, eq-eqb, ne_eqb}
use native.Mathlib.Nat.{div-eq_of_lt, div-eq_of_eq-mul_left}
use Rattle.blocks.specs.Bit.{digit, bit}

pub digit_or : (a b k : ℕ) → digit (bit_or a b) k ≡ max (digit a k) (digit b k)
digit_or a b k = rw (or_shr a b k) (omega (arith, or_step (a / 2 ^ k) (b / 2 ^ k)))

pub digit_and : (a b k : ℕ) → digit (bit_and a b) k ≡ min (digit a k) (digit b k)
digit_and a b k = rw (and_shr a b k) (omega (arith, and_step (a / 2 ^ k) (b / 2 ^ k)))

differ_is : (x y : ℕ) → x < 2 → y < 2 → differ x y ≡ max x y - min x y
differ_is zero zero h k = refl
differ_is zero (suc zero) h k = refl
differ_is (suc zero) zero h k = refl
differ_is (suc zero) (suc zero) h k = refl
differ_is (suc (suc x)) y h k = absurd (omega arith)
differ_is zero (suc (suc y)) h k = absurd (omega arith)
differ_is (suc zero) (suc (suc y)) h k = absurd (omega arith)

pub digit_xor : (a b k : ℕ) → digit (bit_xor a b) k ≡ max (digit a k) (digit b k) - min (digit a k) (digit b k)
digit_xor a b k =
    rw (xor_shr a b k)
    (omega (arith, xor_step (a / 2 ^ k) (b / 2 ^ k), differ_is (a / 2 ^ k % 2) (b / 2 ^ k % 2) (omega arith) (omega arith)))

pub digit_self : (k : ℕ) → digit (2 ^ k) k ≡ 1
digit_self k = rw (div-eq_of_eq-mul_left {k = 1} (pow_pos k) (sym (one-mul (2 ^ k)))) refl

pub digit_other : (k j : ℕ) → (j ≡ k → ⊥) → digit (2 ^ k) j ≡ 0
digit_other k j ne =
    ⊎_elim (λ e. absurd (ne e))
    (⊎_elim
    (λ (lt : j < k).
    let p : 2 ^ k ≡ (2 ^ (k - j - 1) * 2) * 2 ^ j =
    ap (λ (x : ℕ). 2 ^ x) (omega arith) ∙ pow-add 2 (k - j - 1 + 1) j ∙ ap (λ (x : ℕ). x * 2 ^ j) (pow-add 2 (k - j - 1) 1) in
    rw (div-eq_of_eq-mul_left (pow_pos j) p) (omega arith))
    (λ (gt : k < j). rw (div-eq_of_lt (pow_below k j gt)) refl))
    (cases_order j k)

-- the lowest set digit
digit_suc : (n j : ℕ) → digit n (suc j) ≡ digit (n / 2) j
digit_suc n j = ap (λ (x : ℕ). n / 2 ^ x % 2) (omega arith) ∙ ap (λ (x : ℕ). x % 2) (sym (shr-shr n 1 j))

pub trailing_below : (k n j : ℕ) → j < count_trailing_zeros k n → digit n j ≡ 0
unfolding count_trailing_zeros
trailing_below zero n j h = absurd (omega arith)
trailing_below (suc k) n j h = low (n % 2) j (λ j g. trailing_below k (n / 2) j g) refl h
  where
    low : (d j : ℕ) → ((j : ℕ) → j < count_trailing_zeros k (n / 2) → digit (n / 2) j ≡ 0) → n % 2 ≡ d → j < under d (count_trailing_zeros k (n / 2)) → digit n j ≡ 0
    low zero zero ih e h = omega arith
    low zero (suc j) ih e h = digit_suc n j ∙ ih j (omega arith)
    low (suc d) j ih e h = absurd (omega arith)

pub trailing_at : (k n : ℕ) → count_trailing_zeros k n < k → digit n (count_trailing_zeros k n) ≡ 1
unfolding count_trailing_zeros
trailing_at zero n h = absurd (omega arith)
trailing_at (suc k) n h = at (n % 2) (λ g. trailing_at k (n / 2) g) refl h
  where
    at : (d : ℕ) → (count_trailing_zeros k (n / 2) < k → digit (n / 2) (count_trailing_zeros k (n / 2)) ≡ 1) → n % 2 ≡ d → under d (count_trailing_zeros k (n / 2)) < suc k → digit n (under d (count_trailing_zeros k (n / 2))) ≡ 1
    at zero ih e h = digit_suc n (count_trailing_zeros k (n / 2)) ∙ ih (omega arith)
    at (suc d) ih e h = omega arith

pub trailing_found : (k m n : ℕ) → 0 < n → n < 2 ^ m → m ≤ k → count_trailing_zeros k n < m
unfolding count_trailing_zeros
trailing_found k zero n p h l = absurd (omega arith)
trailing_found zero (suc m) n p h l = absurd (omega arith)
trailing_found (suc k) (suc m) n p h l = at (n % 2) (λ q. trailing_found k m (n / 2) q (shr_below n m 1 (subst (λ (e : ℕ). n < 2 ^ e) (omega arith) h)) (omega arith)) refl
  where
    at : (d : ℕ) → (0 < n / 2 → count_trailing_zeros k (n / 2) < m) → n % 2 ≡ d → under d (count_trailing_zeros k (n / 2)) < suc m
    at zero ih e = let h = ih (omega arith) in omega arith
    at (suc d) ih e = omega arith

-- a word of the row
pub write_same : (ws : List ℕ) (w v j : ℕ) → w < length ws → j / 64 ≡ w → bit (set ws w v) j ≡ eqb (digit v (j % 64)) 1
write_same ws w v j lt e = rw (e, get_or-set_same ws w v 0 lt) refl

pub write_other : (ws : List ℕ) (w v j : ℕ) → (j / 64 ≡ w → ⊥) → bit (set ws w v) j ≡ bit ws j
write_other ws w v j ne = rw (get_or-set_other ws w (j / 64) v 0 ne) refl

-- a bit that the new word keeps
pub write_kept : (ws : List ℕ) (w v j : ℕ) → w < length ws → (j / 64 ≡ w → digit v (j % 64) ≡ digit (get_or ws w 0) (j % 64)) → bit (set ws w v) j ≡ bit ws j
write_kept ws w v j l k =
    ⊎_elim
    (λ e. write_same ws w v j l e ∙ rw (k e, e) refl)
    (λ d. write_other ws w v j d)
    (cases_eq (j / 64) w)

pub mask_self : (i : ℕ) → digit ((1 * 2 ^ (i % 64)) % 18446744073709551616) (i % 64) ≡ 1
mask_self i = rw (one_shl (i % 64) 64 (omega arith)) (digit_self (i % 64))

pub mask_other : (i k : ℕ) → (k ≡ i % 64 → ⊥) → digit ((1 * 2 ^ (i % 64)) % 18446744073709551616) k ≡ 0
mask_other i k ne = rw (one_shl (i % 64) 64 (omega arith)) (digit_other (i % 64) k ne)

pub bit_past : (ws : List ℕ) (i : ℕ) → length ws ≤ i / 64 → bit ws i ≡ false
bit_past ws i h = ne_eqb _ 1 (rw (get_or_past ws (i / 64) 0 h) (digit_zero (i % 64)))
  where
    digit_zero : (k : ℕ) → digit 0 k ≡ 1 → ⊥
    digit_zero k e = omega (arith, e, div-eq_of_lt (pow_pos k))

pub none : (n j : ℕ) → bit (replicate n 0) j ≡ false
none n j =
    ⊎_elim
    (λ (l : j / 64 < n). ne_eqb _ 1 (rw (get_or-replicate {A = ℕ} n (j / 64) 0 0 l) (λ e. omega (arith, e, div-eq_of_lt (pow_pos (j % 64))))))
    (λ (g : n ≤ j / 64). bit_past (replicate n 0) j (omega (arith, length-replicate {A = ℕ} n 0)))
    (cases_lt (j / 64) n)

-- a bit by its word and its place there
pub bit_at : (ws : List ℕ) (w k : ℕ) → k < 64 → bit ws (w * 64 + k) ≡ eqb (digit (get_or ws w 0) k) 1
bit_at ws w k h =
    let p : (w * 64 + k) / 64 ≡ w = omega arith in
    let q : (w * 64 + k) % 64 ≡ k = omega arith in
    rw (p, q) refl

-- the first set bit of the word w, from its place s on
pub first_none : (ws : List ℕ) (w s : ℕ) → get_or ws w 0 / 2 ^ s ≡ 0 → (j : ℕ) → w * 64 + s ≤ j → j < w * 64 + 64 → bit ws j ≡ false
first_none ws w s e j l u =
    let p : j / 64 ≡ w = omega arith in
    ne_eqb _ 1
    (rw p
    (let q : s + (j % 64 - s) ≡ j % 64 = omega arith in
    let z : get_or ws w 0 / 2 ^ (j % 64) ≡ 0 =
    ap (λ (x : ℕ). get_or ws w 0 / 2 ^ x) (sym q) ∙ sym (shr-shr (get_or ws w 0) s (j % 64 - s)) ∙ rw e (div-eq_of_lt (pow_pos (j % 64 - s))) in
    λ h. omega (arith, z, h)))

pub first_here : (ws : List ℕ) (w s : ℕ) → s < 64 → get_or ws w 0 < 2 ^ 64 → 0 < get_or ws w 0 / 2 ^ s
    → (bit ws (w * 64 + s + count_trailing_zeros 64 (get_or ws w 0 / 2 ^ s)) ≡ true)
    × ((j : ℕ) → w * 64 + s ≤ j → j < w * 64 + s + count_trailing_zeros 64 (get_or ws w 0 / 2 ^ s) → bit ws j ≡ false)
first_here ws w s h f p =
    let x : ℕ = get_or ws w 0 / 2 ^ s in
    let fx : x < 2 ^ (64 - s) = shr_below (get_or ws w 0) (64 - s) s (let q : 64 ≡ 64 - s + s = omega arith in subst (λ (e : ℕ). get_or ws w 0 < 2 ^ e) {x = 64} q f) in
    let t : count_trailing_zeros 64 x < 64 - s = trailing_found 64 (64 - s) x p fx (omega arith) in
    let a : s + count_trailing_zeros 64 x < 64 = omega arith in (
      ap (bit ws) {y = w * 64 + (s + count_trailing_zeros 64 x)} (omega arith) ∙ bit_at ws w (s + count_trailing_zeros 64 x) a
          ∙ eq-eqb _ 1 (ap (λ (y : ℕ). y % 2) (sym (shr-shr (get_or ws w 0) s (count_trailing_zeros 64 x))) ∙ trailing_at 64 x (omega arith)),
      λ j l u.
          ap (bit ws) {y = w * 64 + (s + (j - (w * 64 + s)))} (omega arith) ∙ bit_at ws w (s + (j - (w * 64 + s))) (omega arith)
          ∙ ne_eqb _ 1 (λ e. let z = trailing_below 64 x (j - (w * 64 + s)) (omega arith) in
          let y = ap (λ (y : ℕ). y % 2) (shr-shr (get_or ws w 0) s (j - (w * 64 + s))) in omega (arith, e, z, y)),
    )

-- the first set bit from i on, where the word w is the first that has one
pub found : (ws : List ℕ) (i w s f : ℕ) → s < 64 → get_or ws w 0 < 2 ^ 64 → 0 < get_or ws w 0 / 2 ^ s
    → ((j : ℕ) → i ≤ j → j < w * 64 + s → bit ws j ≡ false) → i ≤ w * 64 + s → f ≡ w * 64 + s + count_trailing_zeros 64 (get_or ws w 0 / 2 ^ s)
    → (i ≤ f) × (bit ws f ≡ true) × ((j : ℕ) → i ≤ j → j < f → bit ws j ≡ false)
found ws i w s f h b p before l e =
    let q = first_here ws w s h b p in (
      omega arith,
      ap (bit ws) e ∙ q.0,
      λ j lo hi. ⊎_elim (λ (u : j < w * 64 + s). before j lo u) (λ (u : w * 64 + s ≤ j). q.1 j u (omega arith)) (cases_lt j (w * 64 + s)),
    )

pub found_whole : (ws : List ℕ) (i w f : ℕ) → get_or ws w 0 < 2 ^ 64 → 0 < get_or ws w 0
    → ((j : ℕ) → i ≤ j → j < w * 64 → bit ws j ≡ false) → i ≤ w * 64 → f ≡ w * 64 + count_trailing_zeros 64 (get_or ws w 0)
    → (i ≤ f) × (bit ws f ≡ true) × ((j : ℕ) → i ≤ j → j < f → bit ws j ≡ false)
found_whole ws i w f b p before l e =
    let d : get_or ws w 0 / 2 ^ 0 ≡ get_or ws w 0 = omega arith in
    found ws i w 0 f (omega arith) b (omega arith) (λ j lo hi. before j lo (omega arith)) (omega arith)
    (e ∙ rw d (omega arith))

-- the bits of a word that is 0
pub zero_word : (ws : List ℕ) (j : ℕ) → get_or ws (j / 64) 0 ≡ 0 → bit ws j ≡ false
zero_word ws j z = first_none ws (j / 64) 0 (rw z refl) j (omega arith) (omega arith)

-- the words of a part of the row, of which the first m are 0
pub zero_part : (ws : List ℕ) (a n m : ℕ) → m ≤ n → ((k : ℕ) → k < m → k < length (take n (drop a ws)) → get_or (take n (drop a ws)) k 0 ≡ 0)
    → (j : ℕ) → a * 64 ≤ j → j < (a + m) * 64 → bit ws j ≡ false
zero_part ws a n m l z j lo hi =
    ⊎_elim
    (λ (b : j / 64 < length ws).
    let k : ℕ = j / 64 - a in
    let s : a + (j / 64 - a) ≡ j / 64 = omega arith in
    let p : j / 64 - a < length (take n (drop a ws)) = omega (arith, length-take n (drop a ws), length-drop a ws) in
    let e : get_or ws (a + (j / 64 - a)) 0 ≡ 0 =
    sym (get_or-drop a ws (j / 64 - a) 0) ∙ sym (get_or-take n (drop a ws) (j / 64 - a) 0 (omega arith)) ∙ z (j / 64 - a) (omega arith) p in
    zero_word ws j (ap (λ (x : ℕ). get_or ws x 0) (sym s) ∙ e))
    (λ (b : length ws ≤ j / 64). bit_past ws j b)
    (cases_lt (j / 64) (length ws))

pub part_word : (ws : List ℕ) (a n k : ℕ) → k < n → get_or (take n (drop a ws)) k 0 ≡ get_or ws (a + k) 0
part_word ws a n k l = get_or-take n (drop a ws) k 0 l ∙ get_or-drop a ws k 0

-- the first set bit from i on, where the word of i has none and the words after it have their first at w of the n that are looked at
pub found_later : (ws : List ℕ) (i n w : ℕ) → get_or ws (i / 64) 0 / 2 ^ (i % 64) ≡ 0
    → (w < length (take n (drop (i / 64 + 1) ws))) × (0 < get_or (take n (drop (i / 64 + 1) ws)) w 0) × ((k : ℕ) → k < w → get_or (take n (drop (i / 64 + 1) ws)) k 0 ≡ 0)
    → get_or ws (i / 64 + 1 + w) 0 < 2 ^ 64
    → let f : ℕ = (i / 64 + 1 + w) * 64 + count_trailing_zeros 64 (get_or ws (i / 64 + 1 + w) 0) in
    (i ≤ f) × (bit ws f ≡ true) × ((j : ℕ) → i ≤ j → j < f → bit ws j ≡ false)
found_later ws i n w e s b =
    let l : w < n = omega (arith, s.0, length-take n (drop (i / 64 + 1) ws)) in
    found_whole ws i (i / 64 + 1 + w) ((i / 64 + 1 + w) * 64 + count_trailing_zeros 64 (get_or ws (i / 64 + 1 + w) 0))
    b (omega (arith, s.1, part_word ws (i / 64 + 1) n w l))
    (λ j lo hi. ⊎_elim
    (λ (u : j < i / 64 * 64 + 64). first_none ws (i / 64) (i % 64) e j (omega arith) u)
    (λ (u : i / 64 * 64 + 64 ≤ j). zero_part ws (i / 64 + 1) n w (omega arith) (λ k a h. s.2 k a) j (omega arith) hi)
    (cases_lt j (i / 64 * 64 + 64)))
    (omega arith) refl
