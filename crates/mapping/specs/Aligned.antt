use Rattle.std.specs.Prelude.{◌≡◌, ℕ, ◌+◌, ◌-◌, ◌*◌, ◌/◌, ◌%◌, ◌^◌, ◌<◌, ◌≤◌}
use Rattle.std.proofs.Common.{ap, ◌∙◌, sym, subst, arith, mod-lt, shr-shr}
use Rattle.std.proofs.Math.Pow.{high, split}
use Rattle.std.proofs.lemmas.Nat.{pow_pos}

-- a common block has a common block around it
pub nest : (j k x y : ℕ) → j ≤ k → x / 2 ^ j ≡ y / 2 ^ j → x / 2 ^ k ≡ y / 2 ^ k
nest j k x y h e =
    let q : j + (k - j) ≡ k = omega arith in
    let a : x / 2 ^ j / 2 ^ (k - j) ≡ x / 2 ^ (j + (k - j)) = shr-shr x j (k - j) in
    let b : y / 2 ^ j / 2 ^ (k - j) ≡ y / 2 ^ (j + (k - j)) = shr-shr y j (k - j) in
    let m : x / 2 ^ (j + (k - j)) ≡ y / 2 ^ (j + (k - j)) = sym a ∙ ap (λ z. z / 2 ^ (k - j)) e ∙ b in
    subst (λ z. x / 2 ^ z ≡ y / 2 ^ z) q m

pub start : (k f : ℕ) → f % 2 ^ k ≡ 0 → f / 2 ^ k * 2 ^ k ≡ f
start k f a = let s : f / 2 ^ k * 2 ^ k + f % 2 ^ k ≡ f = split f k in omega arith

-- intervals to division
pub in_block : (k f p : ℕ) → f % 2 ^ k ≡ 0 → f ≤ p → p < f + 2 ^ k → p / 2 ^ k ≡ f / 2 ^ k
in_block k f p a l h =
    let s = start k f a in
    let e : f / 2 ^ k * 2 ^ k + (p - f) ≡ p = omega arith in
    let q : (f / 2 ^ k * 2 ^ k + (p - f)) / 2 ^ k ≡ f / 2 ^ k = high (f / 2 ^ k) k (omega arith) in
    rw e at q

-- and back
pub of_block : (k f p : ℕ) → f % 2 ^ k ≡ 0 → p / 2 ^ k ≡ f / 2 ^ k → (f ≤ p) × (p < f + 2 ^ k)
of_block k f p a e =
    let s = start k f a in
    let t : p / 2 ^ k * 2 ^ k + p % 2 ^ k ≡ p = split p k in
    let u : p / 2 ^ k * 2 ^ k ≡ f / 2 ^ k * 2 ^ k = ap (λ z. z * 2 ^ k) e in
    let b : p % 2 ^ k < 2 ^ k = mod-lt p (pow_pos k) in
    (omega arith, omega arith)

-- the distance from the start of the block
pub distance : (k f p : ℕ) → f % 2 ^ k ≡ 0 → f ≤ p → p < f + 2 ^ k → p % 2 ^ k ≡ p - f
distance k f p a l h =
    let s = start k f a in
    let t : p / 2 ^ k * 2 ^ k + p % 2 ^ k ≡ p = split p k in
    let u : p / 2 ^ k * 2 ^ k ≡ f / 2 ^ k * 2 ^ k = ap (λ z. z * 2 ^ k) (in_block k f p a l h) in
    omega arith

-- an aligned block that meets a greater one lies inside it
pub inner : (j k m f p : ℕ) → j ≤ k → m % 2 ^ j ≡ 0 → f % 2 ^ k ≡ 0 → m ≤ p → p < m + 2 ^ j → f ≤ p → p < f + 2 ^ k
    → (q : ℕ) → m ≤ q → q < m + 2 ^ j → (f ≤ q) × (q < f + 2 ^ k)
inner j k m f p h a b c d e g q i l =
    of_block k f q b (nest j k q p h (in_block j m q a i l ∙ sym (in_block j m p a c d)) ∙ in_block k f p b e g)
