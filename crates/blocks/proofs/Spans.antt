use Rattle.std.proofs.Common.{◌≡◌, ℕ, suc, ◌+◌, ◌-◌, ◌*◌, ◌/◌, ◌%◌, ◌^◌, ◌<◌, ◌≤◌, sym, ap, ◌∙◌, subst, mul-le-mul_right, mod-eq_of_lt, suc-mul, arith}
use lib.Pow.{mod-mod-pow}
use Rattle.std.proofs.lemmas.Nat.{pow_pos, pow-add, shr_split, shr_below, div-mul-add, mod_below}

whole : (o : ℕ) → o ≤ 9 → 2 ^ (11 - o) * 2 ^ o ≡ 2048
whole o a = let e : 11 - o + o ≡ 11 = omega arith in sym (pow-add 2 (11 - o) o) ∙ ap (λ (x : ℕ). 2 ^ x) e

pub room : (o i : ℕ) → o ≤ 9 → i < 2 ^ (11 - o) → i * 2 ^ o + 2 ^ o ≤ 2048
room o i a h =
    let l : suc i * 2 ^ o ≤ 2 ^ (11 - o) * 2 ^ o = mul-le-mul_right (2 ^ o) h in
    omega (arith, l, suc-mul i (2 ^ o), whole o a)

pub small : (o i : ℕ) → o ≤ 9 → i < 2 ^ (11 - o) → (i * 2 ^ o) % 65536 ≡ i * 2 ^ o
small o i a h = let r = room o i a h in let p = pow_pos o in omega arith

pub split : (o n : ℕ) → n % 2 ^ o ≡ 0 → n ≡ n / 2 ^ o * 2 ^ o
split o n h = let e = shr_split n o in omega (arith, e)

pub below : (o n : ℕ) → o ≤ 9 → n < 2048 → n / 2 ^ o < 2 ^ (11 - o)
below o n a h = shr_below n (11 - o) o (let e : 11 ≡ 11 - o + o = omega arith in subst (λ (x : ℕ). n < 2 ^ x) {x = 11} e h)

-- the frames of a block by its index, and from its first one on
pub in_block : (o i f : ℕ) → i * 2 ^ o ≤ f → f < i * 2 ^ o + 2 ^ o → f / 2 ^ o ≡ i
in_block o i f a b =
    let e : f ≡ i * 2 ^ o + (f - i * 2 ^ o) = omega arith in
    ap (λ (x : ℕ). x / 2 ^ o) e ∙ div-mul-add i (2 ^ o) (f - i * 2 ^ o) (omega arith)

pub of_block : (o i f : ℕ) → f / 2 ^ o ≡ i → (i * 2 ^ o ≤ f) × (f < i * 2 ^ o + 2 ^ o)
of_block o i f e =
    let s = shr_split f o in let d = ap (λ (x : ℕ). x * 2 ^ o) e in let m = mod_below f (2 ^ o) (pow_pos o) in
    (omega (arith, s, d), omega (arith, s, d, m))

-- a multiple of 2 ^ o is one of half of that, and so is the number half a block further
pub halved : (o n : ℕ) → 0 < o → n % 2 ^ o ≡ 0 → n % 2 ^ (o - 1) ≡ 0
halved o n p h =
    let s : 1 + (o - 1) ≡ o = omega arith in
    let e : n % 2 ^ o % 2 ^ (o - 1) ≡ n % 2 ^ (o - 1) =
    subst (λ (x : ℕ). n % 2 ^ x % 2 ^ (o - 1) ≡ n % 2 ^ (o - 1)) s (mod-mod-pow n 1 (o - 1)) in
    sym e ∙ rw h (mod-eq_of_lt (pow_pos (o - 1)))

pub doubled : (o : ℕ) → 0 < o → 2 ^ o ≡ 2 ^ (o - 1) + 2 ^ (o - 1)
doubled o p =
    let s : o ≡ o - 1 + 1 = omega arith in
    let e : 2 ^ o ≡ 2 ^ (o - 1) * 2 = ap (λ (x : ℕ). 2 ^ x) s ∙ pow-add 2 (o - 1) 1 in
    omega (arith, e)
