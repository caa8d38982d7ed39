use Rattle.std.proofs.Common.{◌≡◌, ℕ, suc, ◌+◌, ◌-◌, ◌*◌, ◌/◌, ◌%◌, ◌^◌, ◌<◌, ◌≤◌, sym, refl, ap, ◌∙◌, subst, mul-le-mul_right, mod-lt, mul_assoc, suc-mul, arith, pow_mono, shl_lt, shl_exact}
use native.Mathlib.Nat.{div-eq_of_lt, div-eq_of_eq-mul_left}
use lib.Pow.{ones_split, ones_lt, high, mod-pow-add, mod-mod-pow}
use Rattle.std.proofs.lemmas.Nat.{pow_pos, pow-add, one_shl, shr-shr, shl-shr}
use Rattle.blocks.specs.Bit.{digit}

-- c set digits from s on
pub run_in : (c s k : ℕ) → s ≤ k → k < s + c → digit ((2 ^ c - 1) * 2 ^ s) k ≡ 1
run_in c s k a b =
    let t : ℕ = k - s in
    let e : k ≡ s + t = omega arith in
    let d : c ≡ (c - t) + t = omega arith in
    let q : (2 ^ c - 1) * 2 ^ s / 2 ^ k ≡ 2 ^ (c - t) - 1 =
    ap (λ (x : ℕ). (2 ^ c - 1) * 2 ^ s / 2 ^ x) e ∙ sym (shr-shr ((2 ^ c - 1) * 2 ^ s) s t) ∙ ap (λ (x : ℕ). x / 2 ^ t) (shl-shr (2 ^ c - 1) s)
    ∙ ap (λ (x : ℕ). (2 ^ x - 1) / 2 ^ t) d ∙ ap (λ (x : ℕ). x / 2 ^ t) (ones_split (c - t) t) ∙ high (2 ^ (c - t) - 1) t (ones_lt t) in
    let u : c - t ≡ c - t - 1 + 1 = omega arith in
    let v : 2 ^ (c - t) ≡ 2 ^ (c - t - 1) * 2 = ap (λ (x : ℕ). 2 ^ x) u ∙ pow-add 2 (c - t - 1) 1 in
    let w = pow_pos (c - t - 1) in
    omega (arith, q, v, w)

pub run_low : (c s k : ℕ) → k < s → digit ((2 ^ c - 1) * 2 ^ s) k ≡ 0
run_low c s k a =
    let e : s ≡ (s - k - 1 + 1) + k = omega arith in
    let p : (2 ^ c - 1) * 2 ^ s ≡ ((2 ^ c - 1) * 2 ^ (s - k - 1) * 2) * 2 ^ k =
    ap (λ (x : ℕ). (2 ^ c - 1) * 2 ^ x) e ∙ ap (λ (x : ℕ). (2 ^ c - 1) * x) (pow-add 2 (s - k - 1 + 1) k)
    ∙ sym (mul_assoc (2 ^ c - 1) (2 ^ (s - k - 1 + 1)) (2 ^ k))
    ∙ ap (λ (x : ℕ). x * 2 ^ k) (ap (λ (x : ℕ). (2 ^ c - 1) * x) (pow-add 2 (s - k - 1) 1) ∙ sym (mul_assoc (2 ^ c - 1) (2 ^ (s - k - 1)) 2)) in
    rw (div-eq_of_eq-mul_left (pow_pos k) p) (omega arith)

pub run_high : (c s k : ℕ) → s + c ≤ k → digit ((2 ^ c - 1) * 2 ^ s) k ≡ 0
run_high c s k a =
    let l : (2 ^ c - 1) * 2 ^ s < 2 ^ (c + s) = shl_lt {a = 2 ^ c - 1} c s (ones_lt c) in
    let m : 2 ^ (c + s) ≤ 2 ^ k = pow_mono {i = c + s} {j = k} (omega arith) in
    rw (div-eq_of_lt {n = (2 ^ c - 1) * 2 ^ s} {m = 2 ^ k} (omega arith)) refl

-- an aligned run lies in one word
pub aligned : (n o : ℕ) → o ≤ 6 → n % 2 ^ o ≡ 0 → n % 64 + 2 ^ o ≤ 64
aligned n o a h =
    let s : 6 - o + o ≡ 6 = omega arith in
    let e : n % 64 ≡ (n / 2 ^ o % 2 ^ (6 - o)) * 2 ^ o + n % 2 ^ o = subst (λ (x : ℕ). n % 2 ^ x ≡ (n / 2 ^ o % 2 ^ (6 - o)) * 2 ^ o + n % 2 ^ o) s (mod-pow-add n (6 - o) o) in
    let l : suc (n / 2 ^ o % 2 ^ (6 - o)) * 2 ^ o ≤ 2 ^ (6 - o) * 2 ^ o = mul-le-mul_right (2 ^ o) (mod-lt (n / 2 ^ o) (pow_pos (6 - o))) in
    let w : 2 ^ (6 - o) * 2 ^ o ≡ 64 = sym (pow-add 2 (6 - o) o) ∙ ap (λ (x : ℕ). 2 ^ x) s in
    omega (arith, e, l, w, suc-mul (n / 2 ^ o % 2 ^ (6 - o)) (2 ^ o))

pub run_is : (n o : ℕ) → o ≤ 5 → n % 2 ^ o ≡ 0
    → ((1 * 2 ^ 2 ^ o) % 18446744073709551616 - 1) * 2 ^ (n % 64) % 18446744073709551616 ≡ (2 ^ (2 ^ o) - 1) * 2 ^ (n % 64)
run_is n o a h =
    let p : 2 ^ o ≤ 32 = pow_mono {i = o} {j = 5} a in
    let l : 2 ^ o < 64 = omega arith in
    rw (one_shl (2 ^ o) 64 l) (shl_exact {a = 2 ^ (2 ^ o) - 1} (2 ^ o) (n % 64) 64 (ones_lt (2 ^ o)) (omega (arith, aligned n o (omega arith) h)))

-- whole words
pub many : (n o : ℕ) → 6 ≤ o → o ≤ 9 → n % 2 ^ o ≡ 0 → (n ≡ n / 64 * 64) × (2 ^ o ≡ (1 * 2 ^ (o - 6)) % 18446744073709551616 * 64)
many n o a b h =
    let s : o ≡ o - 6 + 6 = omega arith in
    let e : n % 2 ^ o % 64 ≡ n % 64 = subst (λ (x : ℕ). n % 2 ^ x % 64 ≡ n % 64) (sym s) (mod-mod-pow n (o - 6) 6) in
    let d = ap (λ (x : ℕ). x % 64) h in
    let p = ap (λ (x : ℕ). 2 ^ x) s ∙ pow-add 2 (o - 6) 6 in
    (omega (arith, e, d), omega (arith, p, one_shl (o - 6) 64 (omega arith)))

pub full_mask : (k : ℕ) → k < 64 → digit 18446744073709551615 k ≡ 1
full_mask k l = run_in 64 0 k (omega arith) (omega arith)
