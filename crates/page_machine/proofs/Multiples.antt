use Rattle.std.proofs.Common.{◌≡◌, ℕ, ◌+◌, ◌-◌, ◌%◌, ◌^◌, ◌≤◌, sym, ap, ◌∙◌, arith}
use native.Mathlib.Nat.{dvd-add, dvd-sub, dvd_of_mod-eq-zero, mod-eq-zero_of_dvd, zero-mod}
use lib.Pow.{mod-mod-pow}

pub coarse : (n j k : ℕ) → j ≤ k → n % 2 ^ k ≡ 0 → n % 2 ^ j ≡ 0
coarse n j k h e =
    let q : (k - j) + j ≡ k = omega arith in
    let m : n % 2 ^ ((k - j) + j) % 2 ^ j ≡ n % 2 ^ j = mod-mod-pow n (k - j) j in
    let m' : n % 2 ^ k % 2 ^ j ≡ n % 2 ^ j = rw q at m in
    sym m' ∙ ap (λ x. x % 2 ^ j) e ∙ zero-mod (2 ^ j)

pub add_multiple : (a b s : ℕ) → a % s ≡ 0 → b % s ≡ 0 → (a + b) % s ≡ 0
add_multiple a b s p q = mod-eq-zero_of_dvd _ (dvd-add _ (dvd_of_mod-eq-zero _ p) (dvd_of_mod-eq-zero _ q))

pub sub_multiple : (a b s : ℕ) → a % s ≡ 0 → b % s ≡ 0 → (a - b) % s ≡ 0
sub_multiple a b s p q = mod-eq-zero_of_dvd _ (dvd-sub _ (dvd_of_mod-eq-zero _ p) (dvd_of_mod-eq-zero _ q))
