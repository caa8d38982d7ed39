use Rattle.std.proofs.Common.{◌≡◌, ℕ, zero, suc, ◌+◌, ◌*◌, ◌/◌, ◌^◌, ◌<◌, ◌≤◌, List, [], ◌∷◌, length, get_or, ap, ◌∙◌, decimal, arith, length-append}
use Rattle.std.proofs.lemmas.Fmt.{decimal_digit, decimal_step, length-decimal-le}
use Rattle.replay.specs.Lines.{field, fields}

field_fits : (n : ℕ) → n < 2 ^ 64 → length (field n) ≤ 21
field_fits n h = omega (arith, length-decimal-le 20 n (omega arith) (omega arith) (omega arith))

-- a line of few numbers is short
pub few_fit : (ns : List ℕ) → ((i : ℕ) → get_or ns i 0 < 2 ^ 64) → length (fields ns) ≤ 21 * length ns
few_fit [] h = omega arith
few_fit (n ∷ ns) h =
    omega (arith, length-append (field n) (fields ns), field_fits n (h 0), few_fit ns (λ i. h (suc i)))

-- a number has one digit more than the greatest power of ten in it has zeros
pub digits_of : (k n : ℕ) → 10 ^ k ≤ n → n < 10 * 10 ^ k → n < 2 ^ 64 → length (decimal n) ≡ k + 1
digits_of zero n lo hi small = ap length (decimal_digit n (omega arith))
digits_of (suc k) n lo hi small =
    let step = ap length (decimal_step n (omega arith) small) ∙ length-append (decimal (n / 10)) _ in
    let fewer = digits_of k (n / 10) (omega arith) (omega arith) (omega arith) in
    omega (arith, step, fewer)
