-- Counting: sums over the numbers below n, and how many of the pages of all objects pass a test.
use Rattle.std.specs.Prelude.{ℕ, zero, suc, ◌+◌, Bool, true, false}

-- f 0 + .. + f (n - 1)
unfoldable pub sum : (ℕ → ℕ) → ℕ → ℕ
sum f zero = 0
sum f (suc n) = sum f n + f n

-- a test as a number, to be summed
abbrev pub bit : Bool → ℕ
bit true = 1
bit false = 0

-- how many of the 4 × 1,024 pages, by object and page, pass a test
unfoldable pub page_count : (ℕ → ℕ → Bool) → ℕ
page_count t = sum (λ o. sum (λ p. bit (t o p)) 1024) 4
