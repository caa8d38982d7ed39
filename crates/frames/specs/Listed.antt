use Rattle.std.specs.Prelude.{◌≡◌, ℕ, zero, suc, ◌+◌, ◌<◌, ◌≤◌, Bool, false, ◌||◌, List, ◌==◌, slice_index}
use Rattle.frames.specs.Refusals.{TakeAnswer, given, refused, none}

-- whether one of the first n places holds f
abbrev pub listed : List ℕ → ℕ → ℕ → Bool
listed xs zero f = false
listed xs (suc n) f = slice_index xs n == f || listed xs n f

-- the first n places hold distinct numbers
abbrev pub Distinct : List ℕ → ℕ → Type 0
Distinct xs n = (i : ℕ) → i < n → listed xs i (slice_index xs i) ≡ false

-- and numbers below m
abbrev pub AllBelow : List ℕ → ℕ → ℕ → Type 0
AllBelow xs n m = (i : ℕ) → i < n → slice_index xs i < m

-- count rising numbers from first on, written from the place n on; the other places stay
pub record Appended (xs ys : List ℕ) (n first count : ℕ) : Type 0 where
  pub here : (i : ℕ) → i < count → slice_index ys (n + i) ≡ first + i
  pub below : (i : ℕ) → i < n → slice_index ys i ≡ slice_index xs i
  pub above : (i : ℕ) → n + count ≤ i → slice_index ys i ≡ slice_index xs i

-- a take of order k from n filled places: the last of them is given, and no other order has a block
abbrev pub TakesLast : List ℕ → ℕ → ℕ → ℕ → TakeAnswer → Type 0
TakesLast xs n k m (given first order) = (k ≡ 0) × (m + 1 ≡ n) × (first ≡ slice_index xs m)
TakesLast xs n k m (refused r) = m ≡ n
TakesLast xs n k m (none d) = (d ≡ 0) × (m ≡ n) × (k ≡ 0 → n ≡ 0)
