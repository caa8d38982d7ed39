-- When the frames of a block that pass a test can be given back, piece by piece.
use Rattle.std.specs.Prelude.{◌≡◌, ℕ, ◌/◌, ◌^◌, ◌<◌, Bool, true, ◌≢◌}
use Rattle.frames.specs.Source.{Source}

-- no frame of block i of order k that passes is free, and all are the source's
pub record Ready (s : Source) (t : ℕ → Bool) (k i : ℕ) : Type 0 where
  pub taken : (f : ℕ) → f / 2 ^ k ≡ i → t f ≡ true → s.free f ≢ true
  pub low : (f : ℕ) → f / 2 ^ k ≡ i → t f ≡ true → f < s.total
