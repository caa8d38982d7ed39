use Rattle.std.specs.Prelude.{◌≡◌, ℕ, ◌+◌, ◌%◌, ◌^◌, ◌≤◌}

-- 2 ^ order numbers from first on make a block
pub record IsBlock (first order : ℕ) : Type 0 where
  pub small : order ≤ 9
  pub aligned : first % 2 ^ order ≡ 0
  pub within : first + 2 ^ order ≤ 2048

-- the number by which the making of a block is refused
abbrev pub bad_block_number : ℕ
bad_block_number = 12

-- a block cut in two: both halves are of the order below, and the upper one follows the lower one
pub record Halves (first order low_first low_order high_first high_order : ℕ) : Type 0 where
  pub low : low_first ≡ first
  pub high : high_first ≡ first + 2 ^ low_order
  pub orders : (order ≡ low_order + 1) × (high_order ≡ low_order)
