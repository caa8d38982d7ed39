-- The numbers of a block that pass a test, as maximal blocks, rising.
use Rattle.std.specs.Prelude.{◌≡◌, ℕ, zero, suc, ◌+◌, ◌*◌, ◌/◌, ◌^◌, Bool, true, cond, ◌&&◌, List, [], ◌∷◌, ◌++◌}

-- block i of an order: 2 ^ order numbers from i * 2 ^ order on, so that every piece is a block
pub record Piece : Type 0 where
  pub order : ℕ
  pub index : ℕ

abbrev pub start_of : Piece → ℕ
start_of b = b.index * 2 ^ b.order

abbrev pub Within : Piece → ℕ → Type 0
Within b f = f / 2 ^ b.order ≡ b.index

-- whether the n numbers from a on pass
unfoldable pub every : (ℕ → Bool) → ℕ → ℕ → Bool
every t a zero = true
every t a (suc n) = t (a + n) && every t a n

-- of block i of order k: the block itself if all of it passes, else the pieces of its two halves
unfoldable pub pieces : (ℕ → Bool) → ℕ → ℕ → List Piece
pieces t zero i = cond (t i) (record { order = 0; index = i } ∷ []) []
pieces t (suc k) i =
    cond (every t (i * 2 ^ suc k) (2 ^ suc k))
    (record { order = suc k; index = i } ∷ [])
    (pieces t k (i + i) ++ pieces t k (i + i + 1))
