-- Laws of pieces: they tile exactly what passes, none could be greater, and they rise.
use Rattle.std.specs.Prelude.{◌≡◌, ℕ, ◌+◌, ◌-◌, ◌*◌, ◌/◌, ◌^◌, ◌≤◌, Bool, true, ◌⊎◌, List, [], ◌∷◌}
use Rattle.page_machine.specs.Counting.{sum, bit}
use Rattle.page_machine.specs.Pieces.{Piece, start_of, Within, pieces}

-- how many numbers the pieces have
abbrev pub numbers : List Piece → ℕ
numbers [] = 0
numbers (b ∷ bs) = 2 ^ b.order + numbers bs

abbrev pub Among : List Piece → Piece → Type 0
Among [] b = ⊥
Among (x ∷ xs) b = (x ≡ b) ⊎ Among xs b

-- from a on, each after the one before, up to e
abbrev pub Rising : ℕ → List Piece → ℕ → Type 0
Rising a [] e = a ≤ e
Rising a (b ∷ bs) e = (a ≤ start_of b) × Rising (start_of b + 2 ^ b.order) bs e

-- bs are the maximal blocks of what passes t within block i of order k
pub record Tiles (t : ℕ → Bool) (k i : ℕ) (bs : List Piece) : Type 0 where
  -- as many numbers as pass
  pub size : numbers bs ≡ sum (λ j. bit (t (i * 2 ^ k + j))) (2 ^ k)
  -- all of a piece passes
  pub pass : (b : Piece) (f : ℕ) → Among bs b → Within b f → (t f ≡ true) × (f / 2 ^ k ≡ i)
  -- what passes lies in a piece
  pub cover : (f : ℕ) → f / 2 ^ k ≡ i → t f ≡ true → (b : Piece) × Among bs b × Within b f
  pub small : (b : Piece) → Among bs b → b.order ≤ k
  -- a block all of which passes lies in one piece
  pub maximal : (j m : ℕ) → j ≤ k → m / 2 ^ (k - j) ≡ i → ((f : ℕ) → f / 2 ^ j ≡ m → t f ≡ true) →
      (b : Piece) × Among bs b × (j ≤ b.order) × (m / 2 ^ (b.order - j) ≡ b.index)
  pub rising : Rising (i * 2 ^ k) bs (i * 2 ^ k + 2 ^ k)

abbrev pub PiecesTile : Type 0
PiecesTile = (t : ℕ → Bool) (k i : ℕ) → Tiles t k i (pieces t k i)
