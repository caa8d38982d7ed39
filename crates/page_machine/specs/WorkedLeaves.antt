-- Worked leaves, of the sizes 9, 6, 3 and 0: eight pages make a superpage, a store splits it, and so does a greater one.
use Rattle.std.specs.Prelude.{◌≡◌, ℕ, ◌+◌, true, false, cond, List, [], ◌∷◌, Some, None, ◌==◌, nat_lt}
use Rattle.mapping.specs.Leaves.{lay}
use Rattle.page_machine.specs.Leaves.{home, Homes, canonical}

abbrev pub sizes : List ℕ
sizes = 9 ∷ 6 ∷ 3 ∷ 0 ∷ []

-- the first n pages lie in the frames from f on, and of them only the page s is stored
abbrev pub first_pages : ℕ → ℕ → ℕ → Homes
first_pages n f s p = cond (nat_lt p n) (Some (home (f + p) (p == s))) None

pub record Superpage : Type 0 where
  -- seven pages have a leaf each, and the absent one none
  pub seven : canonical sizes (first_pages 7 0 99) 6 ≡ Some (lay 6 0 6 false)
  pub away : canonical sizes (first_pages 7 0 99) 7 ≡ None
  -- eight pages have one leaf, from whatever source their frames came
  pub eight : canonical sizes (first_pages 8 0 99) 5 ≡ Some (lay 0 3 0 false)
  -- not in frames that do not start at a multiple of their count
  pub crooked : canonical sizes (first_pages 8 4 99) 5 ≡ Some (lay 5 0 9 false)
  -- page 2 stored: writable, and by itself, as are the seven others
  pub stored : canonical sizes (first_pages 8 0 2) 2 ≡ Some (lay 2 0 2 true)
  pub others : canonical sizes (first_pages 8 0 2) 3 ≡ Some (lay 3 0 3 false)

-- of an unstored leaf of order 6 the page 10 stored: its block of order 3 falls into single pages, the seven others keep theirs
pub record Split : Type 0 where
  pub whole : canonical sizes (first_pages 64 64 99) 10 ≡ Some (lay 0 6 64 false)
  pub page : canonical sizes (first_pages 64 64 10) 10 ≡ Some (lay 10 0 74 true)
  pub beside : canonical sizes (first_pages 64 64 10) 11 ≡ Some (lay 11 0 75 false)
  pub before : canonical sizes (first_pages 64 64 10) 7 ≡ Some (lay 0 3 64 false)
  pub after : canonical sizes (first_pages 64 64 10) 16 ≡ Some (lay 16 3 80 false)
