-- Reservations: what one covers, its matching frames, its present pages and its empty frames. The marks of its population map
-- are its present pages, so they are told by the homes.
use Rattle.std.specs.Prelude.{ℕ, ◌+◌, ◌-◌, ◌/◌, ◌^◌, Bool, cond, not, ◌&&◌, List, [], ◌∷◌, is_some, Some, None, Option, ◌==◌, nat_le, nat_lt}
use Rattle.page_machine.specs.Counting.{sum, bit}
use Rattle.page_machine.specs.Leaves.{Homes}
use Rattle.page_machine.specs.Pieces.{Piece, pieces}

-- a block of pages of one object, by its first page and order, and the first frame of its block of frames
pub record Reservation : Type 0 where
  pub object : ℕ
  pub first : ℕ
  pub order : ℕ
  pub frame : ℕ

-- a table: reservations from the oldest to the youngest
abbrev pub Table : Type 0
Table = List Reservation

abbrev pub covers : Reservation → ℕ → ℕ → Bool
covers r o p = o == r.object && (nat_le r.first p && nat_lt p (r.first + 2 ^ r.order))

-- the matching frame of a covered page: at the same distance
abbrev pub matching : Reservation → ℕ → ℕ
matching r p = r.frame + (p - r.first)

-- the matching frame of the reservation that covers a page
unfoldable pub reserved_frame : Table → ℕ → ℕ → Option ℕ
reserved_frame [] o p = None
reserved_frame (r ∷ rs) o p = cond (covers r o p) (Some (matching r p)) (reserved_frame rs o p)

-- how many pages of r are present
abbrev pub population : (ℕ → Homes) → Reservation → ℕ
population h r = sum (λ j. bit (is_some (h r.object (r.first + j)))) (2 ^ r.order)

-- frame f is an empty frame of r: that of a page which is not present
abbrev pub is_empty : (ℕ → Homes) → Reservation → ℕ → Bool
is_empty h r f = nat_le r.frame f && (nat_lt f (r.frame + 2 ^ r.order) && not (is_some (h r.object (r.first + (f - r.frame)))))

abbrev pub empty_count : (ℕ → Homes) → Reservation → ℕ
empty_count h r = sum (λ j. bit (not (is_some (h r.object (r.first + j))))) (2 ^ r.order)

-- the empty frames of r as maximal blocks, rising
abbrev pub empty_blocks : (ℕ → Homes) → Reservation → List Piece
empty_blocks h r = pieces (is_empty h r) r.order (r.frame / 2 ^ r.order)

-- the empty frames of a whole table
abbrev pub empty_of_all : (ℕ → Homes) → Table → ℕ
empty_of_all h [] = 0
empty_of_all h (r ∷ rs) = empty_count h r + empty_of_all h rs
