-- The invariant of a manager between calls. That leaves are canonical is no part of it: they are told by the homes.
use Rattle.std.specs.Prelude.{◌≡◌, ℕ, ◌+◌, ◌%◌, ◌^◌, ◌<◌, ◌≤◌, List, [], ◌∷◌, length, Some}
use Rattle.mapping.specs.Leaves.{OneOf}
use Rattle.page_machine.specs.Leaves.{Home, Homes}
use Rattle.page_machine.specs.Reservations.{Reservation, Table, population, empty_count}
use Rattle.page_machine.specs.Claims.{Places, Apart}

abbrev pub Each : (Reservation → Type 0) → Table → Type 0
Each P [] = Unit {0}
Each P (r ∷ rs) = P r × Each P rs

-- a reservation in the table: of a size above 0, its pages and frames aligned, within its object, with a present page and an
-- empty frame
pub record Alive (sizes : List ℕ) (size : ℕ → ℕ) (h : ℕ → Homes) (r : Reservation) : Type 0 where
  pub sized : OneOf sizes r.order
  pub large : 0 < r.order
  pub pages : r.first % 2 ^ r.order ≡ 0
  pub frames : r.frame % 2 ^ r.order ≡ 0
  pub within : r.first + 2 ^ r.order ≤ size r.object
  pub used : 0 < population h r
  pub room : 0 < empty_count h r

-- the invariant, for a hardware's sizes and the sizes of the objects (0: closed)
pub record Sound (sizes : List ℕ) (size : ℕ → ℕ) (s : Places) : Type 0 where
  pub apart : Apart s
  pub alive : Each (Alive sizes size s.homes) s.table
  pub few : length s.table ≤ 64
  pub small : (o : ℕ) → size o ≤ 1024
  pub below : (o p : ℕ) (x : Home) → s.homes o p ≡ Some x → p < size o
