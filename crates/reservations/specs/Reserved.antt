-- What a reservation holds, told by its fields.
use Rattle.std.specs.Prelude.{ℕ, ◌+◌, ◌-◌, ◌^◌, Bool, cond, ◌&&◌, ◌==◌, nat_le, nat_lt}
use Rattle.blocks.specs.Bit.{bits_set}
use Rattle.reservations.specs.declared.reservation.Reservation.{Reservation}

-- how many pages its block has, none where its order is that of no block
abbrev pub block_size : Reservation → ℕ
block_size r = cond (nat_le r.order 9) (2 ^ r.order) 0

-- how far a page lies behind its first page, 0 before it
abbrev pub distance : Reservation → (page : ℕ) → ℕ
distance r page = page - r.first.0

-- whether a page is one of its pages
abbrev pub covers : Reservation → (object page : ℕ) → Bool
covers r object page = r.object == object && (nat_le r.first.0 page && nat_lt (page - r.first.0) (block_size r))

-- whether one of its pages is among the 2 ^ order pages of the object from `first` on, where its own order is that of a block
abbrev pub meets : Reservation → (object first order : ℕ) → Bool
meets r object first order = r.object == object && (nat_lt r.first.0 (first + 2 ^ order) && nat_lt first (r.first.0 + block_size r))

-- how many of its frames no page is present in, by the marks of its population map, where these are all of its own pages
abbrev pub empty_frames : Reservation → ℕ
empty_frames r = block_size r - bits_set r.population
