-- Laws of claims: what marking, unmarking, adding, breaking and giving back a reservation, and a page in a frame of its own,
-- do to claims and their count.
use Rattle.std.specs.Prelude.{◌≡◌, ℕ, ◌+◌, ◌%◌, ◌^◌, ◌<◌, ◌≤◌, Bool, true, cond, [], ◌∷◌, ◌++◌, Some, None, ◌==◌}
use Rattle.frames.specs.Source.{Source, Took, Gave}
use Rattle.page_machine.specs.Leaves.{Home, home, Homes}
use Rattle.blocks.specs.Blocks.{IsBlock}
use Rattle.page_machine.specs.Pieces.{Piece, start_of, Within}
use Rattle.page_machine.specs.PieceLaws.{numbers, Among, Rising}
use Rattle.page_machine.specs.Reservations.{Reservation, Table, covers, reserved_frame, population, is_empty, empty_count, empty_blocks, empty_of_all}
use Rattle.page_machine.specs.Claims.{Places, places, claim, present, limit, Apart, rehome, GiveAll}

-- claims are apart after, and with what is available they are as many as before
pub record Keeps (before after : Places) : Type 0 where
  pub apart : Apart after
  pub total : limit after ≡ limit before

-- an absent page of a reservation comes in, in its matching frame
abbrev pub Marking : Type 0
Marking =
    (s : Places) (o p f : ℕ) (mark : Bool) → Apart s → s.homes o p ≡ None → reserved_frame s.table o p ≡ Some f →
    Keeps s (places (rehome s.homes o p (Some (home f mark))) s.table s.source)

-- a page of a reservation goes
abbrev pub Unmarking : Type 0
Unmarking =
    (s : Places) (o p f : ℕ) → Apart s → reserved_frame s.table o p ≡ Some f →
    Keeps s (places (rehome s.homes o p None) s.table s.source)

-- a reservation becomes the youngest
abbrev pub Aging : Type 0
Aging =
    (h : ℕ → Homes) (us : Table) (r : Reservation) (vs : Table) (source : Source) → Apart (places h (us ++ r ∷ vs) source) →
    Keeps (places h (us ++ r ∷ vs) source) (places h ((us ++ vs) ++ r ∷ []) source)

-- a new reservation of pages of which none claims a frame, on a block that the source gave
abbrev pub Adding : Type 0
Adding =
    (s : Places) (r : Reservation) (after : Source) → Apart s → r.object < 4 → r.first + 2 ^ r.order ≤ 1024 →
    ((o p : ℕ) → covers r o p ≡ true → claim s o p ≡ None) → Took s.source r.order after r.frame r.order →
    Keeps s (places s.homes (s.table ++ r ∷ []) after)

-- a full reservation leaves the table
abbrev pub FillingUp : Type 0
FillingUp =
    (h : ℕ → Homes) (us : Table) (r : Reservation) (vs : Table) (source : Source) → Apart (places h (us ++ r ∷ vs) source) →
    empty_count h r ≡ 0 → Keeps (places h (us ++ r ∷ vs) source) (places h (us ++ vs) source)

-- a reservation leaves the table and its empty frames go back as maximal blocks
abbrev pub Breaking : Type 0
Breaking =
    (h : ℕ → Homes) (us : Table) (r : Reservation) (vs : Table) (before after : Source) →
    Apart (places h (us ++ r ∷ vs) before) → r.frame % 2 ^ r.order ≡ 0 → GiveAll before (empty_blocks h r) after →
    Keeps (places h (us ++ r ∷ vs) before) (places h (us ++ vs) after)

-- a reservation without a present page leaves the table and its frames go back as one block
abbrev pub GivingBack : Type 0
GivingBack =
    (h : ℕ → Homes) (us : Table) (r : Reservation) (vs : Table) (before after : Source) →
    Apart (places h (us ++ r ∷ vs) before) → population h r ≡ 0 → Gave before r.frame r.order after →
    Keeps (places h (us ++ r ∷ vs) before) (places h (us ++ vs) after)

-- a page that claims none comes in, in a frame of its own
abbrev pub TakingOne : Type 0
TakingOne =
    (s : Places) (o p f : ℕ) (mark : Bool) (after : Source) → Apart s → o < 4 → p < 1024 → claim s o p ≡ None →
    Took s.source 0 after f 0 → Keeps s (places (rehome s.homes o p (Some (home f mark))) s.table after)

-- a page that no reservation covers goes, and its frame with it
abbrev pub GivingOne : Type 0
GivingOne =
    (s : Places) (o p : ℕ) (x : Home) (after : Source) → Apart s → s.homes o p ≡ Some x → reserved_frame s.table o p ≡ None →
    Gave s.source x.frame 0 after → Keeps s (places (rehome s.homes o p None) s.table after)

-- the blocks in which the empty frames of r go back
pub record TilesEmpty (h : ℕ → Homes) (r : Reservation) : Type 0 where
  pub block : (b : Piece) → Among (empty_blocks h r) b → IsBlock (start_of b) b.order
  pub pass : (b : Piece) (f : ℕ) → Among (empty_blocks h r) b → Within b f → is_empty h r f ≡ true
  pub cover : (f : ℕ) → is_empty h r f ≡ true → (b : Piece) × Among (empty_blocks h r) b × Within b f
  pub count : numbers (empty_blocks h r) ≡ empty_count h r
  pub rising : Rising r.frame (empty_blocks h r) (r.frame + 2 ^ r.order)

-- they are blocks, rise, and tile exactly the empty frames
abbrev pub EmptyBlocksTile : Type 0
EmptyBlocksTile = (h : ℕ → Homes) (r : Reservation) → IsBlock r.frame r.order → TilesEmpty h r

-- worked: of a reservation of pages 0 to 7 in frames 0 to 7 only page 1 is present
abbrev pub only_page_one : ℕ → Homes
only_page_one o p = cond (p == 1) (Some (home 1 true)) None

abbrev pub eight : Reservation
eight = record { object = 0; first = 0; order = 3; frame = 0 }

-- 0, then 2 and 3, then 4 to 7 go back
pub record WorkedEmpty : Type 0 where
  pub blocks : empty_blocks only_page_one eight
      ≡ record { order = 0; index = 0 } ∷ record { order = 1; index = 1 } ∷ record { order = 2; index = 1 } ∷ []
  pub population_is : population only_page_one eight ≡ 1
  pub empty_is : empty_count only_page_one eight ≡ 7

-- present pages, empty reserved frames and available frames add up to the limit
abbrev pub CountsAddUp : Type 0
CountsAddUp = (s : Places) → Apart s → present s + empty_of_all s.homes s.table + s.source.avail ≡ limit s
