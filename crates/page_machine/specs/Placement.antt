-- Placement: which frame a page gets and what becomes of the reservations. Only what the source answers is open.
use Rattle.std.specs.Prelude.{◌≡◌, ℕ, suc, ◌+◌, ◌*◌, ◌/◌, ◌^◌, ◌<◌, ◌≤◌, Bool, true, cond, ◌⊎◌, List, [], ◌∷◌, ◌++◌, length, is_some, Some, None, Option, ◌==◌}
use Rattle.blocks.specs.Blocks.{IsBlock}
use Rattle.frames.specs.Source.{Source, Took, NoneGiven, Gave}
use Rattle.page_machine.specs.Leaves.{Home, home, Together, mark, unmark}
use Rattle.page_machine.specs.Pieces.{every}
use Rattle.page_machine.specs.Reservations.{Reservation, Table, covers, matching, reserved_frame, population, empty_blocks}
use Rattle.page_machine.specs.Claims.{Places, rehome, GiveAll}

-- a take of order k gave the block from f on
pub record Given (s : Source) (k : ℕ) (t : Source) (f : ℕ) : Type 0 where
  pub block : IsBlock f k
  pub took : Took s k t f k

-- a page was brought in, in this frame; or it was not, and the last none had this depth
pub data Placing : Type 0 where
  in_frame : ℕ → Placing
  nowhere : ℕ → Placing

-- Step 1. Covered: the page p of o comes into its matching frame, and the reservation r becomes the youngest, or leaves the
-- table if now all its pages are present
abbrev pub settled : Bool → Places → Table → Reservation → Table → ℕ → ℕ → Places
settled m s us r vs o p =
    let h = rehome s.homes o p (Some (home (matching r p) m)) in
    record {
      homes = h;
      table = cond (every (λ q. is_some (h r.object q)) r.first (2 ^ r.order)) (us ++ vs) ((us ++ vs) ++ r ∷ []);
      source = s.source;
    }

-- Step 2. A size above 0 is tried if the block around p lies within the object, has no present page and no covered one
pub record Tried (s : Places) (size o p k : ℕ) : Type 0 where
  pub large : 0 < k
  pub within : p / 2 ^ k * 2 ^ k + 2 ^ k ≤ size
  pub away : (q : ℕ) → Together k q p → s.homes o q ≡ None
  pub uncovered : (q : ℕ) → Together k q p → reserved_frame s.table o q ≡ None

-- the sizes from the greatest on, until one that is tried is given
pub data Search (s : Places) (size o p : ℕ) : List ℕ → Option Reservation → Source → Type 0 where
  over : Search s size o p [] None s.source
  pass : {k : ℕ} {ks : List ℕ} {x : Option Reservation} {after : Source} → (Tried s size o p k → ⊥) →
      Search s size o p ks x after → Search s size o p (k ∷ ks) x after
  miss : {k d : ℕ} {ks : List ℕ} {x : Option Reservation} {after : Source} → Tried s size o p k →
      NoneGiven s.source k s.source d → Search s size o p ks x after → Search s size o p (k ∷ ks) x after
  find : {k f : ℕ} {ks : List ℕ} {after : Source} → Tried s size o p k → Given s.source k after f →
      Search s size o p (k ∷ ks) (Some (record { object = o; first = p / 2 ^ k * 2 ^ k; order = k; frame = f })) after

-- Step 3. A frame of its own: on none the oldest reservation is broken and only the take of order 0 is repeated
pub data Base (m : Bool) (o p : ℕ) : Places → Placing → Places → Type 0 where
  got : {s : Places} {f : ℕ} {after : Source} → Given s.source 0 after f →
      Base m o p s (in_frame f) (record { homes = rehome s.homes o p (Some (home f m)); table = s.table; source = after })
  break : {s t : Places} {x : Placing} {d : ℕ} {after : Source} (r : Reservation) (rs : Table) → s.table ≡ r ∷ rs →
      NoneGiven s.source 0 s.source d → GiveAll s.source (empty_blocks s.homes r) after →
      Base m o p (record { homes = s.homes; table = rs; source = after }) x t → Base m o p s x t
  full : {s : Places} {d : ℕ} → s.table ≡ [] → NoneGiven s.source 0 s.source d → Base m o p s (nowhere d) s

-- bringing in the absent page p of object o, of this size, with this mark
pub data Bring (sizes : List ℕ) (m : Bool) (size o p : ℕ) : Places → Placing → Places → Type 0 where
  covered : {s : Places} (us : Table) (r : Reservation) (vs : Table) → s.table ≡ us ++ r ∷ vs → covers r o p ≡ true →
      Bring sizes m size o p s (in_frame (matching r p)) (settled m s us r vs o p)
  newly : {s : Places} {r : Reservation} {after : Source} → reserved_frame s.table o p ≡ None → length s.table < 64 →
      Search s size o p sizes (Some r) after →
      Bring sizes m size o p s (in_frame (matching r p))
      (settled m (record { homes = s.homes; table = s.table ++ r ∷ []; source = after }) s.table r [] o p)
  based : {s t : Places} {x : Placing} → reserved_frame s.table o p ≡ None →
      (64 ≤ length s.table) ⊎ Search s size o p sizes None s.source → Base m o p s x t → Bring sizes m size o p s x t

-- releasing the present page p of object o
pub data Release (o p : ℕ) : Places → Places → Type 0 where
  -- no reservation covers it: its frame goes to the source
  alone : {s : Places} {x : Home} {after : Source} → s.homes o p ≡ Some x → reserved_frame s.table o p ≡ None →
      Gave s.source x.frame 0 after →
      Release o p s (record { homes = rehome s.homes o p None; table = s.table; source = after })
  -- the frame goes back into the reservation, whose age does not change
  back : {s : Places} {x : Home} (us : Table) (r : Reservation) (vs : Table) → s.homes o p ≡ Some x →
      s.table ≡ us ++ r ∷ vs → covers r o p ≡ true → 0 < population (rehome s.homes o p None) r →
      Release o p s (record { homes = rehome s.homes o p None; table = s.table; source = s.source })
  -- it was the last page of the reservation, whose whole block of frames goes back in one give
  last : {s : Places} {x : Home} {after : Source} (us : Table) (r : Reservation) (vs : Table) → s.homes o p ≡ Some x →
      s.table ≡ us ++ r ∷ vs → covers r o p ≡ true →
      population (rehome s.homes o p None) r ≡ 0 → Gave s.source r.frame r.order after →
      Release o p s (record { homes = rehome s.homes o p None; table = us ++ vs; source = after })

-- the present ones among n pages of o from p on, released one by one, rising
pub data ReleaseAll (o : ℕ) : ℕ → ℕ → Places → Places → Type 0 where
  over : {p : ℕ} {s : Places} → ReleaseAll o p 0 s s
  skip : {p n : ℕ} {s t : Places} → s.homes o p ≡ None → ReleaseAll o (suc p) n s t → ReleaseAll o p (suc n) s t
  one : {p n : ℕ} {s t u : Places} {x : Home} → s.homes o p ≡ Some x → Release o p s t → ReleaseAll o (suc p) n t u →
      ReleaseAll o p (suc n) s u

-- closing object o, of this size
abbrev pub Close : ℕ → ℕ → Places → Places → Type 0
Close o size s t = ReleaseAll o 0 size s t

-- a store to a page that is present marks it and moves nothing
abbrev pub stored : ℕ → ℕ → Places → Places
stored o p s = record { homes = rehome s.homes o p (mark (s.homes o p)); table = s.table; source = s.source }

-- a flush of object o removes its marks and moves nothing
abbrev pub flushed : ℕ → Places → Places
flushed o s = record { homes = λ b q. cond (b == o) (unmark (s.homes b q)) (s.homes b q); table = s.table; source = s.source }
