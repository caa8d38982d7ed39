-- Claims: the frame that each page has or has reserved. Kept apart, they hold pages, reservations and the source apart.
use Rattle.std.specs.Prelude.{◌≡◌, ℕ, ◌+◌, ◌^◌, ◌<◌, ◌≤◌, true, cond, ◌&&◌, List, [], ◌∷◌, is_some, Some, None, Option, ◌==◌, ◌≢◌}
use Rattle.frames.specs.Source.{Source, Gave}
use Rattle.page_machine.specs.Counting.{page_count}
use Rattle.page_machine.specs.Leaves.{Home, Homes}
use Rattle.page_machine.specs.Pieces.{Piece, start_of}
use Rattle.page_machine.specs.Reservations.{Table, covers, reserved_frame}

-- where everything lies: the home of each page, the reservations and the source
pub record Places : Type 0 where
  pub homes : ℕ → Homes
  pub table : Table
  pub source : Source

abbrev pub places : (ℕ → Homes) → Table → Source → Places
places h rs source = record { homes = h; table = rs; source = source }

-- a present page claims its frame, an absent one that of the reservation that covers it
abbrev pub claim_of : Option Home → Option ℕ → Option ℕ
claim_of None y = y
claim_of (Some x) y = Some x.frame

abbrev pub claim : Places → ℕ → ℕ → Option ℕ
claim s o p = claim_of (s.homes o p) (reserved_frame s.table o p)

-- how many pages claim a frame, and how many are present
abbrev pub claims : Places → ℕ
claims s = page_count (λ o p. is_some (claim s o p))

abbrev pub present : Places → ℕ
present s = page_count (λ o p. is_some (s.homes o p))

-- the limit: what is claimed and what is available
abbrev pub limit : Places → ℕ
limit s = claims s + s.source.avail

-- each reservation lies inside an object, and no page is covered by two of them
abbrev pub Separate : Table → Type 0
Separate [] = Unit {0}
Separate (r ∷ rs) =
    (r.object < 4) × (r.first + 2 ^ r.order ≤ 1024)
    × ((o p f : ℕ) → covers r o p ≡ true → reserved_frame rs o p ≢ Some f) × Separate rs

pub record Apart (s : Places) : Type 0 where
  pub table : Separate s.table
  -- present pages lie in the four objects
  pub inside : (o p : ℕ) (x : Home) → s.homes o p ≡ Some x → (o < 4) × (p < 1024)
  -- a present page that is covered lies in the matching frame
  pub matched : (o p f : ℕ) (x : Home) → s.homes o p ≡ Some x → reserved_frame s.table o p ≡ Some f → x.frame ≡ f
  -- no two pages claim one frame
  pub single : (o p b q f : ℕ) → claim s o p ≡ Some f → claim s b q ≡ Some f → (o ≡ b) × (p ≡ q)
  -- no claimed frame is free
  pub taken : (o p f : ℕ) → claim s o p ≡ Some f → s.source.free f ≢ true
  -- every frame that is claimed or free is one of the source's
  pub low : (o p f : ℕ) → claim s o p ≡ Some f → f < s.source.total
  pub free : (f : ℕ) → s.source.free f ≡ true → f < s.source.total

-- a page's home changed
abbrev pub rehome : (ℕ → Homes) → ℕ → ℕ → Option Home → ℕ → Homes
rehome h o p x b q = cond (b == o && q == p) x (h b q)

-- blocks given to the source one after the other
pub data GiveAll : Source → List Piece → Source → Type 0 where
  none : {s : Source} → GiveAll s [] s
  more : {s t u : Source} {b : Piece} {bs : List Piece} → Gave s (start_of b) b.order t → GiveAll t bs u → GiveAll s (b ∷ bs) u
