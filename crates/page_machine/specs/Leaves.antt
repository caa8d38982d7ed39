-- Homes, and the canonical leaf of each page: determined by the present pages, their frames and their stored marks alone.
use Rattle.std.specs.Prelude.{◌≡◌, ℕ, zero, suc, ◌+◌, ◌*◌, ◌/◌, ◌%◌, ◌^◌, ◌<◌, Bool, true, false, cond, not, ◌&&◌, List, [], ◌∷◌, Some, None, Option, ◌==◌}
use Rattle.mapping.specs.declared.leaf.Leaf.{Leaf}
use Rattle.mapping.specs.Leaves.{Leaves, lay, OneOf}

-- the frame of a present page, and whether the page is stored
pub record Home : Type 0 where
  pub frame : ℕ
  pub stored : Bool

abbrev pub home : ℕ → Bool → Home
home f s = record { frame = f; stored = s }

-- the home of each page of one object: none where the page is absent
abbrev pub Homes : Type 0
Homes = ℕ → Option Home

-- a page with its mark set, and without it
abbrev pub mark : Option Home → Option Home
mark None = None
mark (Some x) = Some (home x.frame true)

abbrev pub unmark : Option Home → Option Home
unmark None = None
unmark (Some x) = Some (home x.frame false)

-- two pages lie in one block of order k
abbrev pub Together : ℕ → ℕ → ℕ → Type 0
Together k p q = p / 2 ^ k ≡ q / 2 ^ k

abbrev pub same : Bool → Bool → Bool
same true b = b
same false b = not b

-- a page lies in the frame f and is stored as s says
abbrev pub lies_at : Option Home → ℕ → Bool → Bool
lies_at None f s = false
lies_at (Some x) f s = x.frame == f && same x.stored s

-- n pages from p on lie in the frames from f on, one after the other, each stored as s says
unfoldable pub rises : Homes → ℕ → ℕ → Bool → ℕ → Bool
rises h p f s zero = true
rises h p f s (suc n) = lies_at (h (p + n)) (f + n) s && rises h p f s n

-- the leaf that block i of order k can have, by the home of its first page: all pages present, in frames that rise with them
-- from a multiple of their count, all stored or all unstored; writable exactly if stored
abbrev pub leaf_from : Homes → ℕ → ℕ → Option Home → Option Leaf
leaf_from h k i None = None
leaf_from h k i (Some x) =
    cond (x.frame % 2 ^ k == 0 && rises h (i * 2 ^ k) x.frame x.stored (2 ^ k))
    (Some (lay (i * 2 ^ k) k x.frame x.stored))
    None

unfoldable pub block_leaf : Homes → ℕ → ℕ → Option Leaf
block_leaf h k i = leaf_from h k i (h (i * 2 ^ k))

abbrev pub or_else : {A : Type 0} → Option A → Option A → Option A
or_else None y = y
or_else (Some x) y = Some x

-- the canonical leaf of page p: that of the first size, sizes falling, whose block around p can have one
unfoldable pub canonical : List ℕ → Homes → ℕ → Option Leaf
canonical [] h p = None
canonical (k ∷ ks) h p = or_else (block_leaf h k (p / 2 ^ k)) (canonical ks h p)

-- the leaves of all objects
abbrev pub canonical_leaves : List ℕ → (ℕ → Homes) → Leaves
canonical_leaves ks homes o p = canonical ks (homes o) p

-- the same condition in words: block i of order k is whole, and l is its leaf
pub record Whole (h : Homes) (k i : ℕ) (l : Leaf) : Type 0 where
  pub order : l.order ≡ k
  pub first : l.first.0 ≡ i * 2 ^ k
  pub aligned : l.frame.0 % 2 ^ k ≡ 0
  pub each : (j : ℕ) → j < 2 ^ k → h (i * 2 ^ k + j) ≡ Some (home (l.frame.0 + j) l.writable)

-- one whole block of a size holds both pages
pub record Joined (sizes : List ℕ) (h : Homes) (p q : ℕ) : Type 0 where
  pub order : ℕ
  pub size : OneOf sizes order
  pub together : Together order p q
  pub leaf : Leaf
  pub whole : Whole h order (p / 2 ^ order) leaf
