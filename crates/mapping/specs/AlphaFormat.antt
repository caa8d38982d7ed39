use Rattle.std.specs.Prelude.{◌≡◌, ℕ, ◌+◌, ◌*◌, ◌/◌, ◌%◌, ◌^◌, ◌<◌, cond, ◌&&◌, List, [], ◌∷◌, Some, None, Option, ◌==◌, nat_lt, slice_index}
use Rattle.mapping.specs.declared.leaf.Leaf.{Leaf}
use Rattle.mapping.specs.Leaves.{Leaves, AllLawful, IsTable, lay}

abbrev pub alpha_sizes : List ℕ
alpha_sizes = 9 ∷ 6 ∷ 3 ∷ 0 ∷ []

-- the entry of a page without and with a leaf: its own frame in the upper half, then the flags
abbrev pub alpha_of : ℕ → Option Leaf → ℕ
alpha_of p None = 0
alpha_of p (Some l) = (l.frame.0 + (p % 2 ^ l.order)) * 4294967296 + 4353 + 32 * (l.order / 3) + cond l.writable 0 4

-- entry i of the table
abbrev pub alpha_entry : Leaves → ℕ → ℕ
alpha_entry at i = alpha_of (i % 1024) (at (i / 1024) (i % 1024))

-- the order that the granularity hint of an entry names, and its fault-on-write bit
unfoldable pub order_in : ℕ → ℕ
order_in e = 3 * (e / 32 % 4)

unfoldable pub fault_in : ℕ → ℕ
fault_in e = e / 4 % 2

-- the first frame of the leaf that an entry belongs to
unfoldable pub frame_in : ℕ → ℕ
frame_in e = e / 4294967296 / 2 ^ order_in e * 2 ^ order_in e

-- the leaf that an entry tells at page p
unfoldable pub alpha_leaf : ℕ → ℕ → Option Leaf
alpha_leaf p e = cond (e == 0) None (Some (lay (p / 2 ^ order_in e * 2 ^ order_in e) (order_in e) (frame_in e) (fault_in e == 0)))

-- the leaf of each page as the table has it
unfoldable pub alpha_at : List ℕ → ℕ → ℕ → Option Leaf
alpha_at xs o p = cond (nat_lt o 4 && nat_lt p 1024) (alpha_leaf p (slice_index xs (o * 1024 + p))) None

-- the table is exactly the one that the format gives for the leaves
abbrev pub AlphaTable : Leaves → List ℕ → Type 0
AlphaTable = IsTable 4096 alpha_entry

-- an entry tells the leaf that it was made from, whatever lawful leaves there are
abbrev pub AlphaTells : Type 0
AlphaTells = (at : Leaves) → AllLawful alpha_sizes at → (o p : ℕ) → o < 4 → p < 1024 → alpha_leaf p (alpha_entry at (o * 1024 + p)) ≡ at o p

-- so a page's entry determines its leaf
abbrev pub AlphaDetermines : Type 0
AlphaDetermines =
    (at bt : Leaves) → AllLawful alpha_sizes at → AllLawful alpha_sizes bt → (o p : ℕ) → o < 4 → p < 1024
    → alpha_entry at (o * 1024 + p) ≡ alpha_entry bt (o * 1024 + p) → at o p ≡ bt o p

-- an entry by its frame, order and fault-on-write bit
unfoldable pub alpha_word : ℕ → ℕ → ℕ → ℕ
alpha_word f k h = f * 4294967296 + 4353 + 32 * (k / 3) + 4 * h

-- what entry j holds if it lies under the leaf of the entry e
unfoldable pub neighbour : ℕ → ℕ → ℕ
neighbour e j = cond (e == 0) 0 (alpha_word (frame_in e + j % 2 ^ order_in e) (order_in e) (fault_in e))
