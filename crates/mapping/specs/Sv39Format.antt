use Rattle.std.specs.Prelude.{◌≡◌, ℕ, zero, suc, ◌+◌, ◌-◌, ◌*◌, ◌/◌, ◌%◌, ◌<◌, Bool, true, false, cond, ◌&&◌, List, [], ◌∷◌, is_some, Some, None, Option, ◌==◌, nat_lt, slice_index}
use Rattle.mapping.specs.declared.leaf.Leaf.{Leaf}
use Rattle.mapping.specs.Leaves.{Leaves, AllLawful, IsTable, lay}

abbrev pub sv39_sizes : List ℕ
sv39_sizes = 9 ∷ 0 ∷ []

-- a leaf's entry
abbrev pub sv39_of : Leaf → ℕ
sv39_of l = l.frame.0 * 1024 + cond l.writable 0xC7 0x43

-- a lower entry: a leaf of order 0, or 0
abbrev pub lower_of : Option Leaf → ℕ
lower_of None = 0
lower_of (Some l) = cond (l.order == 0) (sv39_of l) 0

-- whether one of the n pages of o from p on has a leaf
unfoldable pub any_leaf : Leaves → ℕ → ℕ → ℕ → Bool
any_leaf at o p zero = false
any_leaf at o p (suc n) = cond (is_some (at o (p + n))) true (any_leaf at o p n)

-- the upper entry t by the leaf of its first page and by whether one of its pages has a leaf
abbrev pub upper_of : ℕ → Option Leaf → Bool → ℕ
upper_of t None any = cond any (t * 1024 + 1) 0
upper_of t (Some l) any = cond (l.order == 9) (sv39_of l) (cond any (t * 1024 + 1) 0)

-- entry i of the table
abbrev pub sv39_entry : Leaves → ℕ → ℕ
sv39_entry at i =
    cond (nat_lt i 8)
    (upper_of i (at (i / 2) (i % 2 * 512)) (any_leaf at (i / 2) (i % 2 * 512) 512))
    (lower_of (at ((i - 8) / 1024) ((i - 8) % 1024)))

-- the leaf that an entry tells by its place: first page and order
unfoldable pub sv39_leaf : ℕ → ℕ → ℕ → Option Leaf
sv39_leaf f k e = cond (e % 4 == 3) (Some (lay f k (e / 1024) (e / 4 % 2 == 1))) None

-- the leaf of page p by its upper and its lower entry
unfoldable pub walk : ℕ → ℕ → ℕ → Option Leaf
walk upper lower p = cond (upper % 4 == 1) (sv39_leaf p 0 lower) (sv39_leaf (p / 512 * 512) 9 upper)

-- the leaf of each page as the table has it
unfoldable pub sv39_at : List ℕ → ℕ → ℕ → Option Leaf
sv39_at xs o p = cond (nat_lt o 4 && nat_lt p 1024) (walk (slice_index xs (o * 2 + p / 512)) (slice_index xs (8 + o * 1024 + p)) p) None

-- the table is exactly the one that the format gives for the leaves
abbrev pub Sv39Table : Leaves → List ℕ → Type 0
Sv39Table = IsTable 4104 sv39_entry

-- a page's two entries tell the leaf that they were made from, whatever lawful leaves there are
abbrev pub Sv39Tells : Type 0
Sv39Tells =
    (at : Leaves) → AllLawful sv39_sizes at → (o p : ℕ) → o < 4 → p < 1024
    → walk (sv39_entry at (o * 2 + p / 512)) (sv39_entry at (8 + o * 1024 + p)) p ≡ at o p

-- so they determine it
abbrev pub Sv39Determines : Type 0
Sv39Determines =
    (at bt : Leaves) → AllLawful sv39_sizes at → AllLawful sv39_sizes bt → (o p : ℕ) → o < 4 → p < 1024
    → sv39_entry at (o * 2 + p / 512) ≡ sv39_entry bt (o * 2 + p / 512)
    → sv39_entry at (8 + o * 1024 + p) ≡ sv39_entry bt (8 + o * 1024 + p) → at o p ≡ bt o p

-- an entry by its frame and its writable bit
unfoldable pub sv39_word : ℕ → ℕ → ℕ
sv39_word f w = f * 1024 + 67 + 132 * w

-- a lower entry is 0 or a leaf's
unfoldable pub lower_word : ℕ → ℕ
lower_word e = cond (e == 0) 0 (sv39_word (e / 1024) (e / 4 % 2))

-- an upper entry is the pointer if its table holds a leaf, else 0 or an aligned leaf's
unfoldable pub upper_word : ℕ → ℕ → Bool → ℕ
upper_word n e h = cond h (n * 1024 + 1) (cond (e == 0) 0 (sv39_word (e / 524288 * 512) (e / 4 % 2)))

-- how many of the first n are not 0
unfoldable pub count_below : (ℕ → ℕ) → ℕ → ℕ
count_below f zero = 0
count_below f (suc n) = count_below f n + cond (f n == 0) 0 1

-- how many leaves lower table n holds
unfoldable pub leaves_in : (ℕ → ℕ) → ℕ → ℕ
leaves_in t n = count_below (λ d. t (8 + n * 512 + d)) 512

-- whether one of the first n is not 0
unfoldable pub any_below : (ℕ → ℕ) → ℕ → Bool
any_below f zero = false
any_below f (suc n) = cond (f n == 0) (any_below f n) true

-- whether lower table n holds a leaf
unfoldable pub held : (ℕ → ℕ) → ℕ → Bool
held t n = any_below (λ d. t (8 + n * 512 + d)) 512
