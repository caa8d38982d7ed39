use Rattle.std.specs.Prelude.{◌≡◌, ℕ, ◌+◌, ◌%◌, ◌^◌, ◌<◌, ◌≤◌, Bool, ◌⊎◌, List, length, map, Some, None, Ok, Err, Option, Result, ◌≢◌, slice_index, slice_index_or}
use Rattle.blocks.specs.declared.block.Block.{Block}
use Rattle.blocks.specs.declared.number.PageNumber.{PageNumber}
use Rattle.blocks.specs.declared.number.FrameNumber.{FrameNumber}
use Rattle.mapping.specs.declared.leaf.Leaf.{Leaf}
use Rattle.mapping.specs.declared.leaf.NoLeaf.{NoLeaf}
use Rattle.mapping.specs.declared.leaf.PutError.{PutError}
use Rattle.mapping.specs.declared.leaf.PutError.TheVariants.{Misfit, Reaching}

-- the leaf of each object and page
abbrev pub Leaves : Type 0
Leaves = ℕ → ℕ → Option Leaf

-- a leaf by its first page, order, first frame and whether it may be written
abbrev pub lay : ℕ → ℕ → ℕ → Bool → Leaf
lay f k n w = record { first = record { 0 = f }; order = k; frame = record { 0 = n }; writable = w }

-- the leaf that a put lays on a block
abbrev pub laid : Block PageNumber → FrameNumber → Bool → Leaf
laid b f w = lay b.block.first b.block.order f.0 w

-- the numbers of the refusals
abbrev pub put_error_number : PutError → ℕ
put_error_number Misfit = 15
put_error_number Reaching = 16

abbrev pub no_leaf_number : ℕ
no_leaf_number = 17

abbrev pub bad_alpha_number : ℕ
bad_alpha_number = 18

abbrev pub bad_sv39_number : ℕ
bad_sv39_number = 19

-- k is one of the sizes
pub record OneOf (sizes : List ℕ) (k : ℕ) : Type 0 where
  pub place : ℕ
  pub there : place < length sizes
  pub is : slice_index_or sizes place 0 ≡ k

-- sizes fall, from 9 at most, and 0 is one of them
pub record Falling (sizes : List ℕ) : Type 0 where
  pub unit : OneOf sizes 0
  pub falls : (i j : ℕ) → i < j → j < length sizes → slice_index sizes j < slice_index sizes i
  pub top : (i : ℕ) → slice_index sizes i ≤ 9

-- what every hardware owes of a leaf l at page p of object o
pub record Lawful (sizes : List ℕ) (at : Leaves) (o p : ℕ) (l : Leaf) : Type 0 where
  pub from : l.first.0 ≤ p
  pub below : p < l.first.0 + 2 ^ l.order
  pub aligned : l.first.0 % 2 ^ l.order ≡ 0
  pub straight : l.frame.0 % 2 ^ l.order ≡ 0
  pub sized : OneOf sizes l.order
  pub object : o < 4
  pub within : l.first.0 + 2 ^ l.order ≤ 1024
  pub bounded : l.frame.0 + 2 ^ l.order ≤ 2048
  pub same : (q : ℕ) → l.first.0 ≤ q → q < l.first.0 + 2 ^ l.order → at o q ≡ Some l

-- a leaf that the hardware can hold
pub record Fit (sizes : List ℕ) (o : ℕ) (l : Leaf) : Type 0 where
  pub sized : OneOf sizes l.order
  pub straight : l.frame.0 % 2 ^ l.order ≡ 0
  pub object : o < 4
  pub within : l.first.0 + 2 ^ l.order ≤ 1024
  pub bounded : l.frame.0 + 2 ^ l.order ≤ 2048

-- m lies wholly inside the block of l
pub record Inside (l m : Leaf) : Type 0 where
  pub from : l.first.0 ≤ m.first.0
  pub to : m.first.0 + 2 ^ m.order ≤ l.first.0 + 2 ^ l.order

-- a leaf lies partly in the block of l and reaches out of it
pub record Reaches (at : Leaves) (o : ℕ) (l : Leaf) : Type 0 where
  pub page : ℕ
  pub leaf : Leaf
  pub from : l.first.0 ≤ page
  pub below : page < l.first.0 + 2 ^ l.order
  pub lies : at o page ≡ Some leaf
  pub out : Inside l leaf → ⊥

-- every leaf that lies in the block of l lies wholly inside it
pub record Unhindered (at : Leaves) (o : ℕ) (l : Leaf) : Type 0 where
  pub each : (p : ℕ) (m : Leaf) → l.first.0 ≤ p → p < l.first.0 + 2 ^ l.order → at o p ≡ Some m → Inside l m

-- only the pages of o from first on and below end may have changed
pub record Kept (before after : Leaves) (o first end : ℕ) : Type 0 where
  pub lower : (p : ℕ) → p < first → after o p ≡ before o p
  pub upper : (p : ℕ) → end ≤ p → after o p ≡ before o p
  pub apart : (b p : ℕ) → (b ≢ o) → after b p ≡ before b p

-- every page in the block of l has x, and all others stay
pub record Filled (before after : Leaves) (o : ℕ) (l : Leaf) (x : Option Leaf) : Type 0 where
  pub inside : (p : ℕ) → l.first.0 ≤ p → p < l.first.0 + 2 ^ l.order → after o p ≡ x
  pub outside : Kept before after o l.first.0 (l.first.0 + 2 ^ l.order)

pub record PutOk (sizes : List ℕ) (before after : Leaves) (o : ℕ) (l : Leaf) : Type 0 where
  pub fit : Fit sizes o l
  pub unhindered : Unhindered before o l
  pub filled : Filled before after o l (Some l)

-- a put refused by the number n
pub record PutRefused (sizes : List ℕ) (before : Leaves) (o : ℕ) (l : Leaf) (n : ℕ) : Type 0 where
  pub misfit : n ≡ 15 → Fit sizes o l → ⊥
  pub fit : n ≡ 16 → Fit sizes o l
  pub reaches : n ≡ 16 → Reaches before o l

abbrev pub Put : List ℕ → Leaves → Leaves → ℕ → Leaf → Result Unit PutError → Type 0
Put sizes before after o l (Ok _) = PutOk sizes before after o l
Put sizes before after o l (Err e) = PutRefused sizes before o l (put_error_number e) × (after ≡ before)

pub record Cleared (before after : Leaves) (o p k : ℕ) : Type 0 where
  pub leaf : Leaf
  pub was : before o p ≡ Some leaf
  pub order : leaf.order ≡ k
  pub filled : Filled before after o leaf None

abbrev pub Clear : Leaves → Leaves → ℕ → ℕ → Result ℕ NoLeaf → Type 0
Clear before after o p (Ok k) = Cleared before after o p k
Clear before after o p (Err _) = (before o p ≡ None) × (after ≡ before)

-- o has no leaf any more, every other object its own
pub record Emptied (before after : Leaves) (o : ℕ) : Type 0 where
  pub none : (p : ℕ) → after o p ≡ None
  pub apart : (b p : ℕ) → (b ≢ o) → after b p ≡ before b p

-- every leaf of at is one that a hardware may hold
pub record AllLawful (sizes : List ℕ) (at : Leaves) : Type 0 where
  pub each : (o p : ℕ) (l : Leaf) → at o p ≡ Some l → Lawful sizes at o p l

-- two leaves of one object are the same one or lie apart
abbrev pub LieApart : Leaves → Type 0
LieApart at =
    (o p q : ℕ) (l m : Leaf) → at o p ≡ Some l → at o q ≡ Some m → (l ≢ m)
    → (l.first.0 + 2 ^ l.order ≤ m.first.0) ⊎ (m.first.0 + 2 ^ m.order ≤ l.first.0)

-- a put and the clear of what it put: no leaf is left in the block, and if none was there, everything is as before
pub record Undone (sizes : List ℕ) (before after : Leaves) (o : ℕ) (l : Leaf) : Type 0 where
  pub fit : Fit sizes o l
  pub filled : Filled before after o l None
  pub back : ((p : ℕ) → l.first.0 ≤ p → p < l.first.0 + 2 ^ l.order → before o p ≡ None) → (b p : ℕ) → after b p ≡ before b p

abbrev pub PutThenCleared : List ℕ → Leaves → Leaves → ℕ → Leaf → Result Unit PutError → Type 0
PutThenCleared sizes before after o l (Ok _) = Undone sizes before after o l
PutThenCleared sizes before after o l (Err e) = PutRefused sizes before o l (put_error_number e) × (after ≡ before)

-- the table of this many entries is exactly the one that a format gives for the leaves
pub record IsTable (entries : ℕ) (entry : Leaves → ℕ → ℕ) (at : Leaves) (xs : List ℕ) : Type 0 where
  pub long : length xs ≡ entries
  pub exact : (i : ℕ) → i < entries → slice_index xs i ≡ entry at i

-- a page's entries tell the leaf that they were made from, whatever lawful leaves there are
abbrev pub Tells : List ℕ → (Leaves → ℕ → ℕ) → ((ℕ → ℕ) → ℕ → ℕ → Option Leaf) → Type 0
Tells sizes entry tell = (at : Leaves) → AllLawful sizes at → (o p : ℕ) → o < 4 → p < 1024 → tell (entry at) o p ≡ at o p

-- so the entries at a page's places determine its leaf
abbrev pub Determines : List ℕ → (Leaves → ℕ → ℕ) → (ℕ → ℕ → List ℕ) → Type 0
Determines sizes entry places =
    (at bt : Leaves) → AllLawful sizes at → AllLawful sizes bt → (o p : ℕ) → o < 4 → p < 1024
    → map (entry at) (places o p) ≡ map (entry bt) (places o p) → at o p ≡ bt o p
