-- Laws of canonical leaves under change: one home of an object changed, or all its marks removed.
use Rattle.std.specs.Prelude.{◌≡◌, ℕ, ◌+◌, ◌-◌, ◌*◌, ◌/◌, ◌^◌, ◌<◌, ◌≤◌, false, List, Some, None, Option, ◌≢◌}
use Rattle.mapping.specs.declared.leaf.Leaf.{Leaf}
use Rattle.mapping.specs.Leaves.{lay, OneOf, Falling, Inside}
use Rattle.page_machine.specs.Leaves.{Home, Homes, canonical, Together, unmark}

-- homes that differ at p alone
abbrev pub AlikeBut : Homes → Homes → ℕ → Type 0
AlikeBut h g p = (q : ℕ) → (q ≢ p) → h q ≡ g q

-- q is not under the leaf
abbrev pub Outside : ℕ → Option Leaf → Type 0
Outside q None = Unit {0}
Outside q (Some l) = l.first.0 ≤ q → q < l.first.0 + 2 ^ l.order → ⊥

-- one home changed: a page outside the old and the new leaf of that page keeps its leaf
abbrev pub OthersKeep : Type 0
OthersKeep =
    (sizes : List ℕ) → Falling sizes → (h g : Homes) (p q : ℕ) → AlikeBut h g p →
    Outside q (canonical sizes h p) → Outside q (canonical sizes g p) → canonical sizes h q ≡ canonical sizes g q

-- l is the new leaf of its whole block, every old leaf there lies inside it, and every page outside keeps its leaf: one put
pub record OnePut (sizes : List ℕ) (h g : Homes) (l : Leaf) : Type 0 where
  pub new : (q : ℕ) → l.first.0 ≤ q → q < l.first.0 + 2 ^ l.order → canonical sizes g q ≡ Some l
  pub old : (q : ℕ) (m : Leaf) → l.first.0 ≤ q → q < l.first.0 + 2 ^ l.order → canonical sizes h q ≡ Some m → Inside l m
  pub rest : (q : ℕ) → Outside q (Some l) → canonical sizes g q ≡ canonical sizes h q

-- the leaf is none, or of one page
abbrev pub AtMostOnePage : Option Leaf → Type 0
AtMostOnePage None = Unit {0}
AtMostOnePage (Some l) = l.order ≡ 0

-- a page brought in, with its mark as it will be
abbrev pub BroughtIn : Type 0
BroughtIn =
    (sizes : List ℕ) → Falling sizes → (h g : Homes) (p : ℕ) (l : Leaf) → AlikeBut h g p → h p ≡ None →
    canonical sizes g p ≡ Some l → OnePut sizes h g l

-- a page that had a leaf to itself changed and still there
abbrev pub ChangedAlone : Type 0
ChangedAlone =
    (sizes : List ℕ) → Falling sizes → (h g : Homes) (p : ℕ) (l : Leaf) → AlikeBut h g p → AtMostOnePage (canonical sizes h p) →
    canonical sizes g p ≡ Some l → OnePut sizes h g l

-- j is the greatest size whose block around q does not hold p
pub record Beside (sizes : List ℕ) (p q j : ℕ) : Type 0 where
  pub size : OneOf sizes j
  pub apart : Together j p q → ⊥
  pub greater : (k : ℕ) → OneOf sizes k → j < k → Together k p q

-- the part of l that is the block of order j around q
abbrev pub part : Leaf → ℕ → ℕ → Leaf
part l j q = lay (q / 2 ^ j * 2 ^ j) j (l.frame.0 + (q / 2 ^ j * 2 ^ j - l.first.0)) l.writable

-- a page of the leaf l taken out, marked or changed otherwise: every other page of l has the greatest part of l beside it
abbrev pub LeafSplits : Type 0
LeafSplits =
    (sizes : List ℕ) → Falling sizes → (h g : Homes) (p : ℕ) (l : Leaf) → AlikeBut h g p → (g p ≢ h p) →
    canonical sizes h p ≡ Some l →
    (q j : ℕ) → l.first.0 ≤ q → q < l.first.0 + 2 ^ l.order → Beside sizes p q j → canonical sizes g q ≡ Some (part l j q)

-- and the page itself, if it is still there and l was of more pages than one, has a leaf to itself
abbrev pub SplitAlone : Type 0
SplitAlone =
    (sizes : List ℕ) → Falling sizes → (h g : Homes) (p : ℕ) (l : Leaf) (x : Home) → AlikeBut h g p → (g p ≢ h p) →
    canonical sizes h p ≡ Some l → 0 < l.order → g p ≡ Some x → canonical sizes g p ≡ Some (lay p 0 x.frame x.stored)

-- and every page outside l keeps its leaf
abbrev pub SplitKeeps : Type 0
SplitKeeps =
    (sizes : List ℕ) → Falling sizes → (h g : Homes) (p q : ℕ) (l : Leaf) → AlikeBut h g p → (g p ≢ h p) →
    canonical sizes h p ≡ Some l → 0 < l.order → Outside q (Some l) → canonical sizes h q ≡ canonical sizes g q

-- the old leaf of a page, which lies inside m
pub record OldInside (sizes : List ℕ) (h : Homes) (q : ℕ) (m : Leaf) : Type 0 where
  pub old : Leaf
  pub was : canonical sizes h q ≡ Some old
  pub inside : Inside m old

-- all marks of an object removed: every new leaf is read-only and made of whole old ones
abbrev pub MarksRemoved : Type 0
MarksRemoved =
    (sizes : List ℕ) → Falling sizes → (h : Homes) (p : ℕ) (m : Leaf) → canonical sizes (λ q. unmark (h q)) p ≡ Some m →
    (m.writable ≡ false) × ((q : ℕ) → m.first.0 ≤ q → q < m.first.0 + 2 ^ m.order → OldInside sizes h q m)
