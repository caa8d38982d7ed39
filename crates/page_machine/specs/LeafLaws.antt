-- Laws of canonical leaves: where they are, what they cover, when two are equal.
use Rattle.std.specs.Prelude.{◌≡◌, ℕ, ◌+◌, ◌-◌, ◌/◌, ◌^◌, ◌<◌, ◌≤◌, List, Some, None, ◌≢◌}
use Rattle.mapping.specs.declared.leaf.Leaf.{Leaf}
use Rattle.mapping.specs.Leaves.{OneOf, Falling}
use Rattle.page_machine.specs.Leaves.{Home, home, Homes, Whole, canonical, Joined}

-- l is the leaf of the greatest whole block around p
pub record Greatest (sizes : List ℕ) (h : Homes) (p : ℕ) (l : Leaf) : Type 0 where
  pub size : OneOf sizes l.order
  pub whole : Whole h l.order (p / 2 ^ l.order) l
  pub greater : (k : ℕ) (m : Leaf) → OneOf sizes k → l.order < k → Whole h k (p / 2 ^ k) m → ⊥

-- the canonical leaf of a page is that of the greatest whole block around it
abbrev pub CanonicalIsGreatest : Type 0
CanonicalIsGreatest =
    (sizes : List ℕ) → Falling sizes → (h : Homes) (p : ℕ) (l : Leaf) →
    (canonical sizes h p ≡ Some l → Greatest sizes h p l) × (Greatest sizes h p l → canonical sizes h p ≡ Some l)

-- a page has a leaf exactly where it is present
abbrev pub LeafIfPresent : Type 0
LeafIfPresent =
    (sizes : List ℕ) → Falling sizes → (h : Homes) (p : ℕ) →
    (canonical sizes h p ≡ None → h p ≡ None) × (h p ≡ None → canonical sizes h p ≡ None)

-- a leaf covers its page and tells its home, and every page of its block has it
pub record Tells (sizes : List ℕ) (h : Homes) (p : ℕ) (l : Leaf) : Type 0 where
  pub from : l.first.0 ≤ p
  pub below : p < l.first.0 + 2 ^ l.order
  pub lies : h p ≡ Some (home (l.frame.0 + (p - l.first.0)) l.writable)
  pub block : (q : ℕ) → l.first.0 ≤ q → q < l.first.0 + 2 ^ l.order → canonical sizes h q ≡ Some l

abbrev pub LeafTells : Type 0
LeafTells = (sizes : List ℕ) → Falling sizes → (h : Homes) (p : ℕ) (l : Leaf) → canonical sizes h p ≡ Some l → Tells sizes h p l

-- two present pages of an object have equal leaves exactly if one whole block of a size holds both
abbrev pub EqualLeaves : Type 0
EqualLeaves =
    (sizes : List ℕ) → Falling sizes → (h : Homes) (p q : ℕ) → (h p ≢ None) → (h q ≢ None) →
    (canonical sizes h p ≡ canonical sizes h q → Joined sizes h p q) × (Joined sizes h p q → canonical sizes h p ≡ canonical sizes h q)

-- no two pages of any objects lie in one frame
abbrev pub Distinct : (ℕ → Homes) → Type 0
Distinct homes = (o p b q : ℕ) (x y : Home) → homes o p ≡ Some x → homes b q ≡ Some y → x.frame ≡ y.frame → (o ≡ b) × (p ≡ q)

-- the same of pages of any objects, where no two pages lie in one frame
abbrev pub EqualLeavesOfAll : Type 0
EqualLeavesOfAll =
    (sizes : List ℕ) → Falling sizes → (homes : ℕ → Homes) → Distinct homes →
    (o p b q : ℕ) → (homes o p ≢ None) → (homes b q ≢ None) →
    (canonical sizes (homes o) p ≡ canonical sizes (homes b) q → (o ≡ b) × Joined sizes (homes o) p q)
    × ((o ≡ b) × Joined sizes (homes o) p q → canonical sizes (homes o) p ≡ canonical sizes (homes b) q)
