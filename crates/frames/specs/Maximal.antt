use Rattle.std.specs.Prelude.{◌≡◌, ℕ, suc, ◌+◌, ◌-◌, ◌*◌, ◌/◌, ◌^◌, ◌<◌, ◌≤◌, Bool, true, false, ◌≢◌}
use Rattle.frames.specs.Refusals.{TakeAnswer, given, refused, none}

-- p holds of every frame of the block i of the order j: a frame f lies in it just where f / 2 ^ j is i
abbrev pub Whole : (ℕ → Bool) → ℕ → ℕ → Type 0
Whole p j i = (f : ℕ) → f / 2 ^ j ≡ i → p f ≡ true

-- and of no larger block of an order up to 9 round it
abbrev pub Max : (ℕ → Bool) → ℕ → ℕ → Type 0
Max p j i = Whole p j i × (j < 9 → Whole p (suc j) (i / 2) → ⊥)

-- the place of a block's mark: the orders from the last to the first, each twice as long as the one before
abbrev pub node : ℕ → ℕ → ℕ
node j i = 2 ^ (11 - j) + i

-- the marks are those of p's maximal blocks, and of all of them
abbrev pub Sound : (ℕ → Bool) → (ℕ → Bool) → Type 0
Sound b p = (j i : ℕ) → j ≤ 9 → i < 2 ^ (11 - j) → b (node j i) ≡ true → Max p j i

abbrev pub Full : (ℕ → Bool) → (ℕ → Bool) → Type 0
Full b p = (j i : ℕ) → j ≤ 9 → i < 2 ^ (11 - j) → Max p j i → b (node j i) ≡ true

abbrev pub Marked : (ℕ → Bool) → (ℕ → Bool) → Type 0
Marked b p = Sound b p × Full b p

-- the same, each fact in the form that a field of a struct takes
pub record BlockAt : Type 0 where
  pub order : ℕ
  pub index : ℕ
  pub low : order ≤ 9
  pub room : index < 2 ^ (11 - order)

pub record FrameIn (x : BlockAt) : Type 0 where
  pub frame : ℕ
  pub here : frame / 2 ^ x.order ≡ x.index

abbrev pub MarkedWhole : (ℕ → Bool) → (ℕ → Bool) → Type 0
MarkedWhole b p = (x : BlockAt) → b (node x.order x.index) ≡ true → (y : FrameIn x) → p y.frame ≡ true

abbrev pub MarkedAlone : (ℕ → Bool) → (ℕ → Bool) → Type 0
MarkedAlone b p = (x : BlockAt) → b (node x.order x.index) ≡ true → x.order < 9 → Whole p (suc x.order) (x.index / 2) → ⊥

abbrev pub MarkedAll : (ℕ → Bool) → (ℕ → Bool) → Type 0
MarkedAll b p = (x : BlockAt) → Max p x.order x.index → b (node x.order x.index) ≡ true

-- q has the block i of the order m, which p lacks, and else they are alike
pub record Splits (q p : ℕ → Bool) (m i : ℕ) : Type 0 where
  pub has : (f : ℕ) → f / 2 ^ m ≡ i → q f ≡ true
  pub lacks : (f : ℕ) → f / 2 ^ m ≡ i → p f ≡ false
  pub same : (f : ℕ) → (f / 2 ^ m ≢ i) → p f ≡ q f

-- q is p with the block k of the order m, but for the block i of the order j in it
pub record Parts (p q : ℕ → Bool) (m k j i : ℕ) : Type 0 where
  pub lacks : (f : ℕ) → f / 2 ^ m ≡ k → p f ≡ false
  pub inside : (f : ℕ) → f / 2 ^ m ≡ k → (f / 2 ^ j ≢ i) → q f ≡ true
  pub held : (f : ℕ) → f / 2 ^ j ≡ i → q f ≡ false
  pub outside : (f : ℕ) → (f / 2 ^ m ≢ k) → q f ≡ p f

-- the block from `first` on is the lowest part of the lowest maximal block of the least order from k on that has one
pub record Lowest (p : ℕ → Bool) (k first : ℕ) : Type 0 where
  pub order : ℕ
  pub from : k ≤ order
  pub low : order ≤ 9
  pub max : Max p order (first / 2 ^ order)
  pub start : first ≡ first / 2 ^ order * 2 ^ order
  pub least : (j i : ℕ) → k ≤ j → j < order → Max p j i → ⊥
  pub lowest : (i : ℕ) → i < first / 2 ^ order → Max p order i → ⊥

-- which block a buddy gives, and when it says none
abbrev pub Chooses : (ℕ → Bool) → ℕ → TakeAnswer → Type 0
Chooses p k (given first order) = Lowest p k first
Chooses p k (refused n) = Unit {0}
Chooses p k (none d) = (d ≡ 0) × ((j i : ℕ) → k ≤ j → j ≤ 9 → Max p j i → ⊥)

-- the block of `size` from `first` on is the one maximal block that f lies in
pub record Tile (p : ℕ → Bool) (f first size : ℕ) : Type 0 where
  pub low : size ≤ 9
  pub here : f / 2 ^ size ≡ first / 2 ^ size
  pub max : Max p size (first / 2 ^ size)
  pub only : (j i : ℕ) → j ≤ 9 → Max p j i → f / 2 ^ j ≡ i → (j ≡ size) × (i ≡ first / 2 ^ size)
