use Rattle.std.specs.Prelude.{◌≡◌, ℕ, zero, suc, ◌+◌, ◌^◌, ◌<◌, ◌≤◌, Bool, true, false, cond, Ok, Err, Result}
use Rattle.blocks.specs.declared.block.Block.{Block}
use Rattle.blocks.specs.declared.number.FrameNumber.{FrameNumber}
use Rattle.frames.specs.declared.refusal.TakeError.{TakeError}
use Rattle.frames.specs.declared.refusal.GiveError.{GiveError}
use Rattle.frames.specs.Refusals.{TakeAnswer, given, refused, none, take_answer, give_number}

-- what a source stands for: how many frames it has, which are free, how many are available, and the depth that its none of
-- an order carries
pub record Source : Type 0 where
  pub total : ℕ
  pub free : ℕ → Bool
  pub avail : ℕ
  pub depth : ℕ → ℕ

-- what a source stands for that has no other below it, so that every none is its own
abbrev pub plain : ℕ → (ℕ → Bool) → ℕ → Source
plain n p a = record { total = n; free = p; avail = a; depth = λ _. 0 }

-- how many of the numbers below n a test holds of
abbrev pub tally : (ℕ → Bool) → ℕ → ℕ
tally p zero = 0
tally p (suc n) = cond (p n) 1 0 + tally p n

-- what every source owes
pub record Lawful (s : Source) : Type 0 where
  pub some : 1 ≤ s.total
  pub small : s.total ≤ 2048
  pub within : (f : ℕ) → s.free f ≡ true → f < s.total
  pub counted : s.avail ≤ tally s.free s.total
  pub shallow : (k : ℕ) → s.depth k ≤ 255

-- q holds of the numbers from i to below e, of which p does not; of the others they say the same
pub record Joined (p q : ℕ → Bool) (i e : ℕ) : Type 0 where
  pub was : (f : ℕ) → i ≤ f → f < e → p f ≡ false
  pub is : (f : ℕ) → i ≤ f → f < e → q f ≡ true
  pub below : (f : ℕ) → f < i → q f ≡ p f
  pub above : (f : ℕ) → e ≤ f → q f ≡ p f

-- a block of the order asked for left the free frames
pub record Took (s : Source) (k : ℕ) (t : Source) (first size : ℕ) : Type 0 where
  pub small : k ≤ 9
  pub order : size ≡ k
  pub total : t.total ≡ s.total
  pub free : Joined t.free s.free first (first + 2 ^ k)
  pub avail : t.avail + 2 ^ k ≡ s.avail

-- none: nothing changed, and at order 0 nothing was available
pub record NoneGiven (s : Source) (k : ℕ) (t : Source) (d : ℕ) : Type 0 where
  pub small : k ≤ 9
  pub same : t ≡ s
  pub depth : d ≡ s.depth k
  pub dry : k ≡ 0 → s.avail ≡ 0

-- a take of order k at s that leaves t, by its answer
abbrev pub TakesBy : Source → ℕ → Source → TakeAnswer → Type 0
TakesBy s k t (given first order) = Took s k t first order
TakesBy s k t (refused n) = (n ≡ 12) × (9 < k) × (t ≡ s)
TakesBy s k t (none d) = NoneGiven s k t d

abbrev pub Takes : Source → ℕ → Source → Result (Block FrameNumber) TakeError → Type 0
Takes s k t r = TakesBy s k t (take_answer r)

-- the block joined the free frames
pub record Gave (s : Source) (first order : ℕ) (t : Source) : Type 0 where
  pub within : first + 2 ^ order ≤ s.total
  pub total : t.total ≡ s.total
  pub free : Joined s.free t.free first (first + 2 ^ order)
  pub avail : t.avail ≡ s.avail + 2 ^ order

-- a number from i to below e of which p holds
pub record Meets (p : ℕ → Bool) (i e : ℕ) : Type 0 where
  pub at : ℕ
  pub from : i ≤ at
  pub before : at < e
  pub holds : p at ≡ true

-- a give refused by the number n: 12 past the end, else 13 where a frame of the block is free
pub record GiveRefused (s : Source) (first order : ℕ) (t : Source) (n : ℕ) : Type 0 where
  pub same : t ≡ s
  pub past : n ≡ 12 → s.total < first + 2 ^ order
  pub within : n ≡ 13 → first + 2 ^ order ≤ s.total
  pub free : n ≡ 13 → Meets s.free first (first + 2 ^ order)

-- a give of a block at s that leaves t
abbrev pub Gives : Source → Block FrameNumber → Source → Result (Unit {0}) GiveError → Type 0
Gives s b t (Ok _) = Gave s b.block.first b.block.order t
Gives s b t (Err e) = GiveRefused s b.block.first b.block.order t (give_number e)

-- a take that gave no block left the source's whole value as it was
abbrev pub KeptByTake : {S : Type 0} → S → S → Result (Block FrameNumber) TakeError → Type 0
KeptByTake s t (Ok b) = Unit {0}
KeptByTake s t (Err e) = t ≡ s

-- and so did a refused give
abbrev pub KeptByGive : {S : Type 0} → S → S → Result (Unit {0}) GiveError → Type 0
KeptByGive s t (Ok _) = Unit {0}
KeptByGive s t (Err e) = t ≡ s
