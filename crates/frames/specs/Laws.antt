use Rattle.std.specs.Prelude.{◌≡◌, ℕ, ◌+◌, ◌^◌, ◌<◌, ◌≤◌, Bool, true, false, ◌||◌}
use Rattle.blocks.specs.declared.block.Block.{Block}
use Rattle.blocks.specs.declared.number.FrameNumber.{FrameNumber}
use Rattle.frames.specs.Source.{Source, tally}

-- the same frames are there, free and available
pub record SameFrames (s t : Source) : Type 0 where
  pub total : t.total ≡ s.total
  pub free : (f : ℕ) → t.free f ≡ s.free f
  pub avail : t.avail ≡ s.avail

-- how many frames are free
abbrev pub free_count : Source → ℕ
free_count s = tally s.free s.total

abbrev pub InBlock : Block FrameNumber → ℕ → Type 0
InBlock b f = (b.block.first ≤ f) × (f < b.block.first + 2 ^ b.block.order)

-- no frame lies in both blocks
abbrev pub Apart : Block FrameNumber → Block FrameNumber → Type 0
Apart b c = (f : ℕ) → InBlock b f → InBlock c f → ⊥

-- every frame of the block is free
abbrev pub FreeBlock : Source → Block FrameNumber → Type 0
FreeBlock s b = (f : ℕ) → InBlock b f → s.free f ≡ true

-- two free blocks of the orders asked for, with no frame in common
pub record FreePair (s : Source) (j k : ℕ) (b c : Block FrameNumber) : Type 0 where
  pub first : b.block.order ≡ j
  pub second : c.block.order ≡ k
  pub first_free : FreeBlock s b
  pub second_free : FreeBlock s c
  pub apart : Apart b c

-- t is s without the frames that p holds of, each of which was free at s
pub record Without (s t : Source) (p : ℕ → Bool) : Type 0 where
  pub total : t.total ≡ s.total
  pub whole : (f : ℕ) → s.free f ≡ (t.free f || p f)
  pub apart : (f : ℕ) → p f ≡ true → t.free f ≡ false
