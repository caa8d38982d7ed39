use Rattle.std.specs.Prelude.{◌≡◌, ℕ, ◌+◌, ◌^◌, ◌<◌, ◌≤◌, min, cond, Ok, Err, Result, nat_lt}
use Rattle.blocks.specs.declared.block.Block.{Block}
use Rattle.blocks.specs.declared.number.FrameNumber.{FrameNumber}
use Rattle.frames.specs.declared.refusal.GiveError.{GiveError}
use Rattle.frames.specs.declared.refusal.TakeError.{TakeError}
use Rattle.frames.specs.declared.refusal.TakeError.TheVariants.{BadOrder, NoBlock}
use Rattle.frames.specs.Refusals.{TakeAnswer, given, refused, none}
use Rattle.frames.specs.Source.{Source, Took, Gave}

-- one layer more, at most 255
abbrev pub deeper : ℕ → ℕ
deeper d = min 255 (d + 1)

abbrev pub passed_up : TakeError → TakeError
passed_up BadOrder = BadOrder
passed_up (NoBlock d) = NoBlock (deeper d)

-- a source of which no more than `left` frames may be taken
abbrev pub limited : ℕ → Source → Source
limited left s =
    record {
      total = s.total;
      free = s.free;
      avail = min left s.avail;
      depth = λ k. cond (nat_lt left (2 ^ k)) 0 (deeper (s.depth k));
    }

-- a take of order k through a quota: l is left before and l' after, s and t are the source below
abbrev pub TakesThrough : ℕ → Source → ℕ → ℕ → Source → TakeAnswer → Type 0
TakesThrough l s k l' t (given first order) = (l' + 2 ^ k ≡ l) × Took s k t first order
TakesThrough l s k l' t (refused n) = (l' ≡ l) × (t ≡ s)
TakesThrough l s k l' t (none d) = (l' ≡ l) × (t ≡ s) × (l < 2 ^ k → d ≡ 0) × (2 ^ k ≤ l → d ≡ deeper (s.depth k))

-- a give through a quota; what is left is kept in 16 bits
abbrev pub GivesThrough : ℕ → Source → Block FrameNumber → ℕ → Source → Result (Unit {0}) GiveError → Type 0
GivesThrough l s b l' t (Ok _) = (l' ≡ min 65535 (l + 2 ^ b.block.order)) × Gave s b.block.first b.block.order t
GivesThrough l s b l' t (Err e) = (l' ≡ l) × (t ≡ s)

-- what is left is at most 2,048 above what is available below: every quota begins so, and no call changes it
abbrev pub InBounds : ℕ → Source → Type 0
InBounds l s = l ≤ 2048 + s.avail

-- so an accepted give raises what is left by the whole block
abbrev pub Raised : ℕ → Block FrameNumber → ℕ → Result (Unit {0}) GiveError → Type 0
Raised l b l' (Ok _) = l' ≡ l + 2 ^ b.block.order
Raised l b l' (Err e) = l' ≡ l
