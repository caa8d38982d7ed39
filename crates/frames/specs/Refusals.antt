use Rattle.std.specs.Prelude.{ℕ, Some, None, Ok, Err, Option, Result}
use Rattle.blocks.specs.declared.block.Block.{Block}
use Rattle.blocks.specs.declared.number.FrameNumber.{FrameNumber}
use Rattle.frames.specs.declared.refusal.TakeError.{TakeError}
use Rattle.frames.specs.declared.refusal.TakeError.TheVariants.{BadOrder, NoBlock}
use Rattle.frames.specs.declared.refusal.GiveError.{GiveError}
use Rattle.frames.specs.declared.refusal.GiveError.TheVariants.{PastEnd, AlreadyFree}

-- what a take answers: a block by its first frame and its order, a refusal by its number, or none with its depth
pub data TakeAnswer : Type 0 where
  given : ℕ → ℕ → TakeAnswer
  refused : ℕ → TakeAnswer
  none : ℕ → TakeAnswer

abbrev pub take_answer : Result (Block FrameNumber) TakeError → TakeAnswer
take_answer (Ok b) = given b.block.first b.block.order
take_answer (Err BadOrder) = refused 12
take_answer (Err (NoBlock d)) = none d

-- the number of a take's refusal; none has no number
abbrev pub take_number : TakeError → Option ℕ
take_number BadOrder = Some 12
take_number (NoBlock d) = None

-- the number of a give's refusal
abbrev pub give_number : GiveError → ℕ
give_number PastEnd = 12
give_number AlreadyFree = 13

-- the number by which the making of a source is refused
abbrev pub bad_source_number : ℕ
bad_source_number = 14
