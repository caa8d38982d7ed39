use Rattle.blocks.proofs.Digits.{none}
use Rattle.frames.proofs.marks.Marks.new.Goals as goal

pub returns : goal.returns
returns c = none 64
