use Rattle.blocks.proofs.Digits.{none}
use Rattle.manager.proofs.presence.Presence.new.Goals as goal

pub returns : goal.returns
returns c = none 64
