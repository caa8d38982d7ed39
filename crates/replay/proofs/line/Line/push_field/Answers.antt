use Rattle.replay.proofs.Pushing.{pushes_then}
use Rattle.replay.proofs.line.Line.push_field.Goals as goal

pub returns : goal.returns
returns c = pushes_then c.push_byte.ensures c.push_number.ensures
