use Rattle.std.proofs.Common.{rules}
use Rattle.replay.specs.Lines.{title}
use Rattle.replay.proofs.Pushing.{pushes_then, pushes_whole}
use Rattle.replay.proofs.line.write_title.Goals as goal

pub returns-clause-adds : goal.returns-clause-adds
unfolding title
returns-clause-adds c = λ h.
    pushes_whole (pushes_then c.push_bytes.ensures c.push_byte.ensures) c.new-text.ensures.same_bytes c.new-text.ensures.empty (search rules) c.len.ensures h
