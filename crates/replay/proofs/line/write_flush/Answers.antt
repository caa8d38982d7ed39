use Rattle.std.proofs.Common.{rules}
use Rattle.replay.specs.Lines.{line}
use Rattle.replay.proofs.Pushing.{pushes_then, pushes_whole}
use Rattle.replay.proofs.line.write_flush.Goals as goal

pub returns-clause-adds : goal.returns-clause-adds
unfolding line
returns-clause-adds c = λ h.
    let numbers = pushes_then c.push_field.ensures (pushes_then (rw c.from.ensures at c.push_field-2.ensures) c.push_fields.ensures) in
    let all = pushes_then c.push_byte.ensures (pushes_then numbers c.push_byte-2.ensures) in
    pushes_whole all c.new-text.ensures.same_bytes c.new-text.ensures.empty (search rules) c.len.ensures h
