use Rattle.std.proofs.Common.{decimal}
use Rattle.replay.proofs.Pushing.{pushes_more}
use Rattle.replay.proofs.line.Line.push_fields.Goals as goal

pub loop-number-preserved : goal.loop-number-preserved
loop-number-preserved g c =
    pushes_more (λ n. decimal (g.N.Field.value n)) _ _ _ c.loop-number-test.true c.number-item.is c.loop-number.invariant (rw c.number.ensures at c.push_field.ensures)
