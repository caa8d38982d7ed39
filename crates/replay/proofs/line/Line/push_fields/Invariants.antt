use Rattle.std.proofs.Common.{take, decimal}
use Rattle.replay.specs.Lines.{Pushes, fields_by}
use Rattle.replay.proofs.line.Line.push_fields.Given as goal

abbrev pub invariant-loop-number : goal.invariant-loop-number
invariant-loop-number g l =
    Pushes l.initial.self.buffer l.initial.self.len (fields_by (λ n. decimal (g.N.Field.value n)) (take l.number-index l.numbers)) l.self.buffer l.self.len
