use Rattle.std.proofs.Common.{rules, ◌∷◌, [], arith, length-append}
use Rattle.replay.specs.Lines.{fields, line}
use Rattle.replay.proofs.Pushing.{pushes_then, pushes_whole}
use Rattle.replay.proofs.Fitting.{few_fit}
use Rattle.replay.proofs.line.write_line.Goals as goal

pub returns-clause-adds : goal.returns-clause-adds
unfolding line
returns-clause-adds c = λ h.
    let short = few_fit c.args.numbers.now (λ i. omega (arith, c.type_inv.numbers i)) in
    let all = length-append (fields c.args.numbers.now) (10 ∷ []) in
    pushes_whole (pushes_then (pushes_then c.push_byte.ensures c.push_fields.ensures) c.push_byte-2.ensures)
    c.new-text.ensures.same_bytes c.new-text.ensures.empty (search rules) c.len.ensures (omega arith)
