use Rattle.std.proofs.Common.{take, refl, arith}
use Rattle.std.proofs.lemmas.List.{length-take-le}
use Rattle.replay.proofs.Pushing.{pushes_part, pushes_fitting}
use Rattle.replay.proofs.line.Line.push_bytes.Goals as goal

pub returns : goal.returns
returns c =
    let count = c.min-count.result in
    let bytes = c.args.bytes.now in
    let is = c.min-count.ensures in
    let long = length-take-le count bytes (omega (arith, is)) in
    pushes_fitting count (omega (arith, is))
    (pushes_part _ _ (take count bytes) _ c.args.self.now.len _ refl refl (omega (arith, long)) c.copy_from_slice.ensures.after (omega (arith, is, long)))
    (λ h. omega (arith, is))
