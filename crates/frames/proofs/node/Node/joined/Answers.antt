use Rattle.std.proofs.Common.{◌≡◌, ◌/◌, arith}
use Rattle.frames.proofs.Steps.{twin_room, half_room}
use Rattle.frames.proofs.node.Node.joined.Goals as goal
use Rattle.frames.proofs.node.Node.joined.Goals.{then-self-eq0, else-self-eq0}

pub invariant_of-twin : goal.invariant_of-twin
invariant_of-twin c =
    let s = c.args.self in
    let e : c.if-self-eq0.index / 2 ≡ s.index / 2 =
    elim c.if-self-eq0.branch [ then-self-eq0 w ↦ omega arith | else-self-eq0 w ↦ omega arith ] in
    record { small = s.small; room = twin_room s.order s.index c.if-self-eq0.index s.small s.room e }

pub invariant_of-whole : goal.invariant_of-whole
invariant_of-whole c =
    let s = c.args.self in
    record { small = omega arith; room = half_room s.order s.index (omega arith) s.room }
