use Rattle.std.proofs.Common.{arith}
use Rattle.frames.proofs.Steps.{split_room}
use Rattle.frames.proofs.node.Node.halves.Goals as goal

pub invariant_of-result : goal.invariant_of-result
invariant_of-result c =
    let h = split_room c.args.self.order c.args.self.index (omega arith) c.args.self.small c.args.self.room in
    record { small = omega arith; room = omega (arith, h) }

pub invariant_of-high : goal.invariant_of-high
invariant_of-high c =
    let h = split_room c.args.self.order c.args.self.index (omega arith) c.args.self.small c.args.self.room in
    record { small = omega arith; room = omega (arith, h) }
