use Rattle.std.proofs.Common.{◌≡◌, ◌+◌, ◌-◌, ◌*◌, ◌%◌, ◌^◌, ◌∙◌, arith}
use native.Mathlib.Nat.{add-mod_right}
use Rattle.std.proofs.lemmas.Nat.{one_shl}
use Rattle.blocks.proofs.Spans.{halved, doubled}
use Rattle.blocks.proofs.aligned.AlignedBlock.halves.Goals as goal

pub invariant_of-low : goal.invariant_of-low
invariant_of-low c =
    let d = doubled c.args.self.now.order (omega arith) in
    record { small = omega arith; aligned = halved c.args.self.now.order c.args.self.now.first (omega arith) c.args.self.now.aligned; within = omega (arith, d) }

pub invariant_of-high : goal.invariant_of-high
invariant_of-high c =
    let d = doubled c.args.self.now.order (omega arith) in
    let s = one_shl (c.args.self.now.order - 1) 16 (omega arith) in
    let a : (c.args.self.now.first + (1 * 2 ^ (c.args.self.now.order - 1)) % 65536) % 2 ^ (c.args.self.now.order - 1) ≡ 0 =
    rw s (add-mod_right c.args.self.now.first (2 ^ (c.args.self.now.order - 1))
    ∙ halved c.args.self.now.order c.args.self.now.first (omega arith) c.args.self.now.aligned) in
    record { small = omega arith; aligned = a; within = omega (arith, d, s) }
