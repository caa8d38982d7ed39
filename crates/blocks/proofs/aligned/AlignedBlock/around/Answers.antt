use Rattle.std.proofs.Common.{◌≡◌, ◌*◌, ◌/◌, ◌%◌, ◌^◌, refl, arith}
use native.Mathlib.Nat.{mul-mod_left}
use Rattle.blocks.proofs.Spans.{room, small, below}
use Rattle.blocks.proofs.aligned.AlignedBlock.around.Goals as goal

pub invariant_of-result : goal.invariant_of-result
invariant_of-result c =
    let b = below c.args.order c.args.number (omega arith) (omega arith) in
    let s = small c.args.order (c.args.number / 2 ^ c.args.order) (omega arith) b in
    let a : (c.args.number / 2 ^ c.args.order * 2 ^ c.args.order) % 65536 % 2 ^ c.args.order ≡ 0 =
    rw s (mul-mod_left (c.args.number / 2 ^ c.args.order) (2 ^ c.args.order)) in
    record { small = omega arith; aligned = a; within = omega (arith, s, room c.args.order (c.args.number / 2 ^ c.args.order) (omega arith) b) }

pub returns : goal.returns
returns c =
    let b = below c.args.order c.args.number (omega arith) (omega arith) in
    (small c.args.order (c.args.number / 2 ^ c.args.order) (omega arith) b, refl)
