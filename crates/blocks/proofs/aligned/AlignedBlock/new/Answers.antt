use Rattle.std.proofs.Common.{◌≡◌, ℕ, ◌*◌, ◌%◌, ◌^◌, ◌≤◌, subst, arith, pow_mono}
use Rattle.std.proofs.lemmas.Nat.{one_shl}
use Rattle.blocks.proofs.aligned.AlignedBlock.new.Goals as goal

pub overflow_sub-count : goal.overflow_sub-count
overflow_sub-count c =
    let p : 2 ^ c.args.order ≤ 2 ^ 9 = pow_mono {i = c.args.order} {j = 9} (omega arith) in
    omega (arith, one_shl c.args.order 16 (omega arith), p)

pub invariant_of-result : goal.invariant_of-result
invariant_of-result c =
    let p : 2 ^ c.args.order ≤ 2 ^ 9 = pow_mono {i = c.args.order} {j = 9} (omega arith) in
    let e : (1 * 2 ^ c.args.order) % 2 ^ 16 ≡ 2 ^ c.args.order = one_shl c.args.order 16 (omega arith) in
    let a : c.args.first % 2 ^ c.args.order ≡ 0 = subst (λ (m : ℕ). c.args.first % m ≡ 0) e c.if-first-count-ne0.false in
    record { small = omega arith; aligned = a; within = omega (arith, e) }
