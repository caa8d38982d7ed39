use Rattle.std.proofs.Common.{◌%◌, ◌^◌, ◌≤◌, arith, pow_mono}
use Rattle.std.proofs.lemmas.Nat.{pow_pos, one_shl}
use Rattle.blocks.proofs.Runs.{run_in, run_low, run_high, run_is}
use Rattle.blocks.proofs.bits.run.Goals as goal

pub overflow_shl-result : goal.overflow_shl-result
overflow_shl-result c =
    let p : 2 ^ c.args.block.order ≤ 2 ^ 5 = pow_mono {i = c.args.block.order} {j = 5} c.requires in
    omega (arith, p, c.count.ensures)

pub overflow_sub-result : goal.overflow_sub-result
overflow_sub-result c =
    let p : 2 ^ c.args.block.order ≤ 2 ^ 5 = pow_mono {i = c.args.block.order} {j = 5} c.requires in
    rw (one_shl c.count.result 64 (omega (arith, p, c.count.ensures))) (pow_pos c.count.result)

pub returns : goal.returns
returns c =
    rw (c.count.ensures, c.first.ensures)
    (simp (run_is c.args.block.first c.args.block.order c.requires c.args.block.aligned)
    (record {
      here = λ k a b. run_in (2 ^ c.args.block.order) (c.args.block.first % 64) k a b;
      below = λ k a. run_low (2 ^ c.args.block.order) (c.args.block.first % 64) k a;
      above = λ k a. run_high (2 ^ c.args.block.order) (c.args.block.first % 64) k a;
    }))
