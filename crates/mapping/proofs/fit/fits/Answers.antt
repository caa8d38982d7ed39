use Rattle.std.proofs.Common.{◌≡◌, ℕ, ◌^◌, ◌≤◌, arith, pow_mono}
use Rattle.std.proofs.lemmas.Grind.{common_steps}
use Rattle.mapping.proofs.fit.fits.Goals as goal

few : (k n : ℕ) → k ≤ 9 → n ≡ 2 ^ k → n ≤ 512
few k n h e = let p : 2 ^ k ≤ 2 ^ 9 = pow_mono {i = k} {j = 9} h in omega arith

pub overflow_sub-count : goal.overflow_sub-count
overflow_sub-count c = omega (arith, few c.args.pages.pages.block.order c.count-count.result c.args.pages.pages.block.small c.count-count.ensures)

pub returns-then-first-count : goal.returns-then-first-count
returns-then-first-count c w =
    let p = few c.args.pages.pages.block.order c.count-count.result c.args.pages.pages.block.small c.count-count.ensures in
    grind (arith, common_steps)
