use Rattle.std.proofs.Common.{◌≤◌, get_or, arith}
use lib.Count.{ones}
use Rattle.std.proofs.lemmas.Nat.{ones-le}
use Rattle.std.proofs.lemmas.List.Elements.{All-from_get_or}
use Rattle.std.proofs.lemmas.List.Sums.{sum_by-le}
use Rattle.blocks.proofs.bits.count.Goals as goal

-- a word has at most 64 set bits
pub returns-clause-few : goal.returns-clause-few
returns-clause-few c =
    let s = sum_by-le ones 64 c.args.words.now
    (All-from_get_or (λ w. ones w ≤ 64) c.args.words.now 0 (λ k _. ones-le 64 (get_or c.args.words.now k 0) (omega (arith, c.type_inv.words k)))) in
    omega (arith, s)
