use Rattle.std.proofs.Common.{◌≡◌, ℕ, ◌+◌, ◌-◌, ◌/◌, ◌^◌, ◌≤◌, ap, ◌∙◌, arith, pow_mono}
use native.Mathlib.Nat.{div-eq_of_eq-mul_left}
use Rattle.std.proofs.lemmas.Nat.{pow_pos, pow-add}
use Rattle.frames.proofs.node.Node.place.Goals as goal

pub returns : goal.returns
returns c =
    let o : ℕ = c.args.self.order in
    let s : 11 ≡ 11 - o + o = omega arith in
    let e : 2048 / 2 ^ o ≡ 2 ^ (11 - o) =
    div-eq_of_eq-mul_left {n = 2 ^ o} {m = 2048} {k = 2 ^ (11 - o)} (pow_pos o) (ap (λ (x : ℕ). 2 ^ x) {x = 11} s ∙ pow-add 2 (11 - o) o) in
    let l : 2 ^ (11 - o) ≤ 2 ^ 11 = pow_mono {i = 11 - o} {j = 11} (omega arith) in
    (omega (arith, e), omega (arith, e, l))
