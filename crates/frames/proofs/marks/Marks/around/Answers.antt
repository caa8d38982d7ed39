use Rattle.std.proofs.Common.{◌≡◌, ℕ, ◌-◌, ◌*◌, ◌/◌, ◌^◌, Some, Ok, Err, Result, MatchResult, sym, ap, ◌∙◌, subst, below_more, arith}
use Rattle.blocks.specs.Bit.{bit}
use Rattle.frames.specs.Maximal.{node}
use Rattle.std.specs.Result.{result_ok}
use Rattle.frames.proofs.Maxes.{first}
use Rattle.frames.proofs.marks.Marks.around.Goals as goal

-- what holds of the value in an Ok
ok_is : {A E : Type 0} (P : A → Type 0) (Q : E → Type 0) (a : A) (r : Result A E) → Some a ≡ result_ok r → MatchResult r P Q → P a
ok_is P Q a (Ok x) e h = let d : x ≡ a = cc in subst P d h
ok_is P Q a (Err x) e h = cc

pub loop-order-preserved : goal.loop-order-preserved
loop-order-preserved c =
    let o = c.loop-order.order in
    let n = c.from-block.result in
    let i : ℕ = c.args.frame.0 / 2 ^ o in
    let x = c.in_ok-ok.field-0 in
    let b : (x.first ≡ i * 2 ^ o) × (x.order ≡ o) = ok_is _ _ x c.around.result c.in_ok-ok.ensures.value c.around.ensures in
    let f = c.from-block.ensures in
    let p = ap (λ (x : ℕ). 2 ^ x) (f.0 ∙ b.1) in
    let e : n.index ≡ i = sym (first o n.index) ∙ ap (λ (x : ℕ). x / 2 ^ o) (ap (λ (x : ℕ). n.index * x) (sym p) ∙ sym f.1 ∙ b.0) ∙ first o i in
    let t = ap (λ (x : ℕ). 2 ^ (11 - x)) (f.0 ∙ b.1) in
    let z : node o i ≡ node n.order n.index = omega (arith, t, e) in
    below_more _ _ c.loop-order.invariant (ap (bit c.args.self.now.row) z ∙ sym c.if-has.ensures)
