use Rattle.std.proofs.Common.{◌≡◌, ◌+◌, ◌-◌, ◌*◌, ◌%◌, ◌<◌, ◌≤◌, min, true, arith, ap, ◌∙◌, subst, refl, ⊎_elim}
use Rattle.std.proofs.lemmas.Bool.{cases_lt}
use Rattle.blocks.specs.Bit.{bit}
use Rattle.manager.proofs.Filled.{Turn, turn}
use Rattle.manager.proofs.presence.Presence.all.Goals as goal
use Rattle.manager.proofs.presence.Presence.all.Goals.{After-min}

from : (c : After-min) → c.index-from.result ≡ c.args.block.object * 1024 + c.args.block.pages.block.first
from c = c.index-from.ensures ∙ rw (c.first.ensures.0, c.first.ensures.1) refl

of_turn : (c : After-min) → Turn (c.args.block.object * 1024 + c.args.block.pages.block.first) c.args.block.pages.block.order c.loop-at.at c.min.result
of_turn c =
    let b = c.args.block.pages.block in
    let i = c.loop-at.invariant in
    let f = from c in
    let d : (c.loop-at.at - (c.args.block.object * 1024 + b.first)) % 64 ≡ 0 = omega (arith, f, i.words) in
    turn c.args.block.object b.first b.order c.loop-at.at c.min.result b.small b.aligned
    (omega (arith, f, i.from)) d (omega (arith, f, c.loop-at-test.true, c.count-count.ensures)) (c.min.ensures ∙ ap (λ x. min x 64) c.count-count.ensures)

pub returns-then-not-all_in_word-clause-no : goal.returns-then-not-all_in_word-clause-no
returns-then-not-all_in_word-clause-no c =
    λ _ h.
    let a = (goal.at.returns-then-not-all_in_word-clause-no c).After-min in
    let t = of_turn a in
    c.all_in_word.ensures.no t.some t.word c.if-not-all_in_word.true (λ k l. h (c.loop-at.at + k) (omega (arith, c.loop-at.invariant.from, from a)) (omega (arith, t.inside)))

pub loop-at-preserved : goal.loop-at-preserved
loop-at-preserved c =
    let a = (goal.at.loop-at-preserved c).After-min in
    let t = of_turn a in
    let f = from a in
    let i = c.loop-at.invariant in
    record {
      from = omega (arith, i.from);
      words = omega (arith, i.from, i.words);
      set = λ j u v z.
          ⊎_elim (λ (l : j < c.loop-at.at). i.set j u l z)
          (λ (l : c.loop-at.at ≤ j).
          let e : c.loop-at.at + (j - c.loop-at.at) ≡ j = omega arith in
          let w = t.whole j v (omega (arith, z, f)) in
          subst (λ x. bit c.args.self.now.words x ≡ true) e (c.all_in_word.ensures.yes t.word c.if-not-all_in_word.false (j - c.loop-at.at) (omega (arith, l, w))))
          (cases_lt j c.loop-at.at);
    }

pub returns-else-not-all_in_word-clause-yes : goal.returns-else-not-all_in_word-clause-yes
returns-else-not-all_in_word-clause-yes c =
    λ _ j u z.
    let a = (goal.at.returns-else-not-all_in_word-clause-yes c).After-min in
    let f = from a in
    let m : j < c.loop-at.at + 64 = omega (arith, f, z, c.count-count.ensures) in
    let t = of_turn a in
    let w = t.whole j m z in
    ⊎_elim (λ (l : j < c.loop-at.at). c.loop-at.invariant.set j (omega (arith, f, u)) l (omega (arith, f, z)))
    (λ (l : c.loop-at.at ≤ j).
    let e : c.loop-at.at + (j - c.loop-at.at) ≡ j = omega arith in
    subst (λ x. bit c.args.self.now.words x ≡ true) e (c.all_in_word.ensures.yes t.word c.if-not-all_in_word.false (j - c.loop-at.at) (omega (arith, l, w))))
    (cases_lt j c.loop-at.at)
