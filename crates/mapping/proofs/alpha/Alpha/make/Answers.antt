use Rattle.std.proofs.Common.{◌≡◌, ℕ, get_or, vec_items, ◌∙◌}
use Rattle.mapping.proofs.AlphaCalls.{blank_sound, blank_none}
use Rattle.mapping.proofs.Rewritten.{all_zero}
use Rattle.mapping.proofs.alpha.Alpha.make.Goals as goal
use Rattle.mapping.proofs.alpha.Alpha.make.Goals.{After-fill}

zero : (c : After-fill) → (i : ℕ) → get_or (vec_items c.fill.new.self) i 0 ≡ 0
zero c = all_zero _ _ (c.fill.ensures.items (λ y e. e))

pub invariant_of-result : goal.invariant_of-result
invariant_of-result c =
    let s = blank_sound (vec_items c.fill.new.self) (zero c) in
    record {
      long = c.fill.ensures.len ∙ c.args.accepted.long;
      small = s.small;
      same = s.same;
    }

pub returns-clause-none : goal.returns-clause-none
returns-clause-none c = blank_none (vec_items c.fill.new.self) (zero (goal.at.returns-clause-none c).After-fill)
