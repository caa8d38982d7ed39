use Rattle.std.proofs.Common.{◌≡◌, ℕ, ◌+◌, ◌*◌, get_or, vec_items, sym, ◌∙◌}
use Rattle.std.proofs.lemmas.List.{get_or-replicate}
use Rattle.mapping.proofs.Rewritten.{all_zero}
use Rattle.mapping.proofs.Sv39Calls.{blank_sound, blank_none, empty_count_lem}
use Rattle.mapping.proofs.sv39.Sv39.make.Goals as goal
use Rattle.mapping.proofs.sv39.Sv39.make.Goals.{After-fill}

zero : (c : After-fill) → (i : ℕ) → get_or (vec_items c.fill.new.self) i 0 ≡ 0
zero c = all_zero _ _ (c.fill.ensures.items (λ y e. e))

pub invariant_of-result : goal.invariant_of-result
invariant_of-result c =
    let z = zero (goal.at.invariant_of-result c).After-fill in
    record {
      long = c.fill.ensures.len ∙ c.args.accepted.long;
      counted = λ n h. get_or-replicate {A = ℕ} 8 n 0 0 h ∙ sym (empty_count_lem (vec_items c.fill.new.self) n (λ d l. z (8 + n * 512 + d)));
    }

pub invariant_of-result-2 : goal.invariant_of-result-2
invariant_of-result-2 c =
    let s = blank_sound (vec_items c.fill.new.self) (zero (goal.at.invariant_of-result-2 c).After-fill) in
    record { small = s.small; low = s.low; top = s.top }

pub returns-clause-none : goal.returns-clause-none
returns-clause-none c = blank_none (vec_items c.fill.new.self) (zero (goal.at.returns-clause-none c).After-fill)
