use Rattle.std.proofs.Common.{◌≡◌, ℕ, ◌+◌, ◌-◌, ◌*◌, List, vec_items, sym, subst, ◌∙◌, arith}
use Rattle.mapping.proofs.Rewritten.{Written, rewritten, part_zeroed}
use Rattle.mapping.proofs.Sv39Calls.{none_there, empty_inside, empty_others, empty_counts}
use Rattle.mapping.proofs.Sv39State.{counts_of, long_of}
use Rattle.mapping.proofs.sv39.Levels.empty_lower.Goals as goal
use Rattle.mapping.proofs.sv39.Levels.empty_lower.Goals.{After-fill}

pub returns-then-self-n-eq0-clause-inside : goal.returns-then-self-n-eq0-clause-inside
returns-then-self-n-eq0-clause-inside c = none_there (vec_items c.args.self.now.table) c.args.n (sym (c.args.self.now.counted c.args.n c.requires) ∙ c.if-self-n-eq0.true)

-- the entries once those of the table are 0
abbrev after : After-fill → List ℕ
after c = rewritten c.args.self.now.table.len (8 + c.args.n * 512) (8 + c.args.n * 512 + 512) (vec_items c.args.self.now.table) c.deref_mut.result.now c.fill.new.self

wiped : (c : After-fill) → Written (vec_items c.args.self.now.table) (after c) (8 + c.args.n * 512) 512 0 0
wiped c =
    let xs : List ℕ = vec_items c.args.self.now.table in
    let s : ℕ = 8 + c.args.n * 512 in
    let r = c.requires in
    let l = long_of c.args.self.now in
    let k : s + 512 - s ≡ 512 = omega arith in
    subst (λ k. Written xs (after c) s k 0 0) k
    (part_zeroed c.args.self.now.table.len s (s + 512) _ xs c.deref_mut.result.now c.fill.new.self
    c.deref_mut.ensures.value (sym c.args.self.now.table.ok.0) (omega arith) (omega (arith, c.args.self.now.table.ok.0)) c.fill.ensures.len (c.fill.ensures.after (λ y e. e)))

pub invariant_of-self : goal.invariant_of-self
invariant_of-self c =
    let w = wiped (goal.at.invariant_of-self c).After-fill in
    record { long = c.args.self.now.long; counted = (empty_counts _ _ _ c.args.n c.requires (omega arith) (counts_of c.args.self.now) w).each }

pub returns-clause-inside : goal.returns-clause-inside
returns-clause-inside c = empty_inside _ _ c.args.self.now.counts c.args.n c.requires (omega arith) (counts_of c.args.self.now) (wiped (goal.at.returns-clause-inside c).After-fill)

pub returns-clause-others : goal.returns-clause-others
returns-clause-others c = empty_others _ _ c.args.self.now.counts c.args.n c.requires (omega arith) (counts_of c.args.self.now) (wiped (goal.at.returns-clause-others c).After-fill)
