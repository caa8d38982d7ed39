use Rattle.std.proofs.Common.{◌%◌, vec_items, sym, refl, ap, ◌∙◌, arith}
use Rattle.std.proofs.lemmas.Bool.{true≢false}
use Rattle.mapping.specs.Leaves.{Cleared}
use Rattle.mapping.specs.Sv39Format.{sv39_at}
use Rattle.mapping.specs.Sv39Words.{at_out, at_small, leaf_not}
use Rattle.mapping.proofs.Rewritten.{read_at}
use Rattle.mapping.proofs.Sv39Exact.{sv39_table}
use Rattle.mapping.proofs.Sv39Calls.{Done, clear9_sound, cleared9, clear0_sound, cleared0}
use Rattle.mapping.proofs.Sv39State.{sound_of, long_of}
use Rattle.mapping.proofs.sv39.Sv39MappingHardware.clear.Goals as goal
use Rattle.mapping.proofs.sv39.Sv39MappingHardware.clear.Goals.{After-set_upper, After-set_lower}

pub returns-then-not-in_range-clause-leaves : goal.returns-then-not-in_range-clause-leaves
returns-then-not-in_range-clause-leaves c = (at_out _ _ _ (λ h. true≢false (sym (c.if-not-in_range.ensures.1 h))), refl)

pub returns-then-index-eq0-clause-leaves : goal.returns-then-index-eq0-clause-leaves
returns-then-index-eq0-clause-leaves c =
    let r = c.if-not-in_range.ensures.0 refl in
    let l = long_of c.args.self.now.levels in
    let t = read_at (vec_items c.args.self.now.levels.table) _ _ _ 4104 c.index.ensures c.upper.ensures l (omega (arith, r.0, r.1)) in
    let e = read_at (vec_items c.args.self.now.levels.table) _ _ _ 4104 c.index-2.ensures c.lower.ensures l (omega (arith, r.0, r.1)) in
    let z = sym e ∙ c.if-index-eq0.true in
    (at_small _ (sound_of c.args.self.now) _ _ r.0 r.1 (λ h. c.if-index-eq-LEAF.false (ap (λ x. x % 4) t ∙ h)) ∙ leaf_not _ 0 _ (λ h. omega (arith, z)), refl)

-- the leaf of order 9 is gone
big : (c : After-set_upper)
    → Done (vec_items c.set_upper.new.self.table)
    (Cleared (sv39_at (vec_items c.args.self.now.levels.table)) (sv39_at (vec_items c.set_upper.new.self.table)) c.args.page.object c.args.page.number.0 9)
big c =
    let r = c.if-not-in_range.ensures.0 refl in
    let t = read_at (vec_items c.args.self.now.levels.table) _ _ _ 4104 c.index.ensures c.upper.ensures (long_of c.args.self.now.levels) (omega (arith, r.0, r.1)) in
    let leaf = sym (ap (λ x. x % 4) t) ∙ c.if-index-eq-LEAF.true in
    record {
      sound = clear9_sound _ _ _ _ r.0 r.1 (sound_of c.args.self.now) leaf c.set_upper.ensures;
      told = cleared9 _ _ _ _ r.0 r.1 (sound_of c.args.self.now) leaf c.set_upper.ensures;
    }

pub invariant_of-self : goal.invariant_of-self
invariant_of-self c = let s = (big (goal.at.invariant_of-self c).After-set_upper).sound in record { small = s.small; low = s.low; top = s.top }

pub returns-then-index-eq-LEAF-clause-leaves : goal.returns-then-index-eq-LEAF-clause-leaves
returns-then-index-eq-LEAF-clause-leaves c = (big (goal.at.returns-then-index-eq-LEAF-clause-leaves c).After-set_upper).told

pub returns-then-index-eq-LEAF-clause-entries : goal.returns-then-index-eq-LEAF-clause-entries
returns-then-index-eq-LEAF-clause-entries c =
    sv39_table _ (big (goal.at.returns-then-index-eq-LEAF-clause-entries c).After-set_upper).sound (long_of c.set_upper.new.self)

-- the leaf of order 0 is gone
small : (c : After-set_lower)
    → Done (vec_items c.set_lower.new.self.table)
    (Cleared (sv39_at (vec_items c.args.self.now.levels.table)) (sv39_at (vec_items c.set_lower.new.self.table)) c.args.page.object c.args.page.number.0 0)
small c =
    let r = c.if-not-in_range.ensures.0 refl in
    let l = long_of c.args.self.now.levels in
    let t = read_at (vec_items c.args.self.now.levels.table) _ _ _ 4104 c.index.ensures c.upper.ensures l (omega (arith, r.0, r.1)) in
    let e = read_at (vec_items c.args.self.now.levels.table) _ _ _ 4104 c.index-2.ensures c.lower.ensures l (omega (arith, r.0, r.1)) in
    let free = λ (h : _). c.if-index-eq-LEAF.false (ap (λ x. x % 4) t ∙ h) in
    let some = λ (z : _). c.if-index-eq0.false (e ∙ z) in
    record {
      sound = clear0_sound _ _ _ _ r.0 r.1 (sound_of c.args.self.now) free some c.set_lower.ensures;
      told = cleared0 _ _ _ _ r.0 r.1 (sound_of c.args.self.now) free some c.set_lower.ensures;
    }

pub invariant_of-self-2 : goal.invariant_of-self-2
invariant_of-self-2 c = let s = (small (goal.at.invariant_of-self-2 c).After-set_lower).sound in record { small = s.small; low = s.low; top = s.top }

pub returns-clause-leaves : goal.returns-clause-leaves
returns-clause-leaves c = (small (goal.at.returns-clause-leaves c).After-set_lower).told

pub returns-clause-entries : goal.returns-clause-entries
returns-clause-entries c = sv39_table _ (small (goal.at.returns-clause-entries c).After-set_lower).sound (long_of c.set_lower.new.self)
