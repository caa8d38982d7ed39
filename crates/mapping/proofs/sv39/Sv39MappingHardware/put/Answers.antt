use Rattle.std.proofs.Common.{◌≡◌, ℕ, ◌+◌, ◌*◌, ◌/◌, ◌%◌, cond, List, vec_items, sym, refl, ap, ◌∙◌, arith}
use Rattle.mapping.specs.declared.leaf.Leaf.{Leaf}
use Rattle.mapping.specs.Leaves.{Fit, PutOk, laid}
use Rattle.mapping.specs.Sv39Format.{sv39_sizes, sv39_at, sv39_word}
use Rattle.mapping.proofs.Rewritten.{read_at}
use Rattle.mapping.proofs.Sv39Exact.{sv39_table}
use Rattle.mapping.proofs.Sv39Calls.{Done, starts, topped_at, lowered_at, put9_sound, put9_ok, put0_sound, put0_ok, put_reaches}
use Rattle.mapping.proofs.Sv39State.{sound_of, long_of}
use Rattle.mapping.proofs.sv39.Sv39MappingHardware.put.Goals as goal
use Rattle.mapping.proofs.sv39.Sv39MappingHardware.put.Goals.{After-set_upper, After-set_lower}

pub returns-then-index-eq-LEAF-clause-leaves : goal.returns-then-index-eq-LEAF-clause-leaves
returns-then-index-eq-LEAF-clause-leaves c =
    let xs : List ℕ = vec_items c.args.self.now.levels.table in
    let o : ℕ = c.args.pages.object in
    let l : Leaf = laid c.args.pages.pages c.args.frame c.args.writable in
    let e : c.in_ok-leaf.leaf ≡ l = c.in_ok-leaf.ensures.0 in
    let fit : Fit sv39_sizes o l = c.in_ok-leaf.ensures.1 in
    let t = read_at xs _ _ (o * 2 + l.first.0 / 512) 4104 c.index.ensures (omega (arith, c.upper.ensures, c.first-page.ensures)) (long_of c.args.self.now.levels) (omega (arith, starts o l fit, fit.object)) in
    let leaf = sym (ap (λ x. x % 4) t) ∙ c.if-index-eq-LEAF.true in
    let r = put_reaches xs o l.first.0 l.order l.frame.0 l.writable (sound_of c.args.self.now) fit (λ h. c.if-leaf-eq9.false (ap (λ (m : Leaf). m.order) e ∙ h)) c.args.pages.pages.block.aligned leaf in
    (record { misfit = λ e. absurd (omega arith); fit = λ _. fit; reaches = λ _. r }, refl)

-- the leaf of order 9 is laid
big : (c : After-set_upper)
    → Done (vec_items c.set_upper.new.self.table)
    (PutOk sv39_sizes (sv39_at (vec_items c.args.self.now.levels.table)) (sv39_at (vec_items c.set_upper.new.self.table)) c.args.pages.object (laid c.args.pages.pages c.args.frame c.args.writable))
big c =
    let xs : List ℕ = vec_items c.args.self.now.levels.table in
    let o : ℕ = c.args.pages.object in
    let l : Leaf = laid c.args.pages.pages c.args.frame c.args.writable in
    let e : c.in_ok-leaf.leaf ≡ l = c.in_ok-leaf.ensures.0 in
    let fit : Fit sv39_sizes o l = c.in_ok-leaf.ensures.1 in
    let word = c.encode.ensures ∙ ap (λ (m : Leaf). sv39_word m.frame.0 (cond m.writable 1 0)) e in
    let at : c.first-page.result.object * 2 + c.first-page.result.number.0 / 512 ≡ o * 2 + l.first.0 / 512 = omega (arith, c.first-page.ensures) in
    let w = topped_at at word c.set_upper.ensures in
    let nine = sym (ap (λ (m : Leaf). m.order) e) ∙ c.if-leaf-eq9.true in
    record {
      sound = put9_sound xs _ o l.first.0 l.order l.frame.0 l.writable (sound_of c.args.self.now) fit nine c.args.pages.pages.block.aligned w;
      told = put9_ok xs _ o l.first.0 l.order l.frame.0 l.writable (sound_of c.args.self.now) fit nine c.args.pages.pages.block.aligned w;
    }

pub invariant_of-self : goal.invariant_of-self
invariant_of-self c = let s = (big (goal.at.invariant_of-self c).After-set_upper).sound in record { small = s.small; low = s.low; top = s.top }

pub returns-then-leaf-eq9-clause-leaves : goal.returns-then-leaf-eq9-clause-leaves
returns-then-leaf-eq9-clause-leaves c = (big (goal.at.returns-then-leaf-eq9-clause-leaves c).After-set_upper).told

pub returns-then-leaf-eq9-clause-entries : goal.returns-then-leaf-eq9-clause-entries
returns-then-leaf-eq9-clause-entries c =
    sv39_table _ (big (goal.at.returns-then-leaf-eq9-clause-entries c).After-set_upper).sound (long_of c.set_upper.new.self)

-- the leaf of order 0 is laid
small : (c : After-set_lower)
    → Done (vec_items c.set_lower.new.self.table)
    (PutOk sv39_sizes (sv39_at (vec_items c.args.self.now.levels.table)) (sv39_at (vec_items c.set_lower.new.self.table)) c.args.pages.object (laid c.args.pages.pages c.args.frame c.args.writable))
small c =
    let xs : List ℕ = vec_items c.args.self.now.levels.table in
    let o : ℕ = c.args.pages.object in
    let l : Leaf = laid c.args.pages.pages c.args.frame c.args.writable in
    let e : c.in_ok-leaf.leaf ≡ l = c.in_ok-leaf.ensures.0 in
    let fit : Fit sv39_sizes o l = c.in_ok-leaf.ensures.1 in
    let t = read_at xs _ _ (o * 2 + l.first.0 / 512) 4104 c.index.ensures (omega (arith, c.upper.ensures, c.first-page.ensures)) (long_of c.args.self.now.levels) (omega (arith, starts o l fit, fit.object)) in
    let word = c.encode-2.ensures ∙ ap (λ (m : Leaf). sv39_word m.frame.0 (cond m.writable 1 0)) e in
    let at : c.first-page.result.object * 2 + c.first-page.result.number.0 / 512 ≡ o * 2 + l.first.0 / 512 = omega (arith, c.first-page.ensures) in
    let on : 8 + c.first-page.result.object * 1024 + c.first-page.result.number.0 ≡ 8 + o * 1024 + l.first.0 = omega (arith, c.first-page.ensures) in
    let w = lowered_at at on word c.set_lower.ensures in
    let other = λ (h : _). c.if-leaf-eq9.false (ap (λ (m : Leaf). m.order) e ∙ h) in
    let free = λ (h : _). c.if-index-eq-LEAF.false (ap (λ x. x % 4) t ∙ h) in
    record {
      sound = put0_sound xs _ o l.first.0 l.order l.frame.0 l.writable (sound_of c.args.self.now) fit other c.args.pages.pages.block.aligned free w;
      told = put0_ok xs _ o l.first.0 l.order l.frame.0 l.writable (sound_of c.args.self.now) fit other c.args.pages.pages.block.aligned free w;
    }

pub invariant_of-self-2 : goal.invariant_of-self-2
invariant_of-self-2 c = let s = (small (goal.at.invariant_of-self-2 c).After-set_lower).sound in record { small = s.small; low = s.low; top = s.top }

pub returns-clause-leaves : goal.returns-clause-leaves
returns-clause-leaves c = (small (goal.at.returns-clause-leaves c).After-set_lower).told

pub returns-clause-entries : goal.returns-clause-entries
returns-clause-entries c = sv39_table _ (small (goal.at.returns-clause-entries c).After-set_lower).sound (long_of c.set_lower.new.self)
