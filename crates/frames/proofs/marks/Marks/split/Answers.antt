use Rattle.std.proofs.Common.{◌≡◌, ℕ, ◌-◌, ◌*◌, ◌/◌, ◌^◌, sym, ap, ◌∙◌, subst, ⊎_elim, arith}
use Rattle.std.proofs.lemmas.Bool.{cases_eq}
use Rattle.blocks.specs.Bit.{bit}
use Rattle.frames.specs.Maximal.{Parts}
use Rattle.frames.proofs.Steps.{split_again, split_index, marked_same}
use Rattle.frames.proofs.marks.Marks.split.Goals as goal

pub loop-low-init : goal.loop-low-init
loop-low-init c =
    let n = c.args.from in
    record {
      from = omega arith;
      to = omega arith;
      index = let z : n.order - n.order ≡ 0 = omega arith in rw z (omega arith);
      marked = λ p q h x. marked_same (bit c.args.self.now.row) p q
          (λ f. ⊎_elim (λ e. x.lacks f e ∙ sym (x.held f e)) (λ n. sym (x.outside f n)) (cases_eq (f / 2 ^ n.order) n.index)) h;
    }

pub loop-low-preserved : goal.loop-low-preserved
loop-low-preserved c =
    let n = c.args.from in
    let i = c.loop-low.invariant in
    let b = c.loop-low.block in
    let low = c.in-Some.low in
    let high = c.in-Some.high in
    let h = c.in-Some.ensures in
    record {
      from = h.0;
      to = omega (arith, h.1);
      index = split_index n.order n.index b.order b.index low.order low.index h.1 i.to h.2 i.index;
      marked = λ p q m x. split_again (bit c.loop-low.self.row) (bit c.set.new.self.row) p n.order n.index
          b.order b.index low.order low.index high.order high.index h.1 i.to n.small h.2 h.3 h.4 high.room i.index
          (λ r y. i.marked p r m y) c.set.ensures.here c.set.ensures.others q x;
    }

pub returns : goal.returns
returns c =
    let i = c.loop-low.invariant in
    let n = c.args.from in
    let b = c.loop-low.block in
    let e : b.order ≡ c.args.order = omega (arith, c.in_default.ensures, i.from) in
    record {
      place = (e, i.index ∙ ap (λ (x : ℕ). n.index * 2 ^ (n.order - x)) e);
      marked = λ p q m x. i.marked p q m (subst (λ (y : ℕ). Parts p q n.order n.index y b.index) (sym e) x);
    }
