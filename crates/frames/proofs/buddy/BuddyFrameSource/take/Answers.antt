use Rattle.std.proofs.Common.{◌≡◌, ℕ, ◌+◌, ◌*◌, ◌^◌, ◌<◌, true, refl, ap, ◌∙◌, subst, arith}
use Rattle.blocks.specs.Bit.{bit}
use Rattle.blocks.specs.declared.aligned.AlignedBlock.{AlignedBlock}
use Rattle.frames.specs.Source.{tally, Joined}
use Rattle.frames.specs.Maximal.{Marked}
use Rattle.frames.proofs.Sets.{take_all, marked_from, whole_from, alone_from, full_from, dry, unmarked, take_lowest}
use Rattle.frames.proofs.buddy.BuddyFrameSource.take.Goals as goal
use Rattle.frames.proofs.buddy.BuddyFrameSource.take.Goals.{After-count}

took : (c : goal.After-count) →
    let b = c.from-block.result.block.first in
    Joined (bit c.fill.new.words) (bit c.args.self.now.free) b (b + 2 ^ c.args.order)
    × Marked (bit c.split.new.self.row) (bit c.fill.new.words)
    × (tally (bit c.args.self.now.free) c.args.self.now.frames.number ≡ tally (bit c.fill.new.words) c.args.self.now.frames.number + 2 ^ c.args.order)
    × ((f : ℕ) → bit c.fill.new.words f ≡ true → f < c.args.self.now.frames.number)
took c =
    let s = c.args.self.now in
    let n = c.in-Some.found in
    let x = c.in-Some.ensures in
    let r = c.split.ensures.place in
    let k : ℕ = c.args.order in
    let b = c.from-block.ensures in
    let first : c.numbers.result.first ≡ c.from-block.result.block.first = ap (λ (y : AlignedBlock). y.first) c.numbers.ensures in
    let order : c.numbers.result.order ≡ c.from-block.result.block.order = ap (λ (y : AlignedBlock). y.order) c.numbers.ensures in
    let p = ap (λ (y : ℕ). c.split.result.index * 2 ^ y) r.0 in
    let t = take_all (bit s.marks.row) (bit c.set.new.self.row) (bit c.split.new.self.row) (bit s.free) (bit c.fill.new.words)
    n.order n.index k c.split.result.index c.numbers.result.first c.numbers.result.order s.frames.number
    x.0 n.small n.room r.1
    (marked_from (bit s.marks.row) (bit s.free) s.whole s.alone s.all) s.within
    x.1 c.set.ensures.here c.set.ensures.others c.split.ensures.marked
    (first ∙ b.0 ∙ p) (order ∙ b.1 ∙ r.0) c.fill.ensures.here c.fill.ensures.below c.fill.ensures.above in
    (subst (λ (y : ℕ). Joined (bit c.fill.new.words) (bit s.free) y (y + 2 ^ k)) first t.0, t.1, t.2, t.3)

size : (c : goal.After-count) → c.count.result ≡ 2 ^ c.args.order
size c = c.count.ensures ∙ ap (λ (x : ℕ). 2 ^ x) (c.from-block.ensures.1 ∙ c.split.ensures.place.0)

pub overflow_sub-self : goal.overflow_sub-self
overflow_sub-self c = let t = (took c).2 in let z = size c in let k = c.args.self.now.counted in omega (arith, t, z, k)

pub invariant_of-self : goal.invariant_of-self
invariant_of-self c =
    let s = c.args.self.now in
    let t = took c in
    let z = size c in
    let m = bit c.split.new.self.row in
    let f = bit c.fill.new.words in record {
      within = t.3;
      counted = omega (arith, s.counted, t.2, z);
      whole = whole_from m f t.1;
      alone = alone_from m f t.1;
      all = full_from m f t.1;
    }

pub returns-in_default : goal.returns-in_default
returns-in_default c =
    let s = c.args.self.now in
    let h = marked_from (bit s.marks.row) (bit s.free) s.whole s.alone s.all in
    record {
      takes = record {
        small = omega arith;
        same = refl;
        depth = refl;
        dry = λ e. s.counted ∙ dry (bit s.marks.row) (bit s.free) s.frames.number s.frames.small h (λ j i z l r. c.in_default.ensures j i (omega arith) l r);
      };
      chooses = (refl, λ j i a b x. unmarked (bit s.marks.row) (bit s.free) j i s.frames.number s.frames.small s.within h b (λ r. c.in_default.ensures j i a b r) x);
      kept = refl;
    }

pub returns : goal.returns
returns c =
    let s = c.args.self.now in
    let n = c.in-Some.found in
    let x = c.in-Some.ensures in
    let r = c.split.ensures.place in
    let b = c.from-block.ensures in
    let a = (goal.at.returns c).After-count in
    let t = took a in
    record {
      takes = record { small = omega arith; order = b.1 ∙ r.0; total = refl; free = t.0; avail = omega (arith, s.counted, t.2, size a) };
      chooses = take_lowest (bit s.marks.row) (bit s.free) n.order n.index c.args.order c.split.result.index c.from-block.result.block.first s.frames.number
          s.frames.small s.within (marked_from (bit s.marks.row) (bit s.free) s.whole s.alone s.all)
          x.0 n.small n.room x.1 x.2 x.3 r.1 (b.0 ∙ ap (λ (y : ℕ). c.split.result.index * 2 ^ y) r.0);
      kept = tt;
    }
