use Rattle.std.proofs.Common.{◌≡◌, ℕ, ◌+◌, ◌*◌, ◌/◌, ◌^◌, ◌<◌, true, length, sym, ap, ◌∙◌, arith}
use Rattle.std.proofs.lemmas.Result.{err_from_is_err_and}
use Rattle.std.proofs.lemmas.Bool.{lt-ltb}
use Rattle.blocks.specs.Bit.{bit}
use Rattle.blocks.specs.declared.aligned.AlignedBlock.{AlignedBlock}
use Rattle.frames.specs.Source.{tally, Joined}
use Rattle.frames.specs.Maximal.{Marked}
use Rattle.frames.specs.Tally.{tally_le}
use Rattle.frames.proofs.Sets.{give_all, marked_from, whole_from, alone_from, full_from}
use Rattle.frames.proofs.buddy.BuddyFrameSource.give.Goals as goal
use Rattle.frames.proofs.buddy.BuddyFrameSource.give.Goals.{After-count}

gave : (c : goal.After-count) →
    Joined (bit c.args.self.now.free) (bit c.fill.new.words) c.args.block.block.first (c.args.block.block.first + 2 ^ c.args.block.block.order)
    × Marked (bit c.merge.new.self.row) (bit c.fill.new.words)
    × (tally (bit c.fill.new.words) c.args.self.now.frames.number ≡ tally (bit c.args.self.now.free) c.args.self.now.frames.number + 2 ^ c.args.block.block.order)
    × ((f : ℕ) → bit c.fill.new.words f ≡ true → f < c.args.self.now.frames.number)
gave c =
    let s = c.args.self.now in
    let b = c.args.block.block in
    let r = c.in_ok-admits.ensures.0 in
    let n : c.numbers-numbers.result.first ≡ b.first = ap (λ (x : AlignedBlock). x.first) c.numbers-numbers.ensures in
    let o : c.numbers-numbers.result.order ≡ b.order = ap (λ (x : AlignedBlock). x.order) c.numbers-numbers.ensures in
    let p : 2 ^ c.numbers-numbers.result.order ≡ 2 ^ b.order = ap (λ (x : ℕ). 2 ^ x) o in
    give_all (bit s.marks.row) (bit c.merge.new.self.row) (bit s.free) (bit c.fill.new.words)
    b.order c.into.result.order c.into.result.index b.first s.frames.number
    (sym n ∙ c.into.ensures.1 ∙ ap (λ (x : ℕ). c.into.result.index * 2 ^ x) (c.into.ensures.0 ∙ o)) (c.into.ensures.0 ∙ o) r
    (marked_from (bit s.marks.row) (bit s.free) s.whole s.alone s.all) s.within
    c.merge.ensures
    c.in_ok-admits.ensures.1
    (λ f u v. c.fill.ensures.here f (omega arith) (omega arith) ∙ lt-ltb (f / 64) (length s.free) (omega (arith, s.frames.small, r)))
    (λ f u. c.fill.ensures.below f (omega arith)) (λ f u. c.fill.ensures.above f (omega arith))

pub overflow_add-self : goal.overflow_add-self
overflow_add-self c =
    let s = c.args.self.now in
    omega (arith, s.counted, c.count.ensures, s.frames.small, c.in_ok-admits.ensures.0, tally_le (bit s.free) s.frames.number)

pub invariant_of-self : goal.invariant_of-self
invariant_of-self c =
    let s = c.args.self.now in
    let t = gave c in
    let m = bit c.merge.new.self.row in
    let f = bit c.fill.new.words in record {
      within = t.3;
      counted = omega (arith, s.counted, t.2, c.count.ensures);
      whole = whole_from m f t.1;
      alone = alone_from m f t.1;
      all = full_from m f t.1;
    }

pub returns-in_err-admits-clause-gives : goal.returns-in_err-admits-clause-gives
returns-in_err-admits-clause-gives c =
    let p = err_from_is_err_and c.from_residual.result c.from_residual.ensures.1 in
    rw (p.1, p.2) (c.in_err-admits.ensures c.args.self.now.left)
