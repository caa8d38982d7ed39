use Rattle.std.proofs.Common.{◌≡◌, ℕ, ◌+◌, ◌/◌, true, length, replicate, sym, refl, ap, ◌∙◌, arith}
use Rattle.std.proofs.lemmas.Bool.{lt-ltb}
use Rattle.blocks.specs.Bit.{bit}
use Rattle.blocks.proofs.Digits.{none}
use Rattle.frames.specs.Tally.{tally_le}
use Rattle.frames.proofs.Sets.{tally_none}
use Rattle.frames.proofs.Sources.{nothing_taken, without_more, without_tally, took_within}
use Rattle.frames.proofs.laws.take_singles.Goals as goal

pub loop-frame-init : goal.loop-frame-init
loop-frame-init g c =
    let m = g.S.FrameSource.means c.args.source.now in
    let p = bit (replicate 32 0) in
    record { words = refl; without = nothing_taken m p (none 32); all = omega arith; count = sym (tally_none p m.total (λ f l. none 32 f)) }

pub overflow_add-count : goal.overflow_add-count
overflow_add-count g c =
    let m = g.S.FrameSource.means c.args.source.now in
    let l = g.met.S.FrameSource.lawful c.args.source.now in
    omega (arith, c.loop-frame.invariant.all, l.counted, l.small, tally_le m.free m.total)

pub loop-frame-preserved : goal.loop-frame-preserved
loop-frame-preserved g c =
    let m = g.S.FrameSource.means in
    let s = m c.args.source.now in
    let t = m c.loop-frame.source in
    let u = m c.take_single.new.source in
    let i = c.loop-frame.invariant in
    let h = c.in-Some.ensures.1 in
    let p = bit c.loop-frame.taken in
    let q = bit c.set.new.words in
    let x : ℕ = c.in-Some.frame.0 in
    let l = g.met.S.FrameSource.lawful c.loop-frame.source in
    let r = took_within t 0 u x _ l h in
    let here : q x ≡ true = c.set.ensures.here ∙ lt-ltb (x / 64) (length c.loop-frame.taken) (omega (arith, r, l.small, i.words)) in
    let others = c.set.ensures.others in
    record {
      words = c.set.auto.words ∙ i.words;
      without = without_more s t u p q x _ i.without h here others;
      all = omega (arith, h.avail, i.all);
      count = ap (λ n. n + 1) i.count ∙ sym (without_tally s t u p q x _ l i.without h here others);
    }
