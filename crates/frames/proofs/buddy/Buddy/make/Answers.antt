use Rattle.std.proofs.Common.{◌≡◌, ◌/◌, ◌<◌, ◌≤◌, true, length, replicate, refl, ap, ◌∙◌, ⊎_elim, arith}
use Rattle.std.proofs.lemmas.Bool.{both_ways, cases_lt, cases_eq, lt-ltb}
use Rattle.blocks.specs.Bit.{bit}
use Rattle.blocks.proofs.Digits.{none}
use Rattle.frames.proofs.Sets.{whole_from, alone_from, full_from, one_more, tally_all, none_marked}
use Rattle.frames.proofs.buddy.Buddy.make.Goals as goal

pub loop-frame-init : goal.loop-frame-init
loop-frame-init c =
    record {
      words = refl;
      free = λ k l. absurd (omega arith);
      rest = λ k l. none 32 k;
      marked = none_marked (bit c.new-marks.result.row) (bit (replicate 32 0)) c.new-marks.ensures (none 32);
    }

pub loop-frame-preserved : goal.loop-frame-preserved
loop-frame-preserved c =
    let i = c.loop-frame.invariant in
    let n = c.loop-frame.frame in
    let s = c.args.accepted.frames.small in
    let old = bit c.loop-frame.free in
    let new = bit c.set.new.words in
    let b : new n ≡ true = c.set.ensures.here ∙ lt-ltb (n / 64) (length c.loop-frame.free) (omega (arith, i.words, s)) in
    record {
      words = c.set.auto.words ∙ i.words;
      free = λ k l. ⊎_elim (λ (e : k ≡ n). ap new e ∙ b) (λ o. c.set.ensures.others k o ∙ i.free k (omega arith)) (cases_eq k n);
      rest = λ k l. c.set.ensures.others k (λ e. omega arith) ∙ i.rest k (omega arith);
      marked = c.merge.ensures old new i.marked (one_more old new n i.free i.rest b c.set.ensures.others);
    }

pub invariant_of-result : goal.invariant_of-result
invariant_of-result c =
    let i = c.loop-frame.invariant in
    let n = c.args.accepted.frames.number in
    let p = bit c.loop-frame.free in
    let b = bit c.loop-frame.marks.row in record {
      within = λ f t. ⊎_elim (λ (l : f < n). l) (λ (g : n ≤ f). absurd (both_ways (p f) (i.rest f (omega arith)) t)) (cases_lt f n);
      counted = omega (arith, tally_all p n (λ f l. i.free f (omega arith)));
      whole = whole_from b p i.marked;
      alone = alone_from b p i.marked;
      all = full_from b p i.marked;
    }
