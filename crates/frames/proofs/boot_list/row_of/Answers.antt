use Rattle.std.proofs.Common.{◌≡◌, ℕ, ◌+◌, ◌/◌, ◌<◌, true, false, length, get_or, replicate, take, sym, ap, ◌∙◌, arith}
use Rattle.std.proofs.lemmas.Bool.{lt-ltb}
use Rattle.std.proofs.lemmas.List.{get_or-take, length-take-le}
use Rattle.blocks.specs.Bit.{bit}
use Rattle.blocks.proofs.Digits.{none}
use Rattle.frames.specs.Lists.{row_more, distinct_more, below_more, tally_more}
use Rattle.frames.proofs.Sets.{tally_none}
use Rattle.frames.proofs.boot_list.row_of.Goals as goal

pub loop-frame-init : goal.loop-frame-init
loop-frame-init c =
    record {
      row = λ f. none 32 f;
      distinct = λ i l. absurd (omega arith);
      below = λ i l. absurd (omega arith);
      count = sym (tally_none (bit (replicate 32 0)) c.args.frames.number (λ f l. none 32 f));
    }

pub loop-frame-preserved : goal.loop-frame-preserved
loop-frame-preserved c =
    let i = c.loop-frame.invariant in
    let n : ℕ = c.args.frames.number in
    let k = c.loop-frame.frame-index in
    let xs = c.args.places.now in
    let old = bit c.loop-frame.row in
    let new = bit c.set.new.words in
    let part : length (take c.args.filled xs) ≡ c.args.filled = length-take-le c.args.filled xs (omega arith) in
    let y : ℕ = get_or xs k 0 in
    let x : ℕ = get_or (take c.args.filled xs) k 0 in
    let e : y ≡ x = sym (get_or-take c.args.filled xs k 0 (omega (arith, part))) in
    let lt : y < n = omega (arith, e) in
    let was : old y ≡ false = ap old e ∙ sym c.if-get.ensures in
    let is : new y ≡ true = ap new e ∙ c.set.ensures.here ∙ lt-ltb (x / 64) (length c.loop-frame.row) (omega (arith, c.if-get.array_long, c.args.frames.small, lt, e)) in
    let others : (f : ℕ) → (f ≡ y → ⊥) → new f ≡ old f = λ f o. c.set.ensures.others f (λ d. o (d ∙ sym e)) in
    record {
      row = row_more xs old new k i.row is others;
      distinct = distinct_more xs k i.distinct (sym (i.row y) ∙ was);
      below = below_more xs k n i.below lt;
      count = ap (λ m. m + 1) i.count ∙ sym (tally_more old new y n lt was is others);
    }
