use Rattle.std.proofs.Common.{◌≡◌, ℕ, ◌-◌, ◌/◌, ◌%◌, ◌^◌, ◌<◌, ◌≤◌, List, length, get_or, take, drop, replicate, sym, refl, ap, ◌∙◌, ⊎_elim, arith}
use Rattle.std.proofs.Math.Bool.{and-true, and-false}
use Rattle.std.proofs.lemmas.Bool.{lt-ltb, le-ltb, cases_lt}
use Rattle.std.proofs.lemmas.List.{get_or-replicate}
use lib.ListN.{length-take, length-drop}
use borrow.Rule.Slice.PartMut.{put_mid, same_len_mid}
use Rattle.blocks.proofs.Digits.{write_same, bit_past}
use Rattle.blocks.proofs.Parts.{before_part, in_part, after_part}
use Rattle.blocks.proofs.Runs.{aligned, many, full_mask}
use Rattle.blocks.proofs.bits.fill.Goals as goal

pub returns-then-order-lt6-clause-here : goal.returns-then-order-lt6-clause-here
returns-then-order-lt6-clause-here c j a b =
    let l = aligned c.args.block.first c.args.block.order (omega arith) c.args.block.aligned in
    let e : j / 64 ≡ c.first.result / 64 = omega (arith, c.first.ensures, l) in
    write_same c.args.words.now (c.first.result / 64) c.masked.result j c.if-from-words.false e
    ∙ c.masked.ensures.on (j % 64) (c.run.ensures.here (j % 64) (omega (arith, c.first.ensures, l)) (omega (arith, c.first.ensures, l)))
    ∙ rw (lt-ltb (j / 64) (length c.args.words.now) (omega (arith, e))) (sym (and-true c.args.value))

pub returns-clause-here : goal.returns-clause-here
returns-clause-here c j a b =
    let m = many c.args.block.first c.args.block.order (omega arith) (omega arith) c.args.block.aligned in
    let q : 2 ^ (c.order-2.result - 6) ≡ 2 ^ (c.args.block.order - 6) = ap (λ (x : ℕ). 2 ^ (x - 6)) c.order-2.ensures in
    let from : ℕ = c.first.result / 64 in
    let part : List ℕ = take (c.min-to.result - from) (drop from c.args.words.now) in
    let long : length (take (c.min-to.result - c.first.result / 64) (drop (c.first.result / 64) c.args.words.now)) ≡ c.min-to.result - c.first.result / 64 =
    omega (arith, c.min-to.ensures, length-take (c.min-to.result - c.first.result / 64) (drop (c.first.result / 64) c.args.words.now), length-drop (c.first.result / 64) c.args.words.now) in
    let e : c.fill.new.self ≡ replicate (length part) c.masked-2.result = c.fill.ensures.after (λ y e. e) in
    ⊎_elim
    (λ (l : j / 64 < length c.args.words.now).
    let w : get_or (put_mid from (c.min-to.result - from) c.args.words.now c.fill.new.self) (j / 64) 0 ≡ c.masked-2.result =
    in_part from (c.min-to.result - from) c.args.words.now c.fill.new.self (j / 64) (omega arith) (omega (arith, c.first.ensures)) (omega (arith, c.first.ensures, q, c.min-to.ensures, c.fill.ensures.len, long, m.0, m.1))
    ∙ rw e (get_or-replicate {A = ℕ} (length part) (j / 64 - from) c.masked-2.result 0 (omega (arith, long, q, c.first.ensures, c.min-to.ensures, m.0, m.1))) in
    rw w (c.masked-2.ensures.on (j % 64) (full_mask (j % 64) (omega arith)) ∙ rw (lt-ltb (j / 64) (length c.args.words.now) l) (sym (and-true c.args.value))))
    (λ (g : length c.args.words.now ≤ j / 64).
    bit_past (put_mid from (c.min-to.result - from) c.args.words.now c.fill.new.self) j
    (omega (arith, g, same_len_mid from (c.min-to.result - from) c.args.words.now c.fill.new.self c.fill.ensures.len))
    ∙ rw (le-ltb (j / 64) (length c.args.words.now) g) (sym (and-false c.args.value)))
    (cases_lt (j / 64) (length c.args.words.now))

pub returns-clause-below : goal.returns-clause-below
returns-clause-below c j a =
    let m = many c.args.block.first c.args.block.order (omega arith) (omega arith) c.args.block.aligned in
    rw (before_part (c.first.result / 64) (c.min-to.result - c.first.result / 64) c.args.words.now c.fill.new.self (j / 64)
    (omega arith) (omega (arith, m.0, c.first.ensures))) refl

pub returns-clause-above : goal.returns-clause-above
returns-clause-above c j a =
    let m = many c.args.block.first c.args.block.order (omega arith) (omega arith) c.args.block.aligned in
    let q : 2 ^ (c.order-2.result - 6) ≡ 2 ^ (c.args.block.order - 6) = ap (λ (x : ℕ). 2 ^ (x - 6)) c.order-2.ensures in
    let long : length c.fill.new.self ≡ c.min-to.result - c.first.result / 64 =
    omega (arith, c.min-to.ensures, c.fill.ensures.len, length-take (c.min-to.result - c.first.result / 64) (drop (c.first.result / 64) c.args.words.now), length-drop (c.first.result / 64) c.args.words.now) in
    rw (after_part (c.first.result / 64) (c.min-to.result - c.first.result / 64) c.args.words.now c.fill.new.self (j / 64)
    (omega arith) long (omega (arith, m.0, m.1, c.first.ensures, q, c.min-to.ensures))) refl
