use Rattle.std.proofs.Common.{◌≡◌, ℕ, ◌+◌, ◌-◌, ◌*◌, ◌/◌, ◌%◌, ◌^◌, ◌<◌, ◌≤◌, length, get_or, drop, subst, ⊎_elim, arith}
use lib.Count.{count_trailing_zeros}
use lib.ListN.{length-take}
use Rattle.std.proofs.lemmas.Nat.{shr_below}
use Rattle.std.proofs.lemmas.Bool.{cases_lt}
use Rattle.blocks.proofs.Digits.{first_none, found, found_later, trailing_found, bit_past, zero_part, part_word}
use Rattle.blocks.proofs.bits.first_in.Goals as goal

pub overflow_add-at : goal.overflow_add-at
overflow_add-at c =
    let s : ℕ = c.args.from % 64 in
    let v : ℕ = get_or c.args.words.now (c.args.from / 64) 0 in
    let q : 64 ≡ 64 - c.args.from % 64 + c.args.from % 64 = omega arith in
    let b : get_or c.args.words.now (c.args.from / 64) 0 < 2 ^ (64 - c.args.from % 64 + c.args.from % 64) =
    subst (λ (e : ℕ). get_or c.args.words.now (c.args.from / 64) 0 < 2 ^ e) {x = 64} q (omega arith) in
    let t = trailing_found 64 (64 - c.args.from % 64) (get_or c.args.words.now (c.args.from / 64) 0 / 2 ^ (c.args.from % 64))
    (omega arith) (shr_below (get_or c.args.words.now (c.args.from / 64) 0) (64 - c.args.from % 64) (c.args.from % 64) b) (omega arith) in
    omega (arith, t)

pub returns-then-at-to : goal.returns-then-at-to
returns-then-at-to c =
    let t = found c.args.words.now c.args.from (c.args.from / 64) (c.args.from % 64)
    (c.args.from + count_trailing_zeros 64 (get_or c.args.words.now (c.args.from / 64) 0 / 2 ^ (c.args.from % 64)))
    (omega arith) (omega arith) (omega arith) (λ j l u. absurd (omega arith)) (omega arith) (omega arith) in
    (t.0, c.if-at-to.true, t.1, t.2)

pub returns-else-at-to : goal.returns-else-at-to
returns-else-at-to c =
    let t = found c.args.words.now c.args.from (c.args.from / 64) (c.args.from % 64)
    (c.args.from + count_trailing_zeros 64 (get_or c.args.words.now (c.args.from / 64) 0 / 2 ^ (c.args.from % 64)))
    (omega arith) (omega arith) (omega arith) (λ j l u. absurd (omega arith)) (omega arith) (omega arith) in
    λ j a b. t.2 j a (omega (arith, c.if-at-to.false))

pub returns-then-first-words : goal.returns-then-first-words
returns-then-first-words c = λ j a b. bit_past c.args.words.now j (omega arith)

pub returns-in_err-w : goal.returns-in_err-w
returns-in_err-w c =
    let n : ℕ = c.min-last.result - (c.args.from / 64 + 1) in
    rw c.from_residual.ensures
    (λ j a b. ⊎_elim
    (λ (l : j < c.args.from / 64 * 64 + 64). first_none c.args.words.now (c.args.from / 64) (c.args.from % 64) c.if-x-ne0.false j (omega arith) l)
    (λ (g : c.args.from / 64 * 64 + 64 ≤ j).
    ⊎_elim
    (λ (u : j / 64 < length c.args.words.now).
    zero_part c.args.words.now (c.args.from / 64 + 1) n n (omega arith) (λ k l h. c.in_err-w.ensures k h) j (omega arith) (omega (arith, c.min-last.ensures)))
    (λ u. bit_past c.args.words.now j u)
    (cases_lt (j / 64) (length c.args.words.now)))
    (cases_lt j (c.args.from / 64 * 64 + 64)))

pub returns-then-at-to-2 : goal.returns-then-at-to-2
returns-then-at-to-2 c =
    let t = found_later c.args.words.now c.args.from (c.min-last.result - (c.args.from / 64 + 1)) c.in_ok-w.field-0
    c.if-x-ne0.false c.in_ok-w.ensures (omega arith) in
    (t.0, c.if-at-to-2.true, t.1, t.2)

pub returns-else-at-to-2 : goal.returns-else-at-to-2
returns-else-at-to-2 c =
    let t = found_later c.args.words.now c.args.from (c.min-last.result - (c.args.from / 64 + 1)) c.in_ok-w.field-0
    c.if-x-ne0.false c.in_ok-w.ensures (omega arith) in
    λ j a b. t.2 j a (omega (arith, c.if-at-to-2.false))

pub overflow_add-at-2 : goal.overflow_add-at-2
overflow_add-at-2 c =
    let i : c.in_ok-w.field-0 < c.min-last.result - (c.args.from / 64 + 1) = omega (arith, c.in_ok-w.ensures.0, length-take (c.min-last.result - (c.args.from / 64 + 1)) (drop (c.args.from / 64 + 1) c.args.words.now)) in
    let u : 0 < get_or c.args.words.now (c.args.from / 64 + 1 + c.in_ok-w.field-0) 0 =
    omega (arith, c.in_ok-w.ensures.1, part_word c.args.words.now (c.args.from / 64 + 1) (c.min-last.result - (c.args.from / 64 + 1)) c.in_ok-w.field-0 i) in
    omega (arith, i, c.min-last.ensures, trailing_found 64 64 (get_or c.args.words.now (c.args.from / 64 + 1 + c.in_ok-w.field-0) 0) u (omega arith) (omega arith))
