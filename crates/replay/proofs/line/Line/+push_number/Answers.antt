use Rattle.std.proofs.Common.{◌≡◌, decimal, refl, sym, arith}
use Rattle.std.proofs.lemmas.Fmt.{decimal_digit}
use Rattle.replay.proofs.Fitting.{digits_of}
use Rattle.replay.proofs.Pushing.{pushes_here}
use Rattle.replay.proofs.line.Line.+push_number.Goals as goal

pub returns-then-number-lt10 : goal.returns-then-number-lt10
returns-then-number-lt10 t c = rw (decimal_digit c.args.number c.if-number-lt10.true) c.push_byte.ensures

pub write_digits-requires : goal.write_digits-requires
write_digits-requires t c =
    let width = digits_of c.ilog10.result c.args.number c.ilog10.ensures.power_le c.ilog10.ensures.next_power_gt (omega arith) in
    rw c.from.ensures (omega (arith, width), omega arith)

pub returns-then-width-self : goal.returns-then-width-self
returns-then-width-self t c =
    let width = digits_of c.ilog10.result c.args.number c.ilog10.ensures.power_le c.ilog10.ensures.next_power_gt (omega arith) in
    let p = c.push_number.ensures in
    record { same_reference = p.same_reference; same_length = p.same_length; adds = λ h. absurd (omega (arith, width)) }

pub returns : goal.returns
returns t c =
    let width = sym (digits_of c.ilog10.result c.args.number c.ilog10.ensures.power_le c.ilog10.ensures.next_power_gt (omega arith)) in
    let w = c.write_digits.ensures in
    let same = c.from.ensures in
    let start : c.write_digits.result ≡ c.args.self.now.len = omega (arith, rw same at w.start, width) in
    rw width
    (pushes_here _ _ (decimal c.args.number) c.args.self.now.len refl (rw start at w.before) (rw (start, same, width) at w.written) (omega (arith, width)))
