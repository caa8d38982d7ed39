use Rattle.std.proofs.Common.{arith}
use Rattle.frames.specs.Tally.{tally_le}
use Rattle.frames.proofs.quota.QuotaFrameSource.give.Goals as goal

pub returns : goal.returns
returns g c =
    let s = g.S.FrameSource.means c.args.self.now.below in
    let h = g.met.S.FrameSource.lawful c.args.self.now.below in
    let l = tally_le s.free s.total in
    let e = c.in_ok-give.ensures in
    let n = c.count.ensures in
    record {
      gives = record { within = e.within; total = e.total; free = e.free; avail = omega (arith, n) };
      through = (omega (arith, n), e);
      bounds = λ b. (omega (arith, n), omega (arith, n));
    }
