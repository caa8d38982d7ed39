use Rattle.std.proofs.Common.{ℕ, ◌^◌, ap, arith}
use Rattle.std.proofs.lemmas.Bool.{both_ways}
use Rattle.frames.proofs.Sources.{took_free, took_fewer}
use Rattle.frames.proofs.laws.take_pair.Goals as goal

pub returns-in-Ok : goal.returns-in-Ok
returns-in-Ok g c =
    let m = g.S.FrameSource.means in
    let s = m c.args.source.now in
    let t = m c.take_counted.new.source in
    let x = c.in_ok-first.ensures.takes in
    let y = c.in-Ok.ensures.takes in
    let p = ap (λ (n : ℕ). 2 ^ n) x.order in
    let z = took_free t c.args.other (m c.take_counted-2.new.source) c.in-Ok.second y in
    record {
      first = x.order;
      second = y.order;
      first_free = took_free s c.args.one t c.in_ok-first.first x;
      second_free = λ f b. took_fewer s c.args.one t c.in_ok-first.first.block.first c.in_ok-first.first.block.order x f (z f b);
      apart = λ f a b. both_ways (t.free f) (x.free.was f a.0 (omega (arith, a.1, p))) (z f b);
    }
