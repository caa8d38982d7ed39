use Rattle.frames.proofs.Sources.{takes_count}
use Rattle.frames.proofs.laws.take_counted.Goals as goal

pub returns : goal.returns
returns g c =
    record {
      takes = c.take.ensures;
      fewer = takes_count _ c.args.order _ c.take.result (g.met.S.FrameSource.lawful c.args.source.now) c.take.ensures;
    }
