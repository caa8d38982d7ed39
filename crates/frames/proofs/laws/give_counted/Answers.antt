use Rattle.frames.proofs.Sources.{gives_count}
use Rattle.frames.proofs.laws.give_counted.Goals as goal

pub returns : goal.returns
returns g c = record { gives = c.give.ensures; more = gives_count _ c.args.block _ c.give.result c.give.ensures }
