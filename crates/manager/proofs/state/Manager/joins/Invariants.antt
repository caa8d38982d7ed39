use Rattle.std.proofs.Common.{◌-◌}
use Rattle.manager.proofs.state.Manager.joins.Given as goal

abbrev pub decreases-loop-number : goal.decreases-loop-number
decreases-loop-number g l = l.end - l.number
