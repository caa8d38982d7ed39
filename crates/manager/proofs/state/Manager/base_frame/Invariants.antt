use Rattle.std.proofs.Common.{length}
use Rattle.manager.proofs.state.Manager.base_frame.Given as goal

abbrev pub decreases-loop-self : goal.decreases-loop-self
decreases-loop-self g l = length l.self.reserved
