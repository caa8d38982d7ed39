use Rattle.std.proofs.Common.{refl}
use Rattle.page_machine.specs.Counting.{sum, page_count}
use Rattle.page_machine.specs.Machine.{present_count}
use Rattle.page_machine.specs.Refusals.{stored_below}
use Rattle.page_machine.specs.Runs.{replies}
use Rattle.page_machine.proofs.worked_runs.limit_zero.Goals as goal

pub returns : goal.returns
unfolding replies present_count stored_below sum page_count
returns c = refl
