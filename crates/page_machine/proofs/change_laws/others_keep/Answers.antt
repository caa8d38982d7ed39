use Rattle.page_machine.proofs.OneHome.{one_change as shown}
use Rattle.page_machine.proofs.change_laws.others_keep.Goals as goal

pub returns : goal.returns
returns c = shown
