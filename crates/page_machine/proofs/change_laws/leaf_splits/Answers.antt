use Rattle.page_machine.proofs.OneHome.{carves as shown}
use Rattle.page_machine.proofs.change_laws.leaf_splits.Goals as goal

pub returns : goal.returns
returns c = shown
