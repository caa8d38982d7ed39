use Rattle.page_machine.proofs.Canonical.{equal_of_all as shown}
use Rattle.page_machine.proofs.leaf_laws.equal_leaves_of_all.Goals as goal

pub returns : goal.returns
returns c = shown
