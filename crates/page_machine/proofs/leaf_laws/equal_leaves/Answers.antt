use Rattle.page_machine.proofs.Canonical.{equal as shown}
use Rattle.page_machine.proofs.leaf_laws.equal_leaves.Goals as goal

pub returns : goal.returns
returns c = shown
