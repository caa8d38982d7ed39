use Rattle.page_machine.proofs.Canonical.{covers as shown}
use Rattle.page_machine.proofs.leaf_laws.leaf_tells.Goals as goal

pub returns : goal.returns
returns c = shown
