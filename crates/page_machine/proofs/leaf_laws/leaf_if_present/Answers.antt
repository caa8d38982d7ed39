use Rattle.page_machine.proofs.Canonical.{exists as shown}
use Rattle.page_machine.proofs.leaf_laws.leaf_if_present.Goals as goal

pub returns : goal.returns
returns c = shown
