use Rattle.page_machine.proofs.Canonical.{canonical_is as shown}
use Rattle.page_machine.proofs.leaf_laws.canonical_is_greatest.Goals as goal

pub returns : goal.returns
returns c = shown
