use Rattle.page_machine.proofs.Keeping.{youngest as shown}
use Rattle.page_machine.proofs.claim_laws.aging.Goals as goal

pub returns : goal.returns
returns c = shown
