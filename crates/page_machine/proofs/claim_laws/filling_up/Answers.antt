use Rattle.page_machine.proofs.Keeping.{filling_up as shown}
use Rattle.page_machine.proofs.claim_laws.filling_up.Goals as goal

pub returns : goal.returns
returns c = shown
