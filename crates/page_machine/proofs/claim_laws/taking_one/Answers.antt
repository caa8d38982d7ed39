use Rattle.page_machine.proofs.Keeping.{bases as shown}
use Rattle.page_machine.proofs.claim_laws.taking_one.Goals as goal

pub returns : goal.returns
returns c = shown
