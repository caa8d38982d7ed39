use Rattle.page_machine.proofs.Keeping.{marks as shown}
use Rattle.page_machine.proofs.claim_laws.marking.Goals as goal

pub returns : goal.returns
returns c = shown
