use Rattle.page_machine.proofs.Keeping.{unmarks as shown}
use Rattle.page_machine.proofs.claim_laws.unmarking.Goals as goal

pub returns : goal.returns
returns c = shown
