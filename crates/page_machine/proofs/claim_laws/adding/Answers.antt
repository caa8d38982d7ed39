use Rattle.page_machine.proofs.Keeping.{reserves as shown}
use Rattle.page_machine.proofs.claim_laws.adding.Goals as goal

pub returns : goal.returns
returns c = shown
