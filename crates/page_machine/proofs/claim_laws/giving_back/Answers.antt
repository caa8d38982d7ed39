use Rattle.page_machine.proofs.Keeping.{giving_back as shown}
use Rattle.page_machine.proofs.claim_laws.giving_back.Goals as goal

pub returns : goal.returns
returns c = shown
