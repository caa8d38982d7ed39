use Rattle.page_machine.proofs.Keeping.{frees as shown}
use Rattle.page_machine.proofs.claim_laws.giving_one.Goals as goal

pub returns : goal.returns
returns c = shown
