use Rattle.page_machine.proofs.Giving.{breaking as shown}
use Rattle.page_machine.proofs.claim_laws.breaking.Goals as goal

pub returns : goal.returns
returns c = shown
