use Rattle.page_machine.proofs.Giving.{counts_add_up as shown}
use Rattle.page_machine.proofs.claim_laws.counts_add_up.Goals as goal

pub returns : goal.returns
returns c = shown
