use Rattle.page_machine.proofs.Histories.{stored_since_flush as shown}
use Rattle.page_machine.proofs.run_laws.stored_since_flush.Goals as goal

pub returns : goal.returns
returns c = shown
