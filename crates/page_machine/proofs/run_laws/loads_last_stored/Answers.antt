use Rattle.page_machine.proofs.Histories.{loads_last_stored as shown}
use Rattle.page_machine.proofs.run_laws.loads_last_stored.Goals as goal

pub returns : goal.returns
returns c = shown
