use Rattle.page_machine.proofs.Histories.{memory_fits as shown}
use Rattle.page_machine.proofs.run_laws.memory_fits.Goals as goal

pub returns : goal.returns
returns c = shown
