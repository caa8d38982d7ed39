use Rattle.page_machine.proofs.Histories.{memory_misfits as shown}
use Rattle.page_machine.proofs.run_laws.memory_misfits.Goals as goal

pub returns : goal.returns
returns c = shown
