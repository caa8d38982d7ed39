use Rattle.page_machine.proofs.Lawful.{stays_lawful as shown}
use Rattle.page_machine.proofs.run_laws.stays_lawful.Goals as goal

pub returns : goal.returns
returns c = shown
