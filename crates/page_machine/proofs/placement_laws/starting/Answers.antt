use Rattle.page_machine.proofs.Releases.{starting as shown}
use Rattle.page_machine.proofs.placement_laws.starting.Goals as goal

pub returns : goal.returns
returns c = shown
