use Rattle.page_machine.proofs.Releases.{flushing as shown}
use Rattle.page_machine.proofs.placement_laws.flushing.Goals as goal

pub returns : goal.returns
returns c = shown
