use Rattle.page_machine.proofs.Releases.{opening as shown}
use Rattle.page_machine.proofs.placement_laws.opening.Goals as goal

pub returns : goal.returns
returns c = shown
