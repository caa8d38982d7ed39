use Rattle.page_machine.proofs.Releases.{releasing as shown}
use Rattle.page_machine.proofs.placement_laws.releasing.Goals as goal

pub returns : goal.returns
returns c = shown
