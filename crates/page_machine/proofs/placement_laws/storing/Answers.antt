use Rattle.page_machine.proofs.Releases.{storing as shown}
use Rattle.page_machine.proofs.placement_laws.storing.Goals as goal

pub returns : goal.returns
returns c = shown
