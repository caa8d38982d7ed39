use Rattle.page_machine.proofs.Releases.{closing as shown}
use Rattle.page_machine.proofs.placement_laws.closing.Goals as goal

pub returns : goal.returns
returns c = shown
