use Rattle.page_machine.proofs.Bringing.{bringing_in as shown}
use Rattle.page_machine.proofs.placement_laws.bringing_in.Goals as goal

pub returns : goal.returns
returns c = shown
