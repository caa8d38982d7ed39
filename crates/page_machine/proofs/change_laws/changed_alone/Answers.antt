use Rattle.page_machine.proofs.OneHome.{puts_one as shown}
use Rattle.page_machine.proofs.change_laws.changed_alone.Goals as goal

pub returns : goal.returns
returns c = shown
