use Rattle.page_machine.proofs.OneHome.{brought_in_lem as shown}
use Rattle.page_machine.proofs.change_laws.brought_in.Goals as goal

pub returns : goal.returns
returns c = shown
