use Rattle.page_machine.proofs.OneHome.{split_keeps as shown}
use Rattle.page_machine.proofs.change_laws.split_keeps.Goals as goal

pub returns : goal.returns
returns c = shown
