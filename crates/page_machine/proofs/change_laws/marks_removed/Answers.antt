use Rattle.page_machine.proofs.OneHome.{marks_removed as shown}
use Rattle.page_machine.proofs.change_laws.marks_removed.Goals as goal

pub returns : goal.returns
returns c = shown
