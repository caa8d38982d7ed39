use Rattle.page_machine.proofs.OneHome.{alone as shown}
use Rattle.page_machine.proofs.change_laws.split_alone.Goals as goal

pub returns : goal.returns
returns c = shown
