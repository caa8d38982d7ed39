use Rattle.page_machine.proofs.Histories.{refusals_keep as shown}
use Rattle.page_machine.proofs.run_laws.refusals_keep.Goals as goal

pub returns : goal.returns
returns c = shown
