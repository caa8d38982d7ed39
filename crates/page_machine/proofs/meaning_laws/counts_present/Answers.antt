use Rattle.page_machine.proofs.Meanings.{counts_present as shown}
use Rattle.page_machine.proofs.meaning_laws.counts_present.Goals as goal

pub returns : goal.returns
returns c = shown
