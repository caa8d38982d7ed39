use Rattle.page_machine.proofs.Meanings.{nowhere_if_full as shown}
use Rattle.page_machine.proofs.meaning_laws.nowhere_if_full.Goals as goal

pub returns : goal.returns
returns c = shown
