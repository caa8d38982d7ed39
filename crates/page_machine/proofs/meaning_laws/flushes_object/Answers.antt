use Rattle.page_machine.proofs.Meanings.{flushes_object as shown}
use Rattle.page_machine.proofs.meaning_laws.flushes_object.Goals as goal

pub returns : goal.returns
returns c = shown
