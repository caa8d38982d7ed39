use Rattle.page_machine.proofs.Meanings.{opens_object as shown}
use Rattle.page_machine.proofs.meaning_laws.opens_object.Goals as goal

pub returns : goal.returns
returns c = shown
