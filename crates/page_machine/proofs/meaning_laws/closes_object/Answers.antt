use Rattle.page_machine.proofs.Meanings.{closes_object as shown}
use Rattle.page_machine.proofs.meaning_laws.closes_object.Goals as goal

pub returns : goal.returns
returns c = shown
