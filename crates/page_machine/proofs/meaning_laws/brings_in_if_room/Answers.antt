use Rattle.page_machine.proofs.Meanings.{brings_in_if_room as shown}
use Rattle.page_machine.proofs.meaning_laws.brings_in_if_room.Goals as goal

pub returns : goal.returns
returns c = shown
