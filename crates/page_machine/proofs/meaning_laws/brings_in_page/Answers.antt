use Rattle.page_machine.proofs.Meanings.{brings_in_page as shown}
use Rattle.page_machine.proofs.meaning_laws.brings_in_page.Goals as goal

pub returns : goal.returns
returns c = shown
