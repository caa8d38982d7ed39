use Rattle.page_machine.proofs.Meanings.{stores_to_page as shown}
use Rattle.page_machine.proofs.meaning_laws.stores_to_page.Goals as goal

pub returns : goal.returns
returns c = shown
