use Rattle.page_machine.proofs.Meanings.{releases_page as shown}
use Rattle.page_machine.proofs.meaning_laws.releases_page.Goals as goal

pub returns : goal.returns
returns c = shown
