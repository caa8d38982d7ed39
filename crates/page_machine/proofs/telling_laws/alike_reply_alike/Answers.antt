use Rattle.page_machine.proofs.Telling.{alike_reply_alike as shown}
use Rattle.page_machine.proofs.telling_laws.alike_reply_alike.Goals as goal

pub returns : goal.returns
returns c = shown
