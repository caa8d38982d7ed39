use Rattle.page_machine.proofs.Telling.{unlike_reply_unlike as shown}
use Rattle.page_machine.proofs.telling_laws.unlike_reply_unlike.Goals as goal

pub returns : goal.returns
returns c = shown
