use Rattle.page_machine.proofs.Lawful.{frames_unseen as shown}
use Rattle.page_machine.proofs.run_laws.frames_unseen.Goals as goal

pub returns : goal.returns
returns c = shown
