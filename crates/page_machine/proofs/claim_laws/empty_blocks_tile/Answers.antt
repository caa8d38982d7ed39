use Rattle.page_machine.proofs.Giving.{empty_blocks_tile as shown}
use Rattle.page_machine.proofs.claim_laws.empty_blocks_tile.Goals as goal

pub returns : goal.returns
returns c = shown
