use Rattle.page_machine.proofs.Tiling.{pieces_tile as shown}
use Rattle.page_machine.proofs.piece_laws.pieces_tile.Goals as goal

pub returns : goal.returns
returns c = shown
