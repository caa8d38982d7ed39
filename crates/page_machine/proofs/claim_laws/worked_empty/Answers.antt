use Rattle.std.proofs.Common.{refl}
use Rattle.page_machine.specs.Counting.{sum}
use Rattle.page_machine.specs.Pieces.{every, pieces}
use Rattle.page_machine.proofs.claim_laws.worked_empty.Goals as goal

pub returns : goal.returns
unfolding sum every pieces
returns c = record { blocks = refl; population_is = refl; empty_is = refl }
