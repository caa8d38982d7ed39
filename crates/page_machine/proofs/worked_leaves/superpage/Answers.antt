use Rattle.std.proofs.Common.{refl}
use Rattle.page_machine.specs.Leaves.{rises, block_leaf, canonical}
use Rattle.page_machine.proofs.worked_leaves.superpage.Goals as goal

pub returns : goal.returns
unfolding rises block_leaf canonical
returns c = record { seven = refl; away = refl; eight = refl; crooked = refl; stored = refl; others = refl }
