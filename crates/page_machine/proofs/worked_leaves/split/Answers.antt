use Rattle.std.proofs.Common.{refl}
use Rattle.page_machine.specs.Leaves.{rises, block_leaf, canonical}
use Rattle.page_machine.proofs.worked_leaves.split.Goals as goal

pub returns : goal.returns
unfolding rises block_leaf canonical
returns c = record { whole = refl; page = refl; beside = refl; before = refl; after = refl }
