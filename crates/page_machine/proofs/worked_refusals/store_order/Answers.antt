use Rattle.std.proofs.Common.{refl}
use Rattle.page_machine.specs.Counting.{sum, page_count}
use Rattle.page_machine.specs.Machine.{present_count}
use Rattle.page_machine.specs.Refusals.{stored_below}
use Rattle.page_machine.proofs.worked_refusals.store_order.Goals as goal

pub returns : goal.returns
unfolding present_count stored_below sum page_count
returns c = record { memory = refl; object = refl; closed = refl; page = refl; word = refl; frame = refl }
