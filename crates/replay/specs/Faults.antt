-- What a record's line tells of a refused call.
use Rattle.std.specs.Prelude.{◌≡◌, ℕ}
use Rattle.manager.specs.declared.refusal.Refusal.{Refusal}
use Rattle.manager.specs.declared.refusal.Refusal.TheVariants.{NoFrame}
use Rattle.replay.specs.declared.fault.Fault.{Fault}
use Rattle.replay.specs.declared.fault.Fault.TheVariants.{Refused}
use Rattle.replay.specs.declared.fault.Fault.TheVariants.{NoFrame as NoFrameAt}

-- no frame is told by the depth and by the place of the record, any other refusal as itself
abbrev pub TellsFault : ℕ → Refusal → Fault → Type 0
TellsFault place (NoFrame page depth) f = f ≡ NoFrameAt depth place
TellsFault place refusal f = f ≡ Refused refusal

-- what is told of no frame has the place of a record
abbrev pub FaultAt : ℕ → Fault → Type 0
FaultAt place (NoFrameAt depth at) = at ≡ place
FaultAt place (Refused refusal) = Unit {0}
