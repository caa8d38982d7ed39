use Rattle.mapping.proofs.Clearing.{lie_apart}
use Rattle.mapping.proofs.laws.leaves_lie_apart.Goals as goal

pub returns : goal.returns
returns g c = lie_apart _ _ (record { each = g.met.H.MappingHardware.lawful c.args.hardware.now })
