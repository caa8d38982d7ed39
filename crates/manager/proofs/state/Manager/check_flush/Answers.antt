use Rattle.std.proofs.Common.{length, refl, arith}
use Rattle.std.proofs.lemmas.Bool.{le-ltb}
use Rattle.manager.specs.Arguments.{stored_below}
use Rattle.manager.proofs.Stored.{stored_few}
use Rattle.manager.proofs.state.Manager.check_flush.Goals as goal

-- no more pages are stored than the list has places
pub returns-else-list-size : goal.returns-else-list-size
returns-else-list-size g c =
    let e = c.in_ok-size.ensures in
    let f = stored_few (g.H.MappingHardware.at c.args.self.now.hardware c.args.object) c.in_ok-size.size in
    let l = le-ltb (length c.args.list.now) (stored_below (g.H.MappingHardware.at c.args.self.now.hardware c.args.object) c.in_ok-size.size) (omega (arith, f)) in
    (rw (e.0, e.1) (rw l refl), e.1)
