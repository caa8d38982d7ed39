use Rattle.std.proofs.Common.{sym, ◌∙◌, arith}
use Rattle.manager.proofs.Stored.{stored_few, listed_put, listed_full, listed_skip}
use Rattle.manager.proofs.state.Manager.list_stored.Goals as goal
use Rattle.manager.proofs.state.Manager.list_stored.Goals.{then-is_stored+then-count-list, else-is_stored, else-is_stored-via-then-is_stored+else-count-list, else-is_stored-via-else-is_stored}

pub overflow_add-count : goal.overflow_add-count
overflow_add-count g c =
    let i = c.loop-number.invariant in let f = stored_few (g.H.MappingHardware.at c.args.self.now.hardware c.args.object) c.loop-number.number in omega (arith, i.few)

pub loop-number-preserved : goal.loop-number-preserved
loop-number-preserved g c =
    let at = g.H.MappingHardware.at c.args.self.now.hardware c.args.object in
    let l = c.loop-number in
    let e = c.is_stored.ensures in
    elim c.if-is_stored.branch [
      | then-is_stored+then-count-list w ↦
          rw (w.list-is, w.count-is) (listed_put at l.number c.args.list.now l.list l.count l.invariant (sym e ∙ w.if-is_stored.true) w.if-count-list.true)
      | else-is_stored w ↦ elim w.else-is_stored.branch [
        | else-is_stored-via-then-is_stored+else-count-list v ↦
            rw (w.list-is, w.count-is) (listed_full at l.number c.args.list.now l.list l.count l.invariant (sym e ∙ v.if-is_stored.true) v.if-count-list.false)
        | else-is_stored-via-else-is_stored v ↦
            rw (w.list-is, w.count-is) (listed_skip at l.number c.args.list.now l.list l.count l.invariant (sym e ∙ v.if-is_stored.false))
      ]
    ]
