use Rattle.std.proofs.lemmas.Result.{err_from_is_err_and}
use Rattle.manager.proofs.state.Manager.base_frame.Goals as goal

pub returns-in_err-break_oldest : goal.returns-in_err-break_oldest
returns-in_err-break_oldest g c =
    let p = err_from_is_err_and c.from_residual-in_err-break_oldest.result c.from_residual-in_err-break_oldest.ensures.1 in
    rw (p.1, p.2) (c.in_err-break_oldest.ensures.others c.args.page)
