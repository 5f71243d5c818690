-- Each way out is a case of the definition: the laws of `Setups`.
use Rattle.std.proofs.lemmas.Result.{err_from_is_err_and}
use Rattle.session.proofs.Setups.{sender_refused, receiver_refused, all_exchanged}
use Rattle.session.proofs.run.Goals as goal

pub returns-in_err-fill_tables : goal.returns-in_err-fill_tables
returns-in_err-fill_tables c =
    let p = err_from_is_err_and c.from_residual.result c.from_residual.ensures.1 in
    rw (p.1, p.2) (sender_refused _ _ _ _ _ _ _ _ _ _ _ c.in_err-fill_tables.ensures)

pub returns-in_err-ready : goal.returns-in_err-ready
returns-in_err-ready c =
    let p = err_from_is_err_and c.from_residual-in_err-ready.result c.from_residual-in_err-ready.ensures.1 in
    rw (p.1, p.2) (receiver_refused _ _ _ _ _ _ _ _ _ _ _ c.in_ok-fill_tables.ensures _ _ _ _ _ _ _ _ _ c.in_err-ready.ensures)

pub returns : goal.returns
returns c =
    all_exchanged _ _ _ _ _ _ _ _ _ _ _ c.in_ok-fill_tables.ensures _ _ _ _ _ _ _ _ c.in_ok-ready.ensures c.exchange_all.ensures
