-- Refused, or the state of a new session is made.
use Rattle.std.proofs.lemmas.Result.{err_from_is_err_and}
use Rattle.receiver.proofs.setup.Goals as goal

pub returns-in_err-count : goal.returns-in_err-count
returns-in_err-count c =
    let p = err_from_is_err_and c.from_residual.result c.from_residual.ensures.1 in
    rw (p.1, p.2) c.in_err-count.ensures

pub returns : goal.returns
returns c = record { tables = c.in_ok-count.ensures; state_is = c.initial-state.ensures.whole }
