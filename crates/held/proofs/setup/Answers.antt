-- Each way out is a case of the promise: the laws of `Outcome`.
use Rattle.std.proofs.Common.{refl, arith}
use Rattle.std.proofs.lemmas.Result.{err_from_is_err_and}
use Rattle.refusal.proofs.Numbers.{number_nonzero}
use Rattle.held.proofs.Outcome.{refused_early, short_state, refused_tables, state_made}
use Rattle.held.proofs.setup.Goals as goal

pub returns-in_err-question : goal.returns-in_err-question
returns-in_err-question c =
    let p = err_from_is_err_and c.from_residual.result c.from_residual.ensures.1 in
    rw (p.1, p.2) (refused_early _ _ _ _ _ _ _ _ c.in_err-question.ensures (number_nonzero _))

pub returns-then-state-lt-SIZE : goal.returns-then-state-lt-SIZE
returns-then-state-lt-SIZE c = short_state _ _ _ _ _ _ _ _ c.in_ok-question.ensures refl (omega (arith, c.if-state-lt-SIZE.true))

pub returns-in_err-ready : goal.returns-in_err-ready
returns-in_err-ready c =
    let p = err_from_is_err_and c.from_residual-in_err-ready.result c.from_residual-in_err-ready.ensures.1 in
    rw (p.1, p.2) (refused_tables _ _ _ _ _ _ _ (omega (arith, c.if-state-lt-SIZE.false)) _ _ _ _ c.in_err-ready.ensures)

pub returns : goal.returns
returns c = state_made _ _ _ _ _ _ _ (omega (arith, c.if-state-lt-SIZE.false)) _ _ _ _ c.in_ok-ready.ensures _ c.store.ensures
