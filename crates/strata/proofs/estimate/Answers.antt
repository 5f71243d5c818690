-- Refused, or estimated: the laws of `Refusals`.
use Rattle.std.proofs.Common.{refl, arith}
use Rattle.std.proofs.lemmas.Result.{err_from_is_err_and}
use Rattle.refusal.proofs.Numbers.{number_nonzero}
use Rattle.strata.proofs.Refusals.{not_estimated, one_short, estimated}
use Rattle.strata.proofs.estimate.Goals as goal

pub returns-in_err-question : goal.returns-in_err-question
returns-in_err-question c =
    let p = err_from_is_err_and c.from_residual.result c.from_residual.ensures.1 in
    rw (p.1, p.2) (not_estimated _ _ _ c.in_err-question.ensures _ _ (number_nonzero _))

pub returns-then-theirs-lt-STRATA_BYTES : goal.returns-then-theirs-lt-STRATA_BYTES
returns-then-theirs-lt-STRATA_BYTES c = one_short _ _ _ c.in_ok-question.ensures _ _ refl c.then-theirs-lt-STRATA_BYTES.either

pub returns : goal.returns
returns c =
    estimated _ _ _ c.in_ok-question.ensures _ _ refl (omega (arith, c.if-theirs-lt-STRATA_BYTES.false))
    (omega (arith, c.if-own-lt-STRATA_BYTES.false)) _ c.sum.ensures
