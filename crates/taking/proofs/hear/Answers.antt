-- Each way out, by the question that was asked last: the laws of `Taking`.
use Rattle.std.proofs.Common.{sym, ◌∙◌}
use Rattle.std.proofs.lemmas.Result.{err_from_is_err_and}
use Rattle.refusal.proofs.Numbers.{number_nonzero}
use Rattle.heard.proofs.Hearing.{not_formed, formed, heard, fits_said, fits_none, node_waits}
use Rattle.taking.proofs.Taking.{hear_seven, hear_nine, hear_ten, hear_eleven, hear_all}
use Rattle.taking.proofs.hear.Goals as goal

pub returns-in_err-question : goal.returns-in_err-question
returns-in_err-question c =
    let p = err_from_is_err_and c.from_residual.result c.from_residual.ensures.1 in
    rw (p.1, p.2) (hear_seven _ _ _ _ _ _ c.in_err-question.ensures (number_nonzero _))

pub returns-in_default : goal.returns-in_default
returns-in_default c = hear_nine _ _ _ _ _ _ (sym c.in_ok-question.ensures) c.in_default.ensures.stands

pub returns-in_default-read : goal.returns-in_default-read
returns-in_default-read c = hear_ten _ _ _ _ _ _ (sym c.in_ok-question.ensures) c.in-Some.ensures.runs (not_formed _ c.in_default-read.ensures)

pub returns-in_err-said : goal.returns-in_err-said
returns-in_err-said c =
    let p = err_from_is_err_and c.from_residual-in_err-said.result c.from_residual-in_err-said.ensures.1 in
    let read = c.in-Some-read.ensures in
    let none = fits_none _ c.in-Some.ensures _ read _ c.in_err-said.ensures in
    rw (p.1, p.2, none.0) (hear_eleven _ _ _ _ _ _ (sym c.in_ok-question.ensures) c.in-Some.ensures.runs (formed _ _ read) none.1)

pub returns-then-not-fits : goal.returns-then-not-fits
returns-then-not-fits c =
    let read = c.in-Some-read.ensures in
    hear_eleven _ _ _ _ _ _ (sym c.in_ok-question.ensures) c.in-Some.ensures.runs (formed _ _ read)
    (fits_said _ c.in-Some.ensures _ read _ c.in_ok-said.ensures c.fits.ensures ∙ c.if-not-fits.true)

pub returns : goal.returns
returns c =
    let read = c.in-Some-read.ensures in
    let fits = sym c.fits.ensures ∙ c.if-not-fits.false in
    hear_all _ _ _ _ _ _ (sym c.in_ok-question.ensures) c.in-Some.ensures.runs (formed _ _ read)
    (heard _ _ _ read c.in_ok-said.ensures) (λ r e. node_waits c.in-Some.ensures r (rw e at fits))
    (fits_said _ c.in-Some.ensures _ read _ c.in_ok-said.ensures c.fits.ensures ∙ c.if-not-fits.false)
