-- Refused and unchanged, or filled: the laws of `Refusals`.
use Rattle.std.proofs.Common.{refl, sym, arith}
use Rattle.std.proofs.lemmas.Result.{err_from_is_err_and}
use Rattle.refusal.proofs.Numbers.{number_nonzero}
use lib.Seq.{length-take-le}
use Rattle.strata.proofs.Refusals.{not_asked, short, built}
use Rattle.strata.proofs.build.Goals as goal

pub returns-in_err-question : goal.returns-in_err-question
returns-in_err-question c =
    let p = err_from_is_err_and c.from_residual.result c.from_residual.ensures.1 in
    rw (p.1, p.2) (not_asked _ _ _ c.in_err-question.ensures _ (number_nonzero _))

pub returns-then-strata-lt-STRATA_BYTES : goal.returns-then-strata-lt-STRATA_BYTES
returns-then-strata-lt-STRATA_BYTES c =
    let args = c.args in
    short _ _ _ c.in_ok-question.ensures args.strata.now refl (omega (arith, c.if-strata-lt-STRATA_BYTES.true))

pub slice_bounds-fill-end-2 : goal.slice_bounds-fill-end-2
slice_bounds-fill-end-2 c =
    let args = c.args in
    sym (length-take-le 7680 args.strata.now (omega (arith, c.if-strata-lt-STRATA_BYTES.false)))

pub fill-requires : goal.fill-requires
fill-requires c =
    let args = c.args in
    length-take-le 7680 args.strata.now (omega (arith, c.if-strata-lt-STRATA_BYTES.false))

pub returns : goal.returns
returns c =
    let args = c.args in
    built _ _ _ c.in_ok-question.ensures args.strata.now refl (omega (arith, c.if-strata-lt-STRATA_BYTES.false)) _ c.fill.ensures
