-- 12 or 13 refuses, or the copied cells are asked: the laws of `Ladder`.
use Rattle.std.proofs.Common.{sym, ◌∙◌}
use Rattle.std.proofs.lemmas.Result.{err_from_is_err_and}
use Rattle.refusal.proofs.Numbers.{number_positive}
use Rattle.announced.proofs.Ladder.{early_no, both_yes, judged_by}
use Rattle.announced.proofs.judge.Goals as goal

pub returns-in_err-first_no : goal.returns-in_err-first_no
returns-in_err-first_no c =
    let p = err_from_is_err_and c.from_residual.result c.from_residual.ensures.1 in
    rw (p.1, p.2) (early_no _ _ _ _ _ _ _ _ _ (number_positive _) (rw (c.same-equal.ensures, c.fits-fits.ensures) at c.in_err-first_no.ensures))

pub returns : goal.returns
returns c =
    let yes = both_yes _ _ (rw (c.same-equal.ensures, c.fits-fits.ensures) at c.in_ok-first_no.ensures) in
    judged_by _ _ _ _ _ _ _ _ yes.0 yes.1 _ c.cells_of-theirs.ensures _ c.decide.ensures
