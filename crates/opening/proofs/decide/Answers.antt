-- One of the first three questions refuses, or the sketch is asked: the laws of `Ladder`.
use Rattle.std.proofs.Common.{refl, sym, ap, ◌∙◌, ◌≡◌}
use Rattle.std.proofs.lemmas.Result.{err_from_is_err_and}
use Rattle.refusal.proofs.Numbers.{number_nonzero}
use Rattle.single.proofs.Lengths.{from_zeros}
use Rattle.tree.specs.Questions.{ask}
use Rattle.opening.proofs.Ladder.{refused, decided}
use Rattle.opening.proofs.decide.Goals as goal

pub returns-in_err-sizes : goal.returns-in_err-sizes
returns-in_err-sizes c =
    let p = err_from_is_err_and c.from_residual.result c.from_residual.ensures.1 in
    rw (p.1, p.2) ((refused _ _ _ _ _ _ c.in_err-sizes.ensures (number_nonzero _)).answer)

pub returns-then-not-opens : goal.returns-then-not-opens
unfolding ask
returns-then-not-opens c =
    (decided _ _ _ _ _ _ c.in_ok-sizes.ensures refl _ _ _ _ _ (from_zeros c.peel-empty.ensures) c.opens.ensures (rw c.if-not-opens.true refl)).answer

pub returns : goal.returns
unfolding ask
returns c = decided _ _ _ _ _ _ c.in_ok-sizes.ensures refl _ _ _ _ _ (from_zeros c.peel-empty.ensures) c.opens.ensures (rw c.if-not-opens.false refl)
