-- Questions 1 to 3, and then 4 to 6, are the whole ladder: the laws `refused_early` and `refused_late`.
use Rattle.std.proofs.Common.{refl, sym, arith}
use Rattle.std.proofs.lemmas.Result.{err_from_is_err_and}
use Rattle.refusal.proofs.Numbers.{number_nonzero}
use Rattle.tree.proofs.Questions.{refused_early, refused_late, shaped}
use Rattle.tree.proofs.question.Goals as goal

pub returns-in_err-shape_question : goal.returns-in_err-shape_question
returns-in_err-shape_question c = let p = err_from_is_err_and c.from_residual.result c.from_residual.ensures.1 in rw (p.1, p.2) (refused_early _ _ _ c.in_err-shape_question.ensures (number_nonzero _))

pub power-least-requires : goal.power-least-requires
power-least-requires c =
    let σ = c.args.settings in
    let s = shaped σ.window σ.fan_out σ.levels (sym c.in_ok-shape_question.ensures) in
    omega arith

pub returns : goal.returns
returns c = refused_late _ _ _ c.in_ok-shape_question.ensures _ _ refl c.power-least.ensures.is c.size_question.ensures
