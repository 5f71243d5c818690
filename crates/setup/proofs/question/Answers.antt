-- Each way out is a case of the definition: the laws of `Questions`.
use mathlib.Core.Path.{refl, sym, ◌∙◌}
use Rattle.std.proofs.lemmas.Result.{err_from_is_err_and}
use Rattle.refusal.proofs.Numbers.{number_nonzero}
use native.Mathlib.Omega.{arith}
use borrow.Author.Tests.{leb-true, leb-false}
use Rattle.setup.proofs.Questions.{refused_settings, short_nodes, short_shingles, short_cells, long_enough}
use Rattle.setup.proofs.question.Goals as goal

pub returns-in_err-question : goal.returns-in_err-question
returns-in_err-question c =
    let p = err_from_is_err_and c.from_residual.result c.from_residual.ensures.1 in
    rw (p.1, p.2) (refused_settings _ _ _ c.in_err-question.ensures _ (number_nonzero _))

pub returns-then-not-has_room : goal.returns-then-not-has_room
returns-then-not-has_room c =
    short_nodes _ _ _ c.in_ok-question.ensures refl _ _ _ _
    (leb-false 65536 _ (sym c.has_room.ensures ∙ c.if-not-has_room.true))

pub returns-then-shingles-lt98304 : goal.returns-then-shingles-lt98304
returns-then-shingles-lt98304 c =
    short_shingles _ _ _ c.in_ok-question.ensures refl _ _ _ _
    (leb-true 65536 _ (sym c.has_room.ensures ∙ c.if-not-has_room.false)) (omega (arith, c.if-shingles-lt98304.true))

pub returns-then-cells-settings : goal.returns-then-cells-settings
returns-then-cells-settings c =
    short_cells _ _ _ c.in_ok-question.ensures refl _ _ _ _
    (leb-true 65536 _ (sym c.has_room.ensures ∙ c.if-not-has_room.false)) (omega (arith, c.if-shingles-lt98304.false)) (omega (arith, c.if-cells-settings.true))

pub returns : goal.returns
returns c =
    long_enough _ _ _ c.in_ok-question.ensures refl _ _ _ _
    (leb-true 65536 _ (sym c.has_room.ensures ∙ c.if-not-has_room.false)) (omega (arith, c.if-shingles-lt98304.false)) (omega (arith, c.if-cells-settings.false))
