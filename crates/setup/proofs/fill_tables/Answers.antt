-- Each way out is a case of the definition: refused by 1 to 7, by 8, and accepted. Once 7 is passed, neither table is refused.
use Rattle.std.proofs.Common.{true, refl, sym, ◌∙◌, ◌≡◌, ◌≢◌, ℕ, ◌+◌, ◌^◌, arith}
use Rattle.std.proofs.lemmas.Result.{err_from_is_err_and}
use Rattle.refusal.specs.Answer.{answer_of}
use Rattle.refusal.proofs.Numbers.{number_nonzero}
use Rattle.setup.proofs.Outcome.{refused, only_count, shingles_pass, cells_pass, refused_count, accepted}
use Rattle.setup.proofs.fill_tables.Goals as goal

pub returns-in_err-question : goal.returns-in_err-question
returns-in_err-question c =
    let p = err_from_is_err_and c.from_residual.result c.from_residual.ensures.1 in
    rw (p.1, p.2) (refused _ _ _ _ _ true _ c.in_err-question.ensures (number_nonzero _))

pub returns-in_default : goal.returns-in_default
returns-in_default c =
    let passes = sym c.in_ok-question.ensures in
    let eight = only_count _ _ _ _ _ true passes _ _ c.in_default.ensures _ refl in
    refused_count _ _ _ _ _ true passes _ _ c.in_default.ensures eight _ _ c.clear.ensures c.clear-in_default.ensures

pub returns-in_err-fill_shingles : goal.returns-in_err-fill_shingles
returns-in_err-fill_shingles c =
    absurd (shingles_pass _ _ _ _ _ true (sym c.in_ok-question.ensures) _ _ c.in-Ok.ensures _ _ c.in_err-fill_shingles.ensures)

pub returns-in_err-fill_cells : goal.returns-in_err-fill_cells
returns-in_err-fill_cells c =
    absurd (cells_pass _ _ _ _ _ true (sym c.in_ok-question.ensures) _ _ c.in-Ok.ensures _ _ _ c.in_err-fill_cells.ensures)

pub returns : goal.returns
returns c =
    accepted _ _ _ _ _ true (sym c.in_ok-question.ensures) _ _ c.in-Ok.ensures (λ z. absurd (omega arith))
    _ _ _ _ c.in_ok-fill_shingles.ensures c.in_ok-fill_cells.ensures
