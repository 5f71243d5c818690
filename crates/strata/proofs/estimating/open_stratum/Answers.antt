-- What was taken, told apart by its sign, counted: the laws of `Verdict`.
use mathlib.Core.Path.{◌∙◌}
use native.Mathlib.Omega.{arith}
use Rattle.single.proofs.Lengths.{from_zeros}
use Rattle.strata.proofs.Verdict.{count_few, number, told}
use Rattle.strata.proofs.estimating.open_stratum.Goals as goal

pub overflow_add-count : goal.overflow_add-count
overflow_add-count c = omega (arith, count_few (from_zeros c.peel-empty.ensures) _ _ c.size.ensures c.size-2.ensures)

pub returns-then-not-opens : goal.returns-then-not-opens
returns-then-not-opens c = told (from_zeros c.peel-empty.ensures) _ _ _ c.opens.ensures ∙ c.if-not-opens.true

pub returns : goal.returns
returns c =
    let taken = from_zeros c.peel-empty.ensures in
    (told taken _ _ _ c.opens.ensures ∙ c.if-not-opens.false, number taken _ _ c.size.ensures c.size-2.ensures)
