-- Nothing, or the shingle's summands added to the table's rows: the laws of `Putting`.
use Rattle.sketch.proofs.Putting.{no_put, put_added}
use Rattle.sketch.proofs.put.Goals as goal

pub returns-in_default : goal.returns-in_default
returns-in_default c = no_put _ _ _ c.in_default.ensures

pub returns-in-Some : goal.returns-in-Some
returns-in-Some c =
    let width = c.in-Some.width in
    rw (← c.in-Some.ensures) (put_added _ _ _ _ width.some width.few (λ i. (c.slice_known-1.given i).fits) c.add_shingle.ensures)
