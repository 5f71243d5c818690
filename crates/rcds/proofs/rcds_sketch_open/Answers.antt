-- What the opening of the sketch promises, of its answer as a number.
use Rattle.std.proofs.Common.{arith}
use Rattle.refusal.proofs.Numbers.{answered}
use Rattle.opening.proofs.Small.{answer_small}
use Rattle.rcds.proofs.rcds_sketch_open.Goals as goal

pub returns : goal.returns
returns c =
    let small = answer_small _ _ _ _ _ _ _ c.open.ensures in
    rw (answered c.answer.ensures (omega (arith, small))) c.open.ensures
