-- What taking a message over the state promises, of its answer as a number.
use Rattle.std.proofs.Common.{rules}
use Rattle.refusal.proofs.Numbers.{answered}
use Rattle.held.proofs.Small.{take_small}
use Rattle.rcds.proofs.rcds_take.Goals as goal

pub returns-in-Ok-Going : goal.returns-in-Ok-Going
returns-in-Ok-Going c = rw c.in-Ok-Going.field-0-is at c.in-Ok-Going.ensures

pub returns-in-Ok-HandedOver : goal.returns-in-Ok-HandedOver
returns-in-Ok-HandedOver c =
    let took = rw c.in-Ok-HandedOver.field-0-is at c.in-Ok-HandedOver.ensures in
    rw (answered c.answer.ensures (take_small (search rules) took)) took

pub returns-in-Err : goal.returns-in-Err
returns-in-Err c = rw c.number.ensures c.in-Err.ensures
