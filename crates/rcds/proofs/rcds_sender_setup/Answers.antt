-- What the sender's setup promises, under the five settings, of its answer as a number.
use Rattle.std.proofs.Common.{arith}
use Rattle.refusal.proofs.Numbers.{answered}
use Rattle.setup.proofs.Small.{answer_small}
use Rattle.rcds.proofs.rcds_sender_setup.Goals as goal

pub returns : goal.returns
returns c =
    let small = answer_small c.setup.ensures.tables in
    rw (answered c.answer.ensures (omega (arith, small))) c.setup.ensures
