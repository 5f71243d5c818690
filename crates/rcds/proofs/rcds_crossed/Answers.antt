-- What `crossing` promises, of its answer as a number.
use Rattle.std.proofs.Common.{rules}
use Rattle.refusal.proofs.Numbers.{answered}
use Rattle.crossing.proofs.Small.{answer_small}
use Rattle.rcds.proofs.rcds_crossed.Goals as goal

pub returns : goal.returns
returns c = rw (answered c.answer.ensures (answer_small (search rules) c.crossed.ensures)) c.crossed.ensures
