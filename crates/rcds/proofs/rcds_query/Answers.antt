-- What the receiver's query over its state promises, of its answer as a number.
use Rattle.std.proofs.Common.{rules}
use Rattle.refusal.proofs.Numbers.{answered}
use Rattle.held.proofs.Small.{query_small}
use Rattle.rcds.proofs.rcds_query.Goals as goal

pub returns : goal.returns
returns c = rw (answered c.answer.ensures (query_small _ (search rules) c.query.ensures)) c.query.ensures
