-- What `most_blocks` promises, of its answer as a number.
use Rattle.std.proofs.Common.{arith}
use Rattle.most_blocks.proofs.Small.{answer_small}
use Rattle.rcds.proofs.rcds_most_blocks.Goals as goal

pub returns : goal.returns
returns c = omega (arith, c.answer.ensures, c.most_blocks.ensures, answer_small c.args.n c.args.w c.args.h)
