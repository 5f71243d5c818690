-- What the string's cutting promises, under the four settings and a width of 1, of its answer as a number.
use Rattle.std.proofs.Common.{arith}
use Rattle.refusal.proofs.Numbers.{answered}
use Rattle.tree.proofs.Small.{answer_small}
use Rattle.rcds.proofs.rcds_tree.Goals as goal

pub returns : goal.returns
returns c = let small = answer_small c.cut_string.ensures in rw (answered c.answer.ensures (omega (arith, small))) c.cut_string.ensures
