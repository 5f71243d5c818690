-- The search over all ids.
use Rattle.std.proofs.Common.{arith}
use Rattle.trail.proofs.Answers.{whole_answer}
use Rattle.trail.proofs.walk.find.Goals as goal

pub returns : goal.returns
returns c = whole_answer _ _ _ _ 18446744073709551615 _ _ _ c.narrow.ensures (λ row. omega (arith, c.args.table.now.bounded row)) c.requires.size c.search.ensures
