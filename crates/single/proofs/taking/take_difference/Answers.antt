-- Subtracted, taken from, and tested: the law `taken_all`.
use Rattle.single.proofs.Differences.{taken_all}
use Rattle.single.proofs.taking.take_difference.Goals as goal

pub returns : goal.returns
returns c =
    taken_all _ _ _ _ _ _ _ _ _ _ c.args.width.some c.args.width.few c.requires.size c.subtract.ensures c.take_all.ensures c.all_zero.ensures
