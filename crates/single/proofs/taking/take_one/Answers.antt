-- A shingle read, removed and written: the law `took_one`.
use Rattle.single.proofs.Turns.{took_one}
use Rattle.single.proofs.taking.take_one.Goals as goal

pub returns : goal.returns
returns c =
    took_one _ _ _ _ _ _ _ _ _ _ _ _ _ _ c.args.width.some c.args.width.few c.is_negative-negative.ensures c.shingle_in-s.ensures c.value-tail.ensures
    c.put.ensures c.list.ensures
