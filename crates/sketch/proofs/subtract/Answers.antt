use Rattle.std.proofs.Common.{arith}
use Rattle.sketch.proofs.Subtracting.{row_less_lem, none_yet, one_more, all_rows}
use Rattle.sketch.proofs.subtract.Goals as goal

pub loop-k-init : goal.loop-k-init
loop-k-init c = none_yet _ _

pub loop-k-preserved : goal.loop-k-preserved
loop-k-preserved c =
    let less = row_less_lem _ _ _ _ _ c.load.ensures c.load-in-loop-k.ensures c.load-in-loop-k.type_inv in
    one_more _ _ _ _ c.loop-k.k _ (omega arith) c.loop-k.auto.cells less c.loop-k.invariant c.store.ensures

pub returns : goal.returns
returns c = all_rows _ _ _ _ c.loop-k.k (omega arith) c.loop-k.invariant
