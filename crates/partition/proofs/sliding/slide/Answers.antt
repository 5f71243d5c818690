-- `slide` meets its contract: each product fits, and the factor is the definition's.
use Rattle.std.proofs.Common.{arith, ◌+◌, ◌*◌}
use Rattle.partition.specs.Sliding.{leaving_of, slid}
use Rattle.partition.proofs.Reading.{early_factor}
use Rattle.partition.proofs.Shifted.{product_small}
use Rattle.partition.proofs.sliding.slide.Goals as goal

pub overflow_mul-left : goal.overflow_mul-left
overflow_mul-left c = omega (arith, product_small c.args.old c.leaving-often.result (omega arith) (omega arith))

pub returns : goal.returns
unfolding slid
returns c =
    let a = c.args in
    omega (arith, early_factor (a.x * 257 + a.new) a.old (leaving_of a.w) c.leaving-often.ensures)
