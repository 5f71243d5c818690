use Rattle.std.proofs.Common.{◌≡◌, rules, arith}
use Rattle.partition.proofs.Running.{runs_first, runs_small, runs_on, runs_number}
use Rattle.partition.proofs.block.Block.carried.Goals as goal

pub loop-i-init : goal.loop-i-init
loop-i-init c = runs_first (search rules)

pub next-number-requires-clause-x_bound : goal.next-number-requires-clause-x_bound
next-number-requires-clause-x_bound c = runs_small c.loop-i.invariant

pub loop-i-preserved : goal.loop-i-preserved
loop-i-preserved c = runs_on c.loop-i.invariant c.next-number.ensures

pub returns : goal.returns
returns c =
    let e : c.loop-i.i ≡ c.args.to = omega arith in
    rw e at (runs_number c.loop-i.invariant (omega arith))
