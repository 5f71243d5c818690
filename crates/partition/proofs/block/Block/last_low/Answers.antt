use Rattle.std.proofs.Common.{◌≡◌, arith}
use Rattle.partition.proofs.Running.{runs_first, runs_small, runs_on, runs_value}
use Rattle.partition.proofs.Steps.{last_none, last_here, last_more}
use Rattle.partition.proofs.block.Block.last_low.Goals as goal
use Rattle.partition.proofs.block.Block.last_low.Goals.{then-value-m, else-value-m}

pub loop-j-init : goal.loop-j-init
loop-j-init c = (last_none _ _ _ (omega arith), runs_first c.number-x.ensures)

pub next-x-requires-clause-x_bound : goal.next-x-requires-clause-x_bound
next-x-requires-clause-x_bound c = runs_small c.loop-j.invariant.1

pub loop-j-preserved : goal.loop-j-preserved
loop-j-preserved c =
    let s = c.loop-j in
    let e = runs_value s.invariant.1 c.args.self.now.modulus (omega arith) in
    let runs = runs_on s.invariant.1 c.next-x.ensures in
    elim c.if-value-m.branch [
      | then-value-m w ↦ (rw w.last-is (omega arith, last_here _ _ _ _ (omega arith) (omega (arith, e))), runs)
      | else-value-m w ↦ (rw w.last-is (last_more _ _ _ _ _ s.invariant.0 (omega (arith, e))), runs)
    ]

pub returns : goal.returns
returns c =
    let e : c.loop-j.j ≡ c.args.to = omega arith in
    rw e at c.loop-j.invariant.0
