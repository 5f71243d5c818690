use Rattle.std.proofs.Common.{refl, arith}
use Rattle.partition.proofs.Running.{runs_first, runs_small, runs_on, runs_value}
use Rattle.partition.proofs.Steps.{falling_start, falling_on, falling_to, low_reached, low_zero, low_none}
use Rattle.partition.proofs.block.Block.first_low.Goals as goal

pub loop-j-init : goal.loop-j-init
loop-j-init c =
    let runs = runs_first c.requires.stands.here in
    record {
      falling = falling_start _ _ _;
      inside = omega arith;
      reach = refl;
      runs = runs;
      value = runs_value runs c.args.self.now.modulus (omega arith);
    }

pub returns-then-value-eq0 : goal.returns-then-value-eq0
returns-then-value-eq0 c = (omega arith, low_zero _ _ _ _ c.loop-j.invariant.falling c.loop-j.invariant.value (omega arith))

pub next-x-requires-clause-w_in_bounds : goal.next-x-requires-clause-w_in_bounds
next-x-requires-clause-w_in_bounds c = omega arith

pub next-x-requires-clause-x_bound : goal.next-x-requires-clause-x_bound
next-x-requires-clause-x_bound c = runs_small c.loop-j.invariant.runs

pub returns-then-self-j : goal.returns-then-self-j
returns-then-self-j c =
    let s = c.loop-j in
    let runs = runs_on s.invariant.runs c.next-x.ensures in
    let e = runs_value runs c.args.self.now.modulus (omega arith) in
    low_none _ _ _ _ (falling_to _ _ _ s.invariant.falling (omega arith) (omega (arith, e))) c.if-self-j.true

pub loop-j-preserved-then-next-value : goal.loop-j-preserved-then-next-value
loop-j-preserved-then-next-value c =
    let s = c.loop-j in
    let runs = runs_on s.invariant.runs c.next-x.ensures in
    let e = runs_value runs c.args.self.now.modulus (omega arith) in
    record {
      falling = falling_to _ _ _ s.invariant.falling (omega arith) (omega (arith, e));
      inside = omega arith;
      reach = refl;
      runs = runs;
      value = e;
    }

pub loop-j-preserved : goal.loop-j-preserved
loop-j-preserved c =
    let s = c.loop-j in
    let runs = runs_on s.invariant.runs c.next-x.ensures in
    let e = runs_value runs c.args.self.now.modulus (omega arith) in
    record {
      falling = falling_on _ _ _ s.invariant.falling (omega arith) (omega (arith, e));
      inside = s.invariant.inside;
      reach = s.invariant.reach;
      runs = runs;
      value = s.invariant.value;
    }

pub returns : goal.returns
returns c = (omega arith, low_reached _ _ _ _ c.loop-j.invariant.falling c.loop-j.invariant.value (omega arith))
