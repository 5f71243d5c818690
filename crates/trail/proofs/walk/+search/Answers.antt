use Rattle.std.proofs.Common.{arith, rules}
use Rattle.trail.specs.Search.{Ready}
use Rattle.trail.proofs.Turn.{ready, leaf_answer, lost_answer, turning_start, onward_none, least_none, total_spent, found_answer, past_onward, room_less}
use Rattle.trail.proofs.walk.+search.Goals as goal

pub returns-then-k-eq0 : goal.returns-then-k-eq0
returns-then-k-eq0 t c = leaf_answer _ _ _ _ _ _ _ _ c.if-k-eq0.true (c.complete.ensures _)

pub returns-then-lost : goal.returns-then-lost
returns-then-lost t c = lost_answer _ _ _ _ _ _ _ (ready (search rules) (search rules) (search rules) c.requires.size c.requires.few) (c.lost.ensures c.if-lost.true) c.if-k-eq0.false

pub loop-next-init : goal.loop-next-init
loop-next-init t c = turning_start _ _ _ _ _ _ _ _ c.if-k-eq0.false c.least-next.ensures

pub search-requires : goal.search-requires
search-requires t c =
    let m = rw c.in-Some.is at c.loop-next.invariant.least in
    (omega (arith, c.if-k-eq0.false), (total_spent _ _ _ c.requires.size (omega (arith, m.row.0)) m.row.1.unused, (omega (arith, c.requires.few), c.args.table.now.linked.first.each _ m.row.0)))

pub returns-in-Ok : goal.returns-in-Ok
returns-in-Ok t c =
    let a : Ready c.args.table.now.previous c.args.table.now.own c.args.counts c.args.k = ready (search rules) (search rules) (search rules) c.requires.size c.requires.few in
    found_answer _ _ _ _ 18446744073709551615 _ _ _ _ _ _ a c.if-k-eq0.false c.loop-next.invariant.onward (rw c.in-Some.is at c.loop-next.invariant.least) (λ row. omega (arith, c.args.table.now.bounded row)) _ (search rules) c.in-Ok.ensures

pub loop-next-smaller : goal.loop-next-smaller
loop-next-smaller t c =
    let m = rw c.in-Some.is at c.loop-next.invariant.least in
    room_less _ _ _ _ _ _ _ _ c.in-Some.is m.row.1.below c.above-then.ensures

pub loop-next-preserved : goal.loop-next-preserved
loop-next-preserved t c =
    let a : Ready c.args.table.now.previous c.args.table.now.own c.args.counts c.args.k = ready (search rules) (search rules) (search rules) c.requires.size c.requires.few in
    record {
      low = _;
      onward = past_onward _ _ _ _ 18446744073709551615 _ _ _ _ _ _ a c.if-k-eq0.false c.loop-next.invariant.onward (rw c.in-Some.is at c.loop-next.invariant.least) (λ row. omega (arith, c.args.table.now.bounded row)) _ c.in-Err.ensures;
      least = c.above-then.ensures;
    }

pub returns : goal.returns
returns t c = onward_none _ _ _ _ _ _ _ _ c.loop-next.invariant.onward (least_none _ _ _ (record { previous = search rules; own = search rules; count = search rules }) _ _ _ _ (rw c.in_default.is at c.loop-next.invariant.least))
