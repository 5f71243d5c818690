use Rattle.std.proofs.Common.{arith}
use Rattle.trail.proofs.Scan.{scan_pass, scan_fail, scan_done}
use Rattle.trail.proofs.Linking.{scan_from, scan_link}
use Rattle.trail.proofs.walk.least.Goals as goal
use Rattle.trail.proofs.walk.least.Goals.{else-low-id-via-then-low-id+else-id-limit, else-low-id-via-else-low-id}

pub loop-row-init : goal.loop-row-init
loop-row-init c = scan_from _ c.requires

pub loop-row-smaller : goal.loop-row-smaller
loop-row-smaller c = omega (arith, (c.args.table.now.linked.after.each c.loop-row.row c.loop-row-test.true).on)

pub loop-row-preserved-then-counts-at-eq0 : goal.loop-row-preserved-then-counts-at-eq0
loop-row-preserved-then-counts-at-eq0 c =
    scan_link _ _ c.loop-row-test.true c.args.table.now.linked.after (c.loop-row.invariant.1 c.loop-row-test.true)
    (scan_fail c.loop-row.invariant.0 (λ l. let u = l.unused in omega (arith, c.if-counts-at-eq0.true)))

pub loop-row-preserved : goal.loop-row-preserved
loop-row-preserved c =
    scan_link _ _ c.loop-row-test.true c.args.table.now.linked.after (c.loop-row.invariant.1 c.loop-row-test.true) (scan_fail c.loop-row.invariant.0 (λ l. elim c.else-low-id.branch [
      | else-low-id-via-then-low-id+else-id-limit w ↦ let u = l.below in omega arith
      | else-low-id-via-else-low-id w ↦ let u = l.above in omega arith
    ]))

pub loop-row-preserved-then-id-limit : goal.loop-row-preserved-then-id-limit
loop-row-preserved-then-id-limit c =
    scan_link _ _ c.loop-row-test.true c.args.table.now.linked.after (c.loop-row.invariant.1 c.loop-row-test.true) (scan_pass c.loop-row-test.true c.loop-row.invariant.0
    (record { leaves = c.loop-row.invariant.1 c.loop-row-test.true; unused = omega (arith, c.if-counts-at-eq0.false); above = c.if-low-id.true; below = c.if-id-limit.true }))

pub returns : goal.returns
returns c = scan_done _ (omega arith) c.loop-row.invariant.0
