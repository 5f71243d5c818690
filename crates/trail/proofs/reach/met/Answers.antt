use Rattle.std.proofs.Common.{arith}
use Rattle.trail.specs.Search.{Missed}
use Rattle.trail.proofs.Linking.{clear_link}
use Rattle.trail.proofs.reach.met.Goals as goal
use Rattle.trail.proofs.reach.met.Goals.{else-counts-at-gt0-via-then-counts-at-gt0+else-marked-at-eq0, else-counts-at-gt0-via-else-counts-at-gt0}

pub loop-row-init : goal.loop-row-init
loop-row-init c = λ id f. (λ j g h m e. f.none j g (omega arith) h e, f.here)

pub loop-row-smaller : goal.loop-row-smaller
loop-row-smaller c = omega (arith, (c.args.table.now.linked.after.each c.loop-row.row c.loop-row-test.true).on)

pub loop-row-preserved : goal.loop-row-preserved
loop-row-preserved c =
    let kept : Missed c.args.counts.now c.args.marked c.loop-row.row → ⊥ = λ m. elim c.else-counts-at-gt0.branch [
      | else-counts-at-gt0-via-then-counts-at-gt0+else-marked-at-eq0 w ↦ w.if-marked-at-eq0.false m.unmarked
      | else-counts-at-gt0-via-else-counts-at-gt0 w ↦ omega (arith, m.unused, w.if-counts-at-gt0.false)
    ] in
    λ id f. clear_link _ _ _ _ _ _ c.loop-row-test.true c.args.table.now.linked.after kept (c.loop-row.invariant id f)

pub returns : goal.returns
returns c = λ e id f j h l m q. (c.loop-row.invariant id f).0 j (omega arith) l m q
