use native.Mathlib.Omega.{arith}
use Rattle.reply.proofs.Referring.{refer_start, refer_pass, refer_more, refer_full, refer_far, refer_end}
use Rattle.reply.proofs.reference.refer.Goals as goal
use Rattle.reply.proofs.reference.refer.Goals.{then-often-ne0+else-count-eq32+else-index-gt-LAST_INDEX, else-often-ne0}

pub loop-k-init : goal.loop-k-init
loop-k-init c = (c.size-end.ensures, refer_start _ _ _)

pub returns-then-count-eq32 : goal.returns-then-count-eq32
returns-then-count-eq32 c =
    refer_full _ _ _ _ _ _ _ (omega (arith, c.loop-k.invariant.0, c.loop-k-test.true)) c.loop-k.invariant.1 _
    c.shingle_at-s.ensures _ c.times-often.ensures c.if-often-ne0.true c.if-count-eq32.true

pub returns-then-index-gt-LAST_INDEX : goal.returns-then-index-gt-LAST_INDEX
returns-then-index-gt-LAST_INDEX c =
    refer_far _ _ _ _ _ _ _ (omega (arith, c.loop-k.invariant.0, c.loop-k-test.true)) c.loop-k.invariant.1 _
    c.shingle_at-s.ensures _ c.times-often.ensures c.if-often-ne0.true (omega (arith, c.if-index-gt-LAST_INDEX.true))

pub bounds-indexes-count : goal.bounds-indexes-count
bounds-indexes-count c =
    let inv = c.loop-k.invariant.1 in
    omega (arith, inv.fits, c.if-count-eq32.false, inv.indexes_room)

pub bounds-counts-count : goal.bounds-counts-count
bounds-counts-count c =
    let inv = c.loop-k.invariant.1 in
    omega (arith, inv.fits, c.if-count-eq32.false, inv.counts_room)

pub loop-k-preserved : goal.loop-k-preserved
loop-k-preserved c = (
  c.loop-k.invariant.0,
  elim c.if-often-ne0.branch [
    | then-often-ne0+else-count-eq32+else-index-gt-LAST_INDEX w ↦
        rw (w.count-is, w.indexes-is, w.counts-is) (refer_more _ _ _ _ _ _ _ (omega (arith, c.loop-k.invariant.0, c.loop-k-test.true))
        c.loop-k.invariant.1 _ c.shingle_at-s.ensures _ c.times-often.ensures w.if-often-ne0.true w.if-count-eq32.false
        (omega (arith, w.if-index-gt-LAST_INDEX.false)))
    | else-often-ne0 w ↦
        rw (w.count-is, w.indexes-is, w.counts-is) (refer_pass _ _ _ _ _ _ _ (omega (arith, c.loop-k.invariant.0, c.loop-k-test.true))
        c.loop-k.invariant.1 _ c.shingle_at-s.ensures _ c.times-often.ensures w.if-often-ne0.false)
  ],
)

pub returns : goal.returns
returns c = refer_end _ _ _ _ _ _ _ (omega (arith, c.loop-k.invariant.0, c.loop-k-test.false)) c.loop-k.invariant.1
