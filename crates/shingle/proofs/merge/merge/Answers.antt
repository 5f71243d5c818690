use mathlib.Core.Path.{refl, sym, ◌∙◌}
use Rattle.shingle.specs.Steps.{equal}
use Rattle.shingle.proofs.Merging.{merged_none, merging_start, merging_same, merging_next, merging_end}
use Rattle.shingle.proofs.merge.merge.Goals as goal
use Rattle.shingle.proofs.merge.merge.Goals.{then-eq, else-eq}

pub returns-then-n-eq0 : goal.returns-then-n-eq0
returns-then-n-eq0 c = merged_none _ _ refl c.if-n-eq0.true

pub loop-read-init : goal.loop-read-init
loop-read-init c = merging_start _ _ _ refl c.if-n-eq0.false c.get-e.ensures

pub loop-read-preserved : goal.loop-read-preserved
unfolding equal
loop-read-preserved c =
    let before = c.loop-read.invariant in
    elim c.if-eq.branch [
      | then-eq w ↦ rw (w.table-is, w.e-is, w.count-is, w.written-is)
          (merging_same _ _ _ _ _ _ _ before _ c.get-next.ensures c.loop-read-test.true (sym c.eq.ensures ∙ w.if-eq.true))
      | else-eq w ↦ rw (w.table-is, w.e-is, w.count-is, w.written-is)
          (merging_next _ _ _ _ _ _ _ _ before _ w.with_count.ensures w.put.ensures _ c.get-next.ensures c.loop-read-test.true (sym c.eq.ensures ∙ w.if-eq.false))
    ]

pub returns : goal.returns
returns c = merging_end _ _ _ _ _ _ _ _ c.loop-read.invariant _ c.with_count-2.ensures c.put-2.ensures c.loop-read-test.false
