use mathlib.Core.Path.{refl, sym, ap, ◌∙◌}
use Rattle.shingle.specs.Table.{shingle_of}
use Rattle.opening.proofs.Keeping.{keeping_start, keeping_gone, keeping_next, keeping_end}
use Rattle.opening.proofs.list.keep.Goals as goal
use Rattle.opening.proofs.list.keep.Goals.{then-not-contains, else-not-contains}

pub loop-read-init : goal.loop-read-init
loop-read-init c = keeping_start _ _ _ c.size-n.ensures

pub loop-read-preserved : goal.loop-read-preserved
loop-read-preserved c =
    let inv = c.loop-read.invariant in
    elim c.if-not-contains.branch [
      | then-not-contains w ↦
          rw (w.written-is, w.table-is) (keeping_next _ _ _ _ _ _ inv c.loop-read-test.true _ w.get-e.ensures _
          (c.shingle_at-s.ensures ∙ ap shingle_of (sym w.get-e.ensures)) _ w.put.ensures (sym c.contains.ensures ∙ w.if-not-contains.true))
      | else-not-contains w ↦
          rw (w.written-is, w.table-is) (keeping_gone _ _ _ _ _ _ inv c.loop-read-test.true _ refl _
          c.shingle_at-s.ensures (sym c.contains.ensures ∙ w.if-not-contains.false))
    ]

pub returns : goal.returns
returns c = keeping_end _ _ _ _ _ _ c.loop-read.invariant c.loop-read-test.false
