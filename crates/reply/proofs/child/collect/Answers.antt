use mathlib.Core.Path.{refl}
use Rattle.reply.proofs.Collecting.{collect_start, collect_stop, collect_pass, collect_child, collect_full, collect_end}
use Rattle.reply.proofs.child.collect.Goals as goal
use Rattle.reply.proofs.child.collect.Goals.{in-Passed, in-Child+else-count-eq32}

pub loop-k-init : goal.loop-k-init
loop-k-init c = (refl, collect_start _ _ _ _)

pub returns-in-End : goal.returns-in-End
returns-in-End c = collect_stop _ _ _ _ _ _ _ c.loop-k-test.true c.loop-k.invariant.1 c.in-End.ensures

pub returns-then-count-eq32 : goal.returns-then-count-eq32
returns-then-count-eq32 c =
    collect_full _ _ _ _ _ _ _ c.loop-k-test.true c.loop-k.invariant.1 c.in-Child.ensures c.if-count-eq32.true

pub loop-k-preserved : goal.loop-k-preserved
loop-k-preserved c = (
  refl,
  elim c.match-role_of.branch [
    | in-Passed w ↦
        rw (w.count-is, w.ids-is) (collect_pass _ _ _ _ _ _ _ c.loop-k-test.true c.loop-k.invariant.1 w.in-Passed.ensures)
    | in-Child+else-count-eq32 w ↦
        rw (w.count-is, w.ids-is) (collect_child _ _ _ _ _ _ _ c.loop-k-test.true c.loop-k.invariant.1 w.in-Child.ensures _
        w.node_id.ensures w.if-count-eq32.false)
  ],
)

pub returns : goal.returns
returns c = collect_end _ _ _ _ _ _ _ c.loop-k-test.false c.loop-k.invariant.1
