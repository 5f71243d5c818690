use Rattle.std.proofs.Common.{arith, below_more, sym, get_or}
use Rattle.std.proofs.lemmas.Option.{IfSome_then}
use Rattle.trail.proofs.reach.shut.Goals as goal
use Rattle.trail.proofs.reach.shut.Goals.{then-counts-row-gt0+then-marked-row-eq0, then-counts-row-gt0+else-marked-row-eq0+else-met-2, else-counts-row-gt0}

pub loop-row-preserved : goal.loop-row-preserved
loop-row-preserved c = elim c.if-counts-row-gt0.branch [
  | then-counts-row-gt0+then-marked-row-eq0 w ↦ (rw w.missed-is (c.loop-row-test.true, record { unused = w.if-counts-row-gt0.true; unmarked = w.if-marked-row-eq0.true }), below_more _ _ c.loop-row.invariant.1 (λ u k. absurd (k w.if-marked-row-eq0.true)))
  | then-counts-row-gt0+else-marked-row-eq0+else-met-2 w ↦ (rw w.missed-is c.loop-row.invariant.0, below_more _ _ c.loop-row.invariant.1 (λ u k. w.met-else-marked-row-eq0.ensures w.if-met-2.false (get_or c.args.table.now.own c.loop-row.row 0) (c.args.table.now.linked.first.each _ c.loop-row-test.true)))
  | else-counts-row-gt0 w ↦ (rw w.missed-is c.loop-row.invariant.0, below_more _ _ c.loop-row.invariant.1 (λ u. absurd (omega (arith, w.if-counts-row-gt0.false))))
]

pub returns : goal.returns
returns c = IfSome_then c.loop-row.missed c.loop-row.invariant.0 (λ r m. (
  m.0,
  m.1,
  λ v f j g m.
      (λ e. c.met.ensures c.if-met.false v f j g g m e, λ n q u k e. c.loop-row.invariant.1 n (omega arith) u k j g g m (sym e)),
))
