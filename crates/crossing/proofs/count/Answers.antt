use Rattle.std.proofs.Common.{rules, sym, ◌∙◌}
use Rattle.crossing.proofs.Crossing.{count_start, count_zero, count_crossed, count_passed, count_end}
use Rattle.crossing.proofs.count.Goals as goal
use Rattle.crossing.proofs.count.Goals.{then-crosses, else-crosses}

pub loop-k-init : goal.loop-k-init
loop-k-init c = count_start _ _ _ _ (search rules)

pub returns-then-node_id-eq0 : goal.returns-then-node_id-eq0
returns-then-node_id-eq0 c = count_zero _ _ _ _ _ _ c.loop-k.invariant c.loop-k-test.true (sym c.node_id.ensures ∙ c.if-node_id-eq0.true)

pub loop-k-preserved : goal.loop-k-preserved
loop-k-preserved c =
    let counting = c.loop-k.invariant in
    elim c.if-crosses.branch [
      | then-crosses w ↦ count_crossed _ _ _ _ _ _ counting c.loop-k-test.true (λ z. c.if-node_id-eq0.false (c.node_id.ensures ∙ z)) _ w.found-is (sym c.crosses.ensures ∙ w.if-crosses.true)
      | else-crosses w ↦ count_passed _ _ _ _ _ _ counting c.loop-k-test.true (λ z. c.if-node_id-eq0.false (c.node_id.ensures ∙ z)) _ w.found-is (sym c.crosses.ensures ∙ w.if-crosses.false)
    ]

pub returns : goal.returns
returns c = count_end _ _ _ _ _ _ c.loop-k.invariant c.loop-k-test.false
