use Rattle.std.proofs.Common.{rules, sym, ◌∙◌}
use Rattle.crossing.proofs.Crossing.{write_start, write_zero, write_next, write_end}
use Rattle.crossing.proofs.write.Goals as goal

pub loop-place-init : goal.loop-place-init
loop-place-init c = write_start _ _ _ _ _ (search rules) c.requires

pub returns-then-node_id-eq0 : goal.returns-then-node_id-eq0
returns-then-node_id-eq0 c = write_zero _ _ _ _ _ _ _ _ c.loop-place.invariant c.loop-place-test.true (sym c.node_id.ensures ∙ c.if-node_id-eq0.true)

pub loop-place-preserved : goal.loop-place-preserved
loop-place-preserved c =
    write_next _ _ _ _ _ _ _ _ c.loop-place.invariant c.loop-place-test.true _ _
    (λ z. c.if-node_id-eq0.false (c.node_id.ensures ∙ z)) c.note-at.ensures

pub returns : goal.returns
returns c = write_end _ _ _ _ _ _ _ _ c.loop-place.invariant c.loop-place-test.false
