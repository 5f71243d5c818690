-- Each way out is a case of the definition: the laws of `Collecting`.
use Rattle.reply.proofs.Collecting.{role_unused, role_outside, role_end, role_child, role_deeper}
use Rattle.reply.proofs.child.role_of.Goals as goal

pub returns-then-node_id-eq0 : goal.returns-then-node_id-eq0
returns-then-node_id-eq0 c = role_unused _ _ _ _ _ c.node_id.ensures c.if-node_id-eq0.true

pub returns-then-own-level : goal.returns-then-own-level
returns-then-own-level c = role_end _ _ _ _ _ c.node_id.ensures c.if-node_id-eq0.false _ c.node_level-own.ensures c.if-own-level.true

pub returns-then-own-level-ne1 : goal.returns-then-own-level-ne1
returns-then-own-level-ne1 c = role_deeper _ _ _ _ _ c.node_id.ensures c.if-node_id-eq0.false _ c.node_level-own.ensures c.if-own-level.false c.if-own-level-ne1.true

pub returns-then-lies_inside : goal.returns-then-lies_inside
returns-then-lies_inside c =
    role_child _ _ _ _ _ c.node_id.ensures c.if-node_id-eq0.false _ c.node_level-own.ensures c.if-own-level.false
    c.if-own-level-ne1.false _ c.lies_inside.ensures c.if-lies_inside.true

pub returns : goal.returns
returns c =
    role_outside _ _ _ _ _ c.node_id.ensures c.if-node_id-eq0.false _ c.node_level-own.ensures c.if-own-level.false
    c.if-own-level-ne1.false _ c.lies_inside.ensures c.if-lies_inside.false
