-- Each way out is a case of the definition: the laws of `Replying`.
use Rattle.std.proofs.Common.{Some, sym, ◌∙◌}
use Rattle.node_table.proofs.Entries.{there}
use Rattle.reply.specs.Parts.{Planned}
use Rattle.reply.proofs.Searching.{asked_inside}
use Rattle.reply.proofs.Replying.{none_written, composition_written, literal_written}
use Rattle.reply.proofs.node.node_reply.Goals as goal

pub returns-then-node_id-eq0 : goal.returns-then-node_id-eq0
returns-then-node_id-eq0 c = none_written _ _ _ _ _ _ c.find-k.ensures (sym c.node_id.ensures ∙ c.if-node_id-eq0.true) c.write_none.ensures

pub plan_node-requires : goal.plan_node-requires
plan_node-requires c = there _ _ (λ z. c.if-node_id-eq0.false (c.node_id.ensures ∙ z))

pub write_references-requires : goal.write_references-requires
write_references-requires c = let planned : Planned _ _ _ (Some c.in-Some.plan) = c.in-Some.ensures in planned.1.writable

pub returns-in-Some : goal.returns-in-Some
returns-in-Some c =
    composition_written _ _ _ _ _ _ c.find-k.ensures (λ z. c.if-node_id-eq0.false (c.node_id.ensures ∙ z)) _
    c.in-Some.ensures c.write_references.ensures

pub write_bytes-requires : goal.write_bytes-requires
write_bytes-requires c = asked_inside _ _ _ _ _ c.find-k.ensures (λ z. c.if-node_id-eq0.false (c.node_id.ensures ∙ z))

pub returns : goal.returns
returns c =
    literal_written _ _ _ _ _ _ c.find-k.ensures (λ z. c.if-node_id-eq0.false (c.node_id.ensures ∙ z))
    c.in_default.ensures c.write_bytes.ensures
