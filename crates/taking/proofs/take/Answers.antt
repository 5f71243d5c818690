-- A no leaves all as it was, or what was said is taken: the laws of `Taking`.
use Rattle.taking.proofs.Taking.{kept_by, opening_said, node_said, take_opening, take_node}
use Rattle.taking.proofs.take.Goals as goal

pub take-requires : goal.take-requires
take-requires c = opening_said _ _ _ _ _ _ _ c.in-Ok-Opening.ensures _ c.in-Ok-Opening.field-0-is

pub returns-in-Ok-Opening : goal.returns-in-Ok-Opening
returns-in-Ok-Opening c = take_opening _ _ _ _ _ _ _ c.in-Ok-Opening.ensures c.take.ensures

pub take-requires-in-Ok-Reply : goal.take-requires-in-Ok-Reply
take-requires-in-Ok-Reply c = node_said _ _ _ _ _ _ c.in-Ok-Reply.ensures _ c.in-Ok-Reply.field-0-is

pub returns-in-Ok-Reply : goal.returns-in-Ok-Reply
returns-in-Ok-Reply c = take_node _ _ _ _ _ _ _ c.in-Ok-Reply.ensures c.take-in-Ok-Reply.ensures

pub returns-in-Err : goal.returns-in-Err
returns-in-Err c = kept_by _ _ _ _ _ _ _ _ c.in-Err.ensures
