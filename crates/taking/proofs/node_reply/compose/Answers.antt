-- 17, 18, or copying goes on with the children.
use Rattle.std.proofs.Common.{refl, rules}
use Rattle.taking.proofs.Composition.{answer_is, composed_low, not_composed, composed_long, composed_advances}
use Rattle.taking.proofs.node_reply.compose.Goals as goal

pub returns-in_default : goal.returns-in_default
returns-in_default c = not_composed c.requires _ c.in_default.ensures refl c.end.ensures

pub returns-then-state : goal.returns-then-state
returns-then-state c = composed_long c.requires _ c.in-Some.ensures refl c.if-state.true c.end-then-state.ensures

pub overflow_add-level : goal.overflow_add-level
overflow_add-level c =
    let low = composed_low c.requires _ c.in-Some.ensures refl in
    let few = c.requires.past.few_levels in
    search rules

pub overflow_add-rest : goal.overflow_add-rest
overflow_add-rest c = let room = ((answer_is c.requires _ c.in-Some.ensures).gives refl).room in search rules

pub returns : goal.returns
returns c = composed_advances c.requires _ c.in-Some.ensures refl c.if-state.false c.push-pile.ensures c.advance.ensures
