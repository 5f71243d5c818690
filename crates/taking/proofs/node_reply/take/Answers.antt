-- Refused early, or by what the content decides.
use Rattle.std.proofs.Common.{refl}
use Rattle.refusal.proofs.Numbers.{number_nonzero}
use Rattle.taking.proofs.Node.{early_no, early_yes, composition_said, literal_said, missing_said}
use Rattle.taking.proofs.node_reply.take.Goals as goal

pub returns-in-Err : goal.returns-in-Err
returns-in-Err c = early_no _ _ c.in-Err.ensures _ c.requires.heard (number_nonzero _) c.end.ensures

pub compose-requires : goal.compose-requires
compose-requires c = composition_said c.requires (early_yes _ _ c.in_default.ensures c.requires refl) c.in-Composition.is

pub append-requires : goal.append-requires
append-requires c = literal_said c.requires (early_yes _ _ c.in_default.ensures c.requires refl) c.in-Literal.is

pub returns-in-NoNode : goal.returns-in-NoNode
returns-in-NoNode c = missing_said c.requires (early_yes _ _ c.in_default.ensures c.requires refl) c.in-NoNode.is c.end-in-NoNode.ensures
