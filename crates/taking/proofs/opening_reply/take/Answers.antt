-- The questions refuse, copying refuses, or the new list is written.
use Rattle.std.proofs.Common.{sym, ◌∙◌}
use Rattle.refusal.proofs.Numbers.{number_nonzero}
use Rattle.taking.proofs.Opening.{opening_no, opening_stopped, opening_yes}
use Rattle.taking.proofs.opening_reply.take.Goals as goal

pub returns-in-Err : goal.returns-in-Err
returns-in-Err c = opening_no c.requires (rw c.in-Err.is at c.judge-judged.ensures) (number_nonzero _) c.end.ensures

pub returns-then-is_ok : goal.returns-then-is_ok
returns-then-is_ok c =
    opening_yes c.requires (rw c.in-Ok.is at c.judge-judged.ensures) c.rooted-pile.ensures c.advance-taken.ensures (sym c.is_ok.ensures.value ∙ c.if-is_ok.true) c.renew.ensures

pub returns-else-is_ok : goal.returns-else-is_ok
returns-else-is_ok c =
    opening_stopped c.requires (rw c.in-Ok.is at c.judge-judged.ensures) c.rooted-pile.ensures c.advance-taken.ensures (sym c.is_ok.ensures.value ∙ c.if-is_ok.false)
