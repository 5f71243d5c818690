-- Each way out: the laws of `Nine`.
use borrow.Author.Rules.{rules}
use Rattle.state.proofs.Nine.{ended_stands, many_stand, none_stands, some_stand}
use Rattle.state.proofs.question.still_running.Goals as goal

pub returns-then-phase-gt1 : goal.returns-then-phase-gt1
returns-then-phase-gt1 c = ended_stands _ _ _ _ (search rules)

pub returns-then-waiting-gt128 : goal.returns-then-waiting-gt128
returns-then-waiting-gt128 c = many_stand _ _ _ _ (search rules)

pub returns-then-waiting-eq0 : goal.returns-then-waiting-eq0
returns-then-waiting-eq0 c = none_stands _ _ _ _ (search rules) (search rules)

pub returns : goal.returns
returns c = some_stand _ _ _ _ (search rules) (search rules) (search rules) c.all_shallow.ensures
