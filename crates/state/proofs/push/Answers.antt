-- Too many, no room, or all placed: the laws of `Pushing`.
use borrow.Author.Rules.{rules}
use Rattle.state.proofs.Pushing.{pushed_none, pushed_no_room, pushed_all}
use Rattle.state.proofs.push.Goals as goal

pub returns-then-count-gt32 : goal.returns-then-count-gt32
returns-then-count-gt32 c = pushed_none _ _ _ _ _ (search rules)

pub returns-then-count-waiting : goal.returns-then-count-waiting
returns-then-count-waiting c = pushed_no_room _ _ _ _ _ (search rules) (search rules)

pub returns : goal.returns
returns c = pushed_all _ _ _ _ _ (search rules) (search rules) (search rules) (search rules) c.place.ensures
