-- The two refusals, and what was found: the laws `beyond_string`, `beyond_table` and `crossed_found`.
use borrow.Author.Rules.{rules}
use Rattle.crossing.proofs.Crossing.{beyond_string, beyond_table, crossed_found}
use Rattle.crossing.proofs.crossed.Goals as goal

pub returns-then-n-start : goal.returns-then-n-start
returns-then-n-start c = beyond_string _ _ _ _ _ (search rules)

pub returns-then-left-size : goal.returns-then-left-size
returns-then-left-size c = beyond_string _ _ _ _ _ (search rules)

pub returns-then-table-found : goal.returns-then-table-found
returns-then-table-found c = beyond_table _ _ _ _ _ _ c.count-found.ensures (search rules) c.if-table-found.true

pub returns : goal.returns
returns c = crossed_found _ _ _ _ _ _ c.count-found.ensures (search rules) _ c.if-table-found.false c.write.ensures
