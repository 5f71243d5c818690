-- The links of the rows passed are right, one row more each turn.
use Rattle.trail.specs.Search.{Firsts, Afters}
use Rattle.trail.proofs.links.link.Given as goal

abbrev pub invariant-loop-row : goal.invariant-loop-row
invariant-loop-row l = Firsts l.previous l.own l.first l.row × Afters l.previous l.after l.row
