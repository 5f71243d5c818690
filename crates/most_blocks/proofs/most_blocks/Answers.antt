-- Refused where a number is out of its range, else the bound.
use mathlib.Core.Path.{sym, ◌∙◌}
use Rattle.most_blocks.specs.Most.{most_answer}
use Rattle.most_blocks.proofs.Accepted.{apart}
use Rattle.most_blocks.proofs.most_blocks.Goals as goal

pub returns-then-not-in_range : goal.returns-then-not-in_range
unfolding most_answer
returns-then-not-in_range c = rw (sym c.in_range.ensures ∙ c.if-not-in_range.true)

pub bound-requires : goal.bound-requires
bound-requires c = let args = c.args in apart args.n args.w args.h (sym c.in_range.ensures ∙ c.if-not-in_range.false)

pub returns : goal.returns
unfolding most_answer
returns c = rw ((sym c.in_range.ensures ∙ c.if-not-in_range.false), c.bound.ensures)
