-- Each way out is a case of the definition: the laws of `Filling`.
use borrow.Author.Rules.{rules}
use Rattle.composition.proofs.Filling.{index_beyond, level_other, count_above, found}
use Rattle.composition.proofs.table.look_up.Goals as goal

pub returns-then-size-at : goal.returns-then-size-at
returns-then-size-at c = index_beyond _ _ _ _ _ (search rules) c.if-size-at.true

pub returns-then-s-level : goal.returns-then-s-level
returns-then-s-level c = level_other _ _ _ _ _ (search rules) c.if-size-at.false _ c.shingle_at-s.ensures c.if-s-level.true

pub returns-then-s-count : goal.returns-then-s-count
returns-then-s-count c =
    count_above _ _ _ _ _ (search rules) c.if-size-at.false _ c.shingle_at-s.ensures c.if-s-level.false c.if-s-count.true

pub returns : goal.returns
returns c = found _ _ _ _ _ (search rules) c.if-size-at.false _ c.shingle_at-s.ensures c.if-s-level.false c.if-s-count.false
