-- What is kept is noted, then what is new: the laws of `Answer`.
use Rattle.std.proofs.Common.{sym, length-take-le, rules}
use Rattle.pairs.proofs.Answer.{too_many, few}
use Rattle.pairs.proofs.once.Goals as goal

pub returns-then-all-gt-MAX_SHINGLES : goal.returns-then-all-gt-MAX_SHINGLES
returns-then-all-gt-MAX_SHINGLES c = too_many _ _ _ _ _ _ _ _ c.note-kept.ensures c.note-all.ensures (search rules)

pub slice_bounds-none_twice-end : goal.slice_bounds-none_twice-end
slice_bounds-none_twice-end c = sym (length-take-le _ _ (search rules))

pub returns : goal.returns
returns c = few _ _ _ _ _ _ _ _ c.note-kept.ensures c.note-all.ensures (search rules) (search rules) _ c.none_twice.ensures
