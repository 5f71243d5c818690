-- Each way out is a case of the definition: the laws `number_odd`, `number_long` and `number_read`.
use Rattle.std.proofs.Common.{◌≡◌, sym, ap, ◌∙◌, arith, rules, length-take-le}
use Rattle.rcds.proofs.Answers.{number_odd, number_long, number_low, number_read, number_unmarked}
use Rattle.rcds.proofs.rcds_trail_number.Goals as goal

pub returns-then-ids-ne0 : goal.returns-then-ids-ne0
returns-then-ids-ne0 c = c.number.ensures ∙ number_odd _ c.if-ids-ne0.true

pub returns-then-k-gt32 : goal.returns-then-k-gt32
returns-then-k-gt32 c = c.number-then-k-gt32.ensures ∙ number_long _ c.if-ids-ne0.false c.if-k-gt32.true

pub slice_bounds-number-end : goal.slice_bounds-number-end
slice_bounds-number-end c = sym (length-take-le _ _ (search rules))

pub returns-in-Err : goal.returns-in-Err
returns-in-Err c =
    number_read _ _ _ _ c.if-ids-ne0.false c.if-k-gt32.false c.read_column-list.ensures c.in-Err.ensures (c.number-in-Err.ensures ∙ number_unmarked _)

pub overflow_add-order : goal.overflow_add-order
overflow_add-order c = let low = number_low _ _ c.in-Ok.ensures in omega (arith, low)

pub mark-requires : goal.mark-requires
mark-requires c = number_low _ _ c.in-Ok.ensures

pub returns-in-Ok : goal.returns-in-Ok
returns-in-Ok c = number_read _ _ _ _ c.if-ids-ne0.false c.if-k-gt32.false c.read_column-list.ensures c.in-Ok.ensures c.mark.ensures
