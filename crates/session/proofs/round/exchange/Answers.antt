-- Each way out is a case of the definition: the laws of `Exchange`. What was written fits its buffer: those of `Fitting`.
use Rattle.std.proofs.Common.{sym, length-take-le, arith, rules}
use Rattle.reply.proofs.Within.{answer_within}
use Rattle.session.proofs.Fitting.{query_within}
use Rattle.session.proofs.Exchange.{unasked, unanswered, all_taken}
use Rattle.session.proofs.round.exchange.Goals as goal

pub returns-in-Err : goal.returns-in-Err
returns-in-Err c = unasked _ _ _ _ _ _ _ _ _ _ c.in-Err.ensures

pub slice_bounds-query-end-2 : goal.slice_bounds-query-end-2
slice_bounds-query-end-2 c = let fits = query_within c.in-Ok.ensures in search rules

pub slice_bounds-reply-end : goal.slice_bounds-reply-end
slice_bounds-reply-end c = let fits = query_within c.in-Ok.ensures in sym (length-take-le _ _ (search rules))

pub returns-in-Err-reply : goal.returns-in-Err-reply
returns-in-Err-reply c = unanswered _ _ _ _ _ _ _ _ _ _ c.in-Ok.ensures _ _ _ _ _ _ c.in-Err-reply.ensures

pub slice_bounds-take-end : goal.slice_bounds-take-end
slice_bounds-take-end c = let fits = answer_within c.in-Ok-reply.ensures in omega (arith, fits)

pub slice_bounds-take-end-2 : goal.slice_bounds-take-end-2
slice_bounds-take-end-2 c = let fits = answer_within c.in-Ok-reply.ensures in sym (length-take-le _ _ (omega (arith, fits)))

pub returns : goal.returns
returns c = all_taken _ _ _ _ _ _ _ _ _ _ c.in-Ok.ensures _ _ _ _ _ _ c.in-Ok-reply.ensures c.take.ensures
