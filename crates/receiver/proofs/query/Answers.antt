-- Refused by what is asked again, or the query is written.
use Rattle.std.proofs.Common.{refl}
use Rattle.std.proofs.lemmas.Result.{err_from_is_err_and}
use Rattle.refusal.proofs.Numbers.{number_nonzero}
use Rattle.receiver.proofs.Calls.{query_no, query_yes}
use Rattle.receiver.proofs.query.Goals as goal

pub returns-in_err-question : goal.returns-in_err-question
returns-in_err-question c =
    let p = err_from_is_err_and c.from_residual.result c.from_residual.ensures.1 in
    rw (p.1, p.2) (query_no _ _ _ _ _ _ c.in_err-question.ensures (number_nonzero _))

pub returns : goal.returns
returns c = query_yes _ _ _ _ _ _ c.in_ok-question.ensures refl c.write_query.ensures
