-- Each way out is a case of the definition: the laws of `Replying`.
use Rattle.std.proofs.Common.{Ok, refl, sym, ap, ◌≡◌, ◌∙◌}
use Rattle.std.proofs.lemmas.Result.{err_from_is_err_and}
use Rattle.refusal.proofs.Numbers.{number_nonzero}
use Rattle.reply.specs.Parts.{query_of_message}
use Rattle.reply.specs.declared.query.Query.TheVariants as asks
use Rattle.reply.proofs.Replying.{reply_refused, unheard, opening_replied, node_replied}
use Rattle.reply.proofs.reply.Goals as goal

pub returns-in_err-question : goal.returns-in_err-question
returns-in_err-question c =
    let p = err_from_is_err_and c.from_residual.result c.from_residual.ensures.1 in
    rw (p.1, p.2) (reply_refused _ _ _ _ _ _ _ _ c.in_err-question.ensures (number_nonzero _))

pub returns-in_err-query : goal.returns-in_err-query
returns-in_err-query c =
    let p = err_from_is_err_and c.from_residual-in_err-query.result c.from_residual-in_err-query.ensures.1 in
    rw (p.1, p.2) (unheard _ _ _ _ _ _ _ _ c.in_ok-question.ensures refl _ _ c.read.ensures (sym c.in_err-query.ensures))

pub returns-in-Opening : goal.returns-in-Opening
returns-in-Opening c =
    let asked : query_of_message c.read.result ≡ Ok (asks.Opening c.in-Opening.session) = sym c.in_ok-query.ensures ∙ ap Ok c.in-Opening.is in
    opening_replied _ _ _ _ _ _ _ _ c.in_ok-question.ensures refl _ _ c.read.ensures asked c.opening.ensures

pub returns-in-Node : goal.returns-in-Node
returns-in-Node c =
    let asked : query_of_message c.read.result ≡ Ok (asks.Node c.in-Node.asked) = sym c.in_ok-query.ensures ∙ ap Ok c.in-Node.is in
    node_replied _ _ _ _ _ _ _ _ c.in_ok-question.ensures refl _ _ c.read.ensures asked c.node_reply.ensures
