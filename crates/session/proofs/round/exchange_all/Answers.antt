-- A round that refuses or hands the string over is the last; the others leave one round less: the laws of `Rounds`.
use Rattle.std.proofs.Common.{◌≡◌, ℕ, ◌∙◌, ◌-◌, ◌+◌, ◌^◌, sym, ap, refl, arith, Ok, Err}
use Rattle.std.proofs.lemmas.Result.{err_from_is_err_and}
use Rattle.refusal.specs.Answer.{number_of}
use Rattle.refusal.proofs.Numbers.{number_nonzero}
use Rattle.state.specs.Receivers.{progress_number}
use Rattle.session.proofs.Rounds.{going_first, used_up, last_round, next_round}
use Rattle.session.proofs.round.exchange_all.Goals as goal

pub loop-round-init : goal.loop-round-init
loop-round-init c = going_first

pub returns-in_err-taken : goal.returns-in_err-taken
returns-in_err-taken c =
    let p = err_from_is_err_and c.from_residual.result c.from_residual.ensures.1 in
    let number : progress_number c.exchange-taken.result.answer ≡ number_of c.in_err-taken.field-0.0 = ap progress_number c.in_err-taken.was in
    rw (p.1, p.2) (rw number at (last_round c.exchange-taken.ensures c.loop-round.invariant (omega arith) (λ z. number_nonzero _ (sym number ∙ z))))

pub returns-in-HandedOver : goal.returns-in-HandedOver
returns-in-HandedOver c =
    let number : progress_number c.exchange-taken.result.answer ≡ 2 ^ 32 + c.in-HandedOver.length =
    ap progress_number c.in_ok-taken.was ∙ ap (λ p. progress_number (Ok p)) c.in-HandedOver.is in
    rw number at (last_round c.exchange-taken.ensures c.loop-round.invariant (omega arith) (λ z. absurd (omega (arith, number, z))))

pub loop-round-preserved : goal.loop-round-preserved
loop-round-preserved c =
    let goes : progress_number c.exchange-taken.result.answer ≡ 0 =
    ap progress_number c.in_ok-taken.was ∙ ap (λ p. progress_number (Ok p)) c.in-Going.is in
    next_round c.exchange-taken.ensures (4097 - (c.loop-round._round + 1)) c.loop-round.invariant (omega arith) goes
    c.exchange-taken.auto.own_shingles c.exchange-taken.auto.buffer
    c.exchange-taken.auto.output

pub returns : goal.returns
returns c = used_up c.loop-round.invariant (omega arith)
