-- What the sender's reply over its state promises, of its answer as a number.
use Rattle.std.proofs.Common.{◌<◌, ◌^◌, length, arith, rules}
use Rattle.refusal.proofs.Numbers.{answered}
use Rattle.reply.proofs.Within.{answer_within}
use Rattle.rcds.proofs.rcds_reply.Goals as goal

pub returns : goal.returns
returns c =
    let room : length c.args.out.now < 2 ^ 63 = search rules in
    let within = answer_within c.reply.ensures in
    rw (answered c.answer.ensures (omega (arith, room, within))) c.reply.ensures
