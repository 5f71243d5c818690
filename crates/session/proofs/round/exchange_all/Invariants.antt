-- The rounds that are left fall, and what the rounds that are left come to stays the same: the laws of `Rounds`.
use Rattle.std.proofs.Common.{◌-◌}
use Rattle.protocol.specs.Lent.{lent, read_only}
use Rattle.session.proofs.Rounds.{Going}
use Rattle.session.proofs.round.exchange_all.Given as goal

abbrev pub invariant-loop-round : goal.invariant-loop-round
invariant-loop-round l = Going l.settings (read_only l.theirs) (lent l.own l.own_nodes l.initial.own_shingles l.own_cells l.initial.output) l.initial.buffer l.initial.state
    (lent l.own l.own_nodes l.own_shingles l.own_cells l.output) l.buffer l.state (4097 - l._round)
