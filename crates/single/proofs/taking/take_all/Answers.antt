use Rattle.std.proofs.Common.{◌*◌, sym, refl, arith}
use Rattle.single.proofs.Turns.{taking_start, taking_next, taking_stop, taking_end}
use Rattle.single.proofs.taking.take_all.Goals as goal

pub loop-turn-init : goal.loop-turn-init
loop-turn-init c = taking_start _ _ _ _ _ c.requires.new_cleared c.requires.gone_cleared

pub returns-in_default : goal.returns-in_default
returns-in_default c = taking_stop _ _ _ _ (c.args.width.q * 3) _ _ _ _ (sym c.in_default.ensures) (omega arith) c.loop-turn.invariant

pub loop-turn-preserved : goal.loop-turn-preserved
loop-turn-preserved c =
    let found = c.in-Some.ensures in
    taking_next _ _ _ _ _ _ _ _ _ _ _ _ _ _ c.args.width.few (omega arith) refl found.0 found.1 c.loop-turn.invariant c.take_one-n.ensures

pub returns : goal.returns
returns c = taking_end _ _ _ _ _ _ _ _ (omega arith) c.loop-turn.invariant
