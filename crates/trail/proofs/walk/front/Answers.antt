use Rattle.std.proofs.Common.{arith, refl, ap, ◌∙◌, List, ℕ, ◌++◌, ◌-◌, drop, replicate, length, length-drop}
use Rattle.std.proofs.Math.Seq.{take_all}
use Rattle.trail.specs.Search.{led}
use Rattle.trail.proofs.Fill.{front_end}
use Rattle.trail.proofs.Linking.{led_long, led_drop, led_next}
use Rattle.trail.proofs.walk.front.Goals as goal

pub loop-i-init : goal.loop-i-init
loop-i-init c = (take_all (32 - (32 - c.args.k)) (drop (32 - c.args.k) c.args.rows.now) (omega (arith, length-drop (32 - c.args.k) c.args.rows.now)), refl)

pub loop-i-preserved : goal.loop-i-preserved
loop-i-preserved c = (c.loop-i.invariant.0, led_next _ _ _ _ _ c.id.ensures (omega (arith, ap length c.loop-i.invariant.0, length-drop (32 - c.args.k) c.args.rows.now)) c.loop-i-test.true c.loop-i.invariant.1)

pub returns : goal.returns
returns c =
    let long = length-drop (32 - c.args.k) c.args.rows.now in
    let e = ap length c.loop-i.invariant.0 in
    front_end _ _ _ c.loop-i.i (led_long _ _ ∙ e ∙ omega arith) (omega arith) (omega arith) c.loop-i.invariant.1 ∙ ap (λ (ids : List ℕ). ids ++ replicate (32 - c.args.k) 0) (ap (λ (rows : List ℕ). led c.args.own.now rows) c.loop-i.invariant.0 ∙ led_drop _ _ _)
