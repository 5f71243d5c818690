use Rattle.std.proofs.Common.{◌≡◌, ◌*◌, sym, refl, ◌∙◌, arith}
use Rattle.single.proofs.First.{search_start, search_found, search_next, search_end, lowest_is}
use Rattle.single.proofs.cell.lowest.Goals as goal

pub loop-i-init : goal.loop-i-init
loop-i-init c = search_start _ _

pub returns-then-is_single : goal.returns-then-is_single
returns-then-is_single c = (
  lowest_is _ _ _ _ _ refl (search_found _ _ _ c.loop-i.invariant (omega arith) (sym c.is_single.ensures ∙ c.if-is_single.true)),
  omega arith,
)

pub loop-i-preserved : goal.loop-i-preserved
loop-i-preserved c = search_next _ _ _ c.loop-i.invariant (omega arith) (sym c.is_single.ensures ∙ c.if-is_single.false)

pub returns : goal.returns
returns c =
    let all : c.args.width.q * 3 ≡ c.loop-i.i = omega (arith, c.loop-i.invariant.low) in
    sym (lowest_is _ _ _ _ _ refl (all ∙ search_end _ _ _ c.loop-i.invariant (omega arith)))
