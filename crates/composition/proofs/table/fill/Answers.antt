use borrow.Author.Rules.{rules}
use Rattle.composition.proofs.Filling.{fill_start, fill_stop, fill_next, fill_end}
use Rattle.composition.proofs.table.fill.Goals as goal

pub loop-k-init : goal.loop-k-init
loop-k-init c = (c.size-size.ensures, fill_start _ _ _ _ _)

pub returns-in_err-s : goal.returns-in_err-s
returns-in_err-s c =
    rw c.from_residual.ensures
    (fill_stop _ _ _ _ _ _ _ _ _ c.loop-k.invariant.1 c.loop-k-test.true _ c.reference_at-reference.ensures c.in_err-s.ensures)

pub loop-k-preserved : goal.loop-k-preserved
loop-k-preserved c = (
  c.loop-k.invariant.0,
  fill_next _ _ _ _ _ _ _ _ _ c.loop-k.invariant.1 c.loop-k-test.true _ c.reference_at-reference.ensures _ c.in_ok-s.ensures (search rules),
)

pub returns : goal.returns
returns c = fill_end _ _ _ _ _ _ _ _ _ c.loop-k.invariant.1 c.loop-k-test.false
