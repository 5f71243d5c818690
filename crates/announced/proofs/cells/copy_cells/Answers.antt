use mathlib.Core.Path.{refl}
use native.Mathlib.Omega.{arith}
use borrow.Author.Rules.{rules}
use Rattle.announced.proofs.Tables.{copied_none, copied_more, copied_all}
use Rattle.announced.proofs.cells.copy_cells.Goals as goal

pub loop-k-init : goal.loop-k-init
loop-k-init c = (refl, (search rules, copied_none _ _))

pub loop-k-preserved : goal.loop-k-preserved
loop-k-preserved c =
    let inv = c.loop-k.invariant in (
      search rules,
      (
        search rules,
        copied_more _ _ _ _ c.loop-k.k _ (omega (arith, c.requires, c.loop-k-test.true)) inv.0 inv.1.1
            c.cell_value-x.ensures c.store.ensures,
      ),
    )

pub returns : goal.returns
returns c =
    let inv = c.loop-k.invariant in
    copied_all _ _ _ c.loop-k.k _ (omega (arith, inv.1.0, c.loop-k-test.false)) inv.1.1
