use mathlib.Core.Path.{sym, ◌∙◌}
use native.Mathlib.Omega.{arith}
use borrow.Author.Rules.{rules}
use Rattle.pairs.proofs.Reading.{here}
use Rattle.opening.proofs.Keeping.{counting_start, counting_gone, counting_kept, counting_end}
use Rattle.opening.proofs.list.count.Goals as goal
use Rattle.opening.proofs.list.count.Goals.{then-not-contains, else-not-contains}

pub loop-k-init : goal.loop-k-init
loop-k-init c = counting_start _ _ _ (search rules)

pub loop-k-preserved : goal.loop-k-preserved
loop-k-preserved c =
    let inv = c.loop-k.invariant in
    let first = here _ _ _ c.shingle_at-s.ensures (omega (arith, inv.size, c.loop-k-test.true)) in
    elim c.if-not-contains.branch [
      | then-not-contains w ↦
          rw w.found-is (counting_kept _ _ _ _ _ inv c.loop-k-test.true _ first (sym c.contains.ensures ∙ w.if-not-contains.true))
      | else-not-contains w ↦
          rw w.found-is (counting_gone _ _ _ _ _ inv c.loop-k-test.true _ first (sym c.contains.ensures ∙ w.if-not-contains.false))
    ]

pub returns : goal.returns
returns c = counting_end _ _ _ _ _ c.loop-k.invariant c.loop-k-test.false
