use Rattle.std.proofs.Common.{sym, ◌∙◌, arith, rules}
use Rattle.pairs.proofs.Differing.{differing_start, differing_stop, differing_next, differing_end}
use Rattle.pairs.proofs.places.Tables.differ.Goals as goal

pub loop-k-init : goal.loop-k-init
loop-k-init c = differing_start _ _ _ (search rules)

pub returns-then-same : goal.returns-then-same
returns-then-same c =
    differing_stop _ _ _ _ c.loop-k.invariant (omega arith) _ _ c.read-a.ensures c.read-b.ensures
    (sym c.same.ensures ∙ c.if-same.true)

pub loop-k-preserved : goal.loop-k-preserved
loop-k-preserved c =
    differing_next _ _ _ _ c.loop-k.invariant (omega arith) _ _ c.read-a.ensures c.read-b.ensures
    c.requires (sym c.same.ensures ∙ c.if-same.false)

pub returns : goal.returns
returns c = differing_end _ _ _ _ c.loop-k.invariant (omega arith)
