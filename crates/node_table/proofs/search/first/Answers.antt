use Rattle.std.proofs.Common.{sym, ◌≡◌, ◌∙◌, ◌/◌, length, arith}
use Rattle.node_table.proofs.Searching.{search_start, search_zero, search_here, search_next, search_end}
use Rattle.node_table.proofs.search.first.Goals as goal

pub loop-k-init : goal.loop-k-init
loop-k-init c = search_start _ _

pub returns-then-node_id-eq0 : goal.returns-then-node_id-eq0
returns-then-node_id-eq0 c = search_zero _ _ _ c.loop-k.invariant (sym c.node_id.ensures ∙ c.if-node_id-eq0.true)

pub returns-then-matches : goal.returns-then-matches
returns-then-matches c =
    search_here _ _ _ c.loop-k.invariant
    (λ z. c.if-node_id-eq0.false (c.node_id.ensures ∙ z)) (sym c.matches.ensures ∙ c.if-matches.true)

pub loop-k-preserved : goal.loop-k-preserved
loop-k-preserved c =
    search_next _ _ _ c.loop-k.invariant
    (λ z. c.if-node_id-eq0.false (c.node_id.ensures ∙ z)) (sym c.matches.ensures ∙ c.if-matches.false)

pub returns : goal.returns
returns c = let k = c.loop-k.k in let e : k ≡ length c.args.nodes.now / 16 = omega arith in sym e ∙ search_end _ _ _ c.loop-k.invariant c.loop-k-test.false
