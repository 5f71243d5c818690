-- What the search of the node table found is the block of the definition, or there is none.
use mathlib.Core.Path.{sym, ◌∙◌}
use Rattle.copying.proofs.Finding.{nowhere, there_it_is}
use Rattle.copying.proofs.find.Goals as goal

pub returns-then-node_id-eq0 : goal.returns-then-node_id-eq0
returns-then-node_id-eq0 c = nowhere _ _ _ _ c.find-k.ensures (sym c.node_id.ensures ∙ c.if-node_id-eq0.true)

pub returns : goal.returns
returns c =
    there_it_is _ _ _ _ c.find-k.ensures (λ z. c.if-node_id-eq0.false (c.node_id.ensures ∙ z)) _ _ c.node_start-start.ensures
    c.node_length-size.ensures
