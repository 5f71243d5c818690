-- Each way out is a case of the definition.
use Rattle.node_table.proofs.Searching.{other_id, below, above, matching}
use Rattle.node_table.proofs.search.matches.Goals as goal
use Rattle.node_table.proofs.search.matches.Goals.{then-level-low-via-then-level-low, then-level-low-via-else-level-low+then-high-level}

pub returns-then-node_id-id : goal.returns-then-node_id-id
returns-then-node_id-id c = other_id _ _ _ _ _ _ _ c.node_id.ensures c.if-node_id-id.true

pub returns-then-level-low : goal.returns-then-level-low
returns-then-level-low c =
    elim c.then-level-low.branch [
      | then-level-low-via-then-level-low w ↦ below _ _ _ _ _ _ _ c.node_level-level.ensures w.if-level-low.true
      | then-level-low-via-else-level-low+then-high-level w ↦ above _ _ _ _ _ _ _ c.node_level-level.ensures w.if-high-level.true
    ]

pub returns : goal.returns
returns c =
    matching _ _ _ _ _ _ _ c.node_level-level.ensures _ _ c.node_id.ensures c.if-node_id-id.false
    c.if-level-low.false c.if-high-level.false c.lies_inside.ensures
