-- A row is loaded, or there is no such entry.
use Rattle.node_table.proofs.Entries.{loaded_id, loaded_extent, id_nowhere, extent_nowhere}
use Rattle.node_table.proofs.row.Goals as goal

pub returns-then-nodes-k : goal.returns-then-nodes-k
returns-then-nodes-k c =
    record {
      id = λ _. id_nowhere _ _ c.if-nodes-k.true;
      extent = λ _. extent_nowhere _ _ c.if-nodes-k.true;
    }

pub returns : goal.returns
returns c =
    record {
      id = loaded_id _ _ _ _ c.if-nodes-k.false c.load.ensures;
      extent = loaded_extent _ _ _ _ c.load.ensures;
    }
