-- No entry passed is one that is sought: the record `Searching`.
use Rattle.node_table.specs.Nodes.{sought}
use Rattle.node_table.proofs.Searching.{Searching}
use Rattle.node_table.proofs.search.first.Given as goal

abbrev pub invariant-loop-k : goal.invariant-loop-k
invariant-loop-k l = Searching l.nodes (sought l.size l.low l.high l.id) l.k
