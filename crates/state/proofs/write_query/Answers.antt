-- Refused, or the query is written: the laws of `Asking`.
use Rattle.state.specs.declared.Outstanding.TheVariants.{Opening, Node}
use Rattle.state.proofs.Asking.{query_written, none_written}
use Rattle.state.proofs.write_query.Goals as goal

pub returns-in-None : goal.returns-in-None
returns-in-None c = none_written _ c.in-None.ensures

pub returns-in-Some-Opening : goal.returns-in-Some-Opening
returns-in-Some-Opening c = query_written _ Opening c.in-Some-Opening.ensures c.in-Some-Opening.field-0-is c.write_opening_query.ensures

pub returns-in-Some-Node : goal.returns-in-Some-Node
returns-in-Some-Node c = query_written _ (Node _ _) c.in-Some-Node.ensures c.in-Some-Node.field-0-is c.write_node_query.ensures
