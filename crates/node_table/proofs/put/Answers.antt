-- Two rows stored are one entry: the law `put_two`.
use borrow.Author.Rules.{rules}
use Rattle.node_table.proofs.Entries.{put_two, put_nowhere}
use Rattle.node_table.proofs.put.Goals as goal

pub returns-then-nodes-k : goal.returns-then-nodes-k
returns-then-nodes-k c = put_nowhere _ _ _ (search rules)

pub returns : goal.returns
returns c = put_two _ _ _ _ _ _ (search rules) c.pack.ensures c.store.ensures.bytes c.store-2.ensures.bytes
