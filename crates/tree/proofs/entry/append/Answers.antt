-- One entry is written: the law `wrote_entry`. A full table takes none: `wrote_none`.
use borrow.Author.Rules.{rules}
use Rattle.tree.specs.Tree.{node}
use Rattle.tree.specs.Places.{placed}
use Rattle.tree.proofs.Wrote.{wrote_entry, wrote_none}
use Rattle.tree.proofs.entry.append.Goals as goal

pub returns-then-used-eq-NODES : goal.returns-then-used-eq-NODES
returns-then-used-eq-NODES c = wrote_none _ _ _ c.if-used-eq-NODES.true

pub returns : goal.returns
returns c =
    let args = c.args in
    let here = placed (node args.level args.start args.bytes.now) args.parent args.place in
    wrote_entry _ _ _ here (search rules) (search rules) (rw c.block_id-id.ensures at c.put.ensures)
