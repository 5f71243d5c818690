-- Eight bytes are one row written: the laws `stored` and `not_stored`.
use Rattle.std.proofs.Common.{◌∙◌, arith}
use Rattle.rows.proofs.Rows.{stored, not_stored, bytes_by_one}
use Rattle.rows.proofs.store.Goals as goal

pub returns-then-table-k : goal.returns-then-table-k
returns-then-table-k c = not_stored _ _ _ c.if-table-k.true

pub returns : goal.returns
returns c =
    stored c.args.table.now c.args.k (omega arith) c.args.x _ _ (omega arith) (omega arith)
    (c.copy_from_slice.ensures.after ∙ (c.to_be_bytes.ensures ∙ bytes_by_one c.args.x))
