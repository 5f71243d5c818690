-- Five rows stored one after the other: the law `five_rows`.
use borrow.Author.Rules.{rules}
use Rattle.sender.proofs.Rows.{five_rows}
use Rattle.sender.proofs.state.write_settings.Goals as goal

pub returns : goal.returns
returns c =
    five_rows _ _ _ _ _ _ _ (search rules) c.store.ensures c.store-2.ensures c.store-3.ensures c.store-4.ensures
    c.store-5.ensures
