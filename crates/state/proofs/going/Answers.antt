-- The places above the top are cleared, and the struct is then the one that the state is kept in.
use borrow.Author.Rules.{rules}
use Rattle.state.proofs.Keeping.{goes_on}
use Rattle.state.proofs.going.Goals as goal

pub returns : goal.returns
returns c = goes_on _ _ (search rules) c.clear_above-cleared.ensures
