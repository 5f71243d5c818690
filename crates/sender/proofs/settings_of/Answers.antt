-- Five rows read one by one: the law `settings_read`.
use Rattle.sender.proofs.Rows.{settings_read}
use Rattle.sender.proofs.settings_of.Goals as goal

pub returns : goal.returns
returns c = settings_read _ _ _ _ _ _ c.load.ensures c.load-2.ensures c.load-3.ensures c.load-4.ensures c.load-5.ensures
