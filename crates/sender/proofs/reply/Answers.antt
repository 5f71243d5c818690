-- The reply by the settings that the state holds.
use Rattle.sender.proofs.Replies.{replied_by}
use Rattle.sender.proofs.reply.Goals as goal

pub returns : goal.returns
returns c = replied_by c.settings_of-settings.ensures c.reply.ensures
