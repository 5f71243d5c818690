-- Each field is its row, or all are zero: the laws of `Loading`.
use Rattle.state_bytes.proofs.Loading.{held_none, held_all}
use Rattle.state_bytes.proofs.load.Goals as goal

pub returns-then-bytes-lt-SIZE : goal.returns-then-bytes-lt-SIZE
returns-then-bytes-lt-SIZE c = held_none _ c.if-bytes-lt-SIZE.true c.initial.ensures.whole

pub returns : goal.returns
returns c =
    held_all _ c.if-bytes-lt-SIZE.false c.load_settings-settings.ensures c.load-session.ensures c.load-phase.ensures
    c.load-size.ensures c.load-root.ensures c.load-built.ensures c.load-taken.ensures c.load-waiting.ensures c.load_places-pile.ensures
