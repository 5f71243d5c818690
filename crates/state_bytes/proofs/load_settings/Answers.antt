-- Each setting is its row.
use Rattle.state_bytes.specs.Bytes.{settings_from}
use Rattle.state_bytes.proofs.load_settings.Goals as goal

pub returns : goal.returns
unfolding settings_from
returns c =
    λ j. record {
      window = c.load-window.ensures j;
      fan_out = c.load-fan_out.ensures j;
      levels = c.load-levels.ensures j;
      nominal = c.load-nominal.ensures j;
      width = c.load-width.ensures j;
    }
