-- What `strata` promises, by the settings that the state holds.
use Rattle.std.proofs.Common.{refl}
use Rattle.rcds.proofs.Settings.{built_by}
use Rattle.rcds.proofs.rcds_strata_build.Goals as goal

pub returns-in-Ok : goal.returns-in-Ok
returns-in-Ok c = built_by c.settings_of-settings.ensures c.in-Ok.ensures

pub returns-in-Err : goal.returns-in-Err
returns-in-Err c = rw c.number.ensures (built_by c.settings_of-settings.ensures c.in-Err.ensures)
