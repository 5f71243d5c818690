-- What `strata` promises, by the settings that the state holds, of its answer as a number.
use Rattle.std.proofs.Common.{arith}
use Rattle.refusal.proofs.Numbers.{answered}
use Rattle.strata.proofs.Small.{answer_small}
use Rattle.rcds.proofs.Settings.{estimated_by}
use Rattle.rcds.proofs.rcds_strata_estimate.Goals as goal

pub returns : goal.returns
returns c =
    let small = answer_small _ _ _ _ _ c.estimate.ensures in
    rw (answered c.answer.ensures (omega (arith, small))) (estimated_by c.settings_of-settings.ensures c.estimate.ensures)
