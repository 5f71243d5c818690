-- A missed row that nothing marked leads to is in no trail (`shut_lost`).
use Rattle.std.proofs.Common.{rules, sym, ◌∙◌}
use Rattle.trail.proofs.Prune.{shut_lost}
use Rattle.trail.proofs.reach.lost.Goals as goal

pub returns-then-marked-unused : goal.returns-then-marked-unused
returns-then-marked-unused c = λ e. shut_lost _ _ _ _ (record { previous = search rules; own = search rules; count = search rules }) _ c.requires _ c.shut.ensures (sym c.is_some.ensures ∙ e)
