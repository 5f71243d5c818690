-- None of the rows passed leaves the id.
use Rattle.std.proofs.Common.{◌≡◌, ◌≤◌, ℕ, ◌<◌, get_or}
use Rattle.trail.proofs.links.leaving.Given as goal

abbrev pub invariant-loop-row : goal.invariant-loop-row
invariant-loop-row l = (j : ℕ) → j < l.row → l.from ≤ j → j < 32 → get_or l.previous j 0 ≡ l.id → ⊥
