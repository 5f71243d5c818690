-- No row that can follow a marked one of those passed is missed, and the row kept is missed.
use Rattle.std.proofs.Common.{◌≡◌, ℕ, ◌<◌, IfSome, get_or}
use Rattle.trail.specs.Search.{mark, Missed, Clear}
use Rattle.trail.proofs.reach.shut.Given as goal

abbrev pub invariant-loop-row : goal.invariant-loop-row
invariant-loop-row l = IfSome l.missed (λ j. (j < 32) × Missed l.counts l.marked j) × ((n : ℕ) → n < l.row → 0 < get_or l.counts n 0 → (mark l.marked n ≡ 0 → ⊥) → Clear l.table.previous l.counts l.marked (get_or l.table.own n 0) 32)
