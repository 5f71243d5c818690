-- Two lent tables: of another length they are left as they are, else they are cleared and taken into.
use Rattle.std.proofs.Common.{◌≡◌, ℕ, ◌-◌, Bool, List, length, replicate, ap, ◌∙◌, arith}
use lib.ListN.{length-replicate}
use Rattle.rows.specs.Rows.{clear_from}
use Rattle.single.specs.Peeling.{Taken, TakenInto}
use Rattle.single.specs.Steps.{Cleared}

pub cleared : (t t' : List ℕ) → length t ≡ 4608 → t' ≡ clear_from t 0 → Cleared t'
unfolding clear_from
cleared t t' long e = record { zeros = e ∙ ap (λ (n : ℕ). replicate n 0) {x = length t - 0} {y = 4608} (omega arith) }

-- Two tables of zeros are taken into.
pub from_zeros : {levels q : ℕ} {theirs own new gone : List ℕ} {empty : Bool}
    → TakenInto levels q theirs own (replicate 4608 0) new (replicate 4608 0) gone empty → Taken levels q theirs own new gone empty
from_zeros t = t.taken (length-replicate {A = ℕ} 4608 0) (length-replicate {A = ℕ} 4608 0)
