-- The list that an accepted opening leaves is the sender's, where the sketch opens to the true difference.
use mathlib.Core.Bool.{true}
use mathlib.Core.List.{List}
use mathlib.Core.Path.{◌≡◌}
use Prim.Native.Nat.{ℕ}
use Rattle.tree.specs.declared.Settings.{Settings}
use Rattle.shingle.specs.Rising.{Rising}
use Rattle.shingle.proofs.PairOrder.{and_true}
use Rattle.shingle.proofs.Rising.{shingles_rise}
use Rattle.sketch.specs.Opening.{shingles_of, no_shingle_twice, all_zero, opens_to, new_list}
use Rattle.sketch.proofs.NewList.{new_list_lem}
use Rattle.sketch.proofs.Takings.{positives_once}
use Rattle.setup.specs.Tables.{shingles_of_string}
use Rattle.protocol.specs.Demand.{taken_between, OpensToDifference}

list_rises : (σ : Settings) (string : List ℕ) → Rising (shingles_of_string σ string)
unfolding shingles_of_string
list_rises σ string = shingles_rise _

module _ (σ : Settings) (own string : List ℕ) (d : OpensToDifference σ own string) where
  taken_once : no_shingle_twice (shingles_of (taken_between σ own string).taken) ≡ true
  unfolding opens_to
  taken_once =
      let zero = and_true (all_zero (taken_between σ own string).left) _ d.opens in
      (and_true (no_shingle_twice (shingles_of (taken_between σ own string).taken)) _ zero.1).0

  -- The list that the opening leaves is the sender's.
  pub new_is_theirs : new_list (shingles_of_string σ own) (taken_between σ own string).taken ≡ shingles_of_string σ string
  new_is_theirs =
      new_list_lem (taken_between σ own string).taken (list_rises σ string) (list_rises σ own)
      (record { positive = d.positive; negative = d.negative; once = positives_once _ taken_once })
