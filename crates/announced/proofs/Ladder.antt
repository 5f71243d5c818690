-- The ways out of judging are cases of the questions in their order: 12 or 13 refuses, or the opening's cells are asked.
use Rattle.std.proofs.Common.{Bool, true, false, List, ◌≡◌, refl, sym, ap, ◌∙◌, ℕ, ◌<◌, arith, Result, Ok, Err}
use Rattle.refusal.specs.declared.Refusal.{Refusal}
use Rattle.tree.specs.declared.Settings.{Settings}
use Rattle.tree.specs.Questions.{ask}
use Rattle.sketch.specs.Opening.{Signed, positives, negatives}
use Rattle.single.specs.Peeling.{list_table}
use Rattle.opening.specs.declared.Opening.{Opening}
use Rattle.opening.specs.Deciding.{open_refusal, taken_after, Decided, Decides}
use Rattle.announced.specs.Cells.{cell_table}
use Rattle.announced.specs.Judging.{same_settings, length_fits, announced_refusal, announced_taken, Judged, Judges}

-- The first of two questions with a no is the first of all.
first_of : (a b : Bool) (x n : ℕ) → 0 < n → n ≡ ask a 12 (ask b 13 0) → n ≡ ask a 12 (ask b 13 x)
unfolding ask
first_of true true x n more is = absurd (omega arith)
first_of true false x n more is = is
first_of false b x n more is = is

-- And where none of the two has one, both have a yes.
pub both_yes : (a b : Bool) → 0 ≡ ask a 12 (ask b 13 0) → (a ≡ true) × (b ≡ true)
unfolding ask
both_yes true true is = (refl, refl)
both_yes true false is = absurd (omega arith)
both_yes false b is = absurd (omega arith)

module _ (σ : Settings) (rule : ℕ) (τ : Settings) (size room : ℕ) (message cells shingles : List ℕ) where
  abbrev equal : Bool
  equal = same_settings σ rule τ.window τ.fan_out τ.levels τ.nominal τ.width

  abbrev refusal : ℕ
  refusal = announced_refusal σ rule τ.window τ.fan_out τ.levels τ.nominal τ.width size room message cells shingles

  abbrev theirs : List ℕ
  theirs = cell_table message τ.width

  pub other_settings : equal ≡ false → 12 ≡ refusal
  unfolding announced_refusal ask
  other_settings other = rw other refl

  pub too_long : equal ≡ true → length_fits size room ≡ false → 13 ≡ refusal
  unfolding announced_refusal ask
  too_long same long = rw (same, long) refl

  pub early_no : (n : ℕ) → 0 < n → n ≡ ask equal 12 (ask (length_fits size room) 13 0) → n ≡ refusal
  unfolding announced_refusal
  early_no n more is = first_of equal (length_fits size room) _ n more is

  module _ (same : equal ≡ true) (fits : length_fits size room ≡ true) where
    refused_later : refusal ≡ open_refusal σ.levels σ.width theirs cells shingles
    unfolding announced_refusal ask
    refused_later = rw (same, fits) refl

    taken_later : announced_taken σ rule τ.window τ.fan_out τ.levels τ.nominal τ.width size room message cells shingles
        ≡ taken_after σ.levels σ.width theirs cells shingles
    unfolding announced_taken
    taken_later = rw (same, fits) refl

    judged : (r : ℕ) (new gone : List ℕ) → Decided σ.levels σ.width theirs cells shingles r new gone
        → Judged σ rule τ.window τ.fan_out τ.levels τ.nominal τ.width size room message cells shingles r new gone
    judged r new gone d =
        record {
          answer = d.answer ∙ sym refused_later;
          new_bytes = d.new_bytes ∙ ap (λ (zs : List Signed). list_table 4608 (positives zs)) (sym taken_later);
          gone_bytes = d.gone_bytes ∙ ap (λ (zs : List Signed). list_table 4608 (negatives zs)) (sym taken_later);
          decided = λ e. d;
        }

    pub judged_by : (table : List ℕ) → table ≡ theirs → (r : Result Opening Refusal) → Decides σ.levels σ.width table cells shingles r
        → Judges σ rule τ size room message cells shingles r
    judged_by table is (Ok opening) d = judged 0 opening.new opening.gone (rw is at d)
    judged_by table is (Err question) d = rw is at d ∙ sym refused_later
