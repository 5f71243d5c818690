-- What building strata and estimating promise: document 02, request 3, "are calls of their own; only there question 7 also wants 192 cells for
-- each; only building writes them".
use Rattle.std.specs.Prelude.{Bool, cond, ◌&&◌, List, ◌≡◌, ℕ, ◌+◌, ◌^◌, leb, eqb, length}
use Rattle.tree.specs.declared.Settings.{Settings}
use Rattle.shingle.specs.Table.{shingles_in}
use Rattle.setup.specs.Questions.{tables_fit, lent_refusal}
use Rattle.protocol.specs.Lent.{Lent}
use Rattle.strata.specs.Strata.{strata_bytes, strata_table, estimate_of}

-- "192 cells for each"
abbrev pub holds_strata : List ℕ → Bool
holds_strata table = leb strata_bytes (length table)

-- 0, or the number of the first question that fails: "Every later call of either end first asks 1 to 7 again", and 7 asks `fit` too.
unfoldable pub strata_refusal : Settings → Lent → (fit : Bool) → ℕ
strata_refusal σ m fit =
    lent_refusal σ (length m.string) (fit && tables_fit σ.width (length m.nodes) (length m.shingles) (length m.cells))

-- Building: its answer, and every byte of the lent table.
pub record Built (σ : Settings) (m : Lent) (before after : List ℕ) (r : ℕ) : Type 0 where
  pub answer : r ≡ strata_refusal σ m (holds_strata before)
  pub table : after ≡ cond (eqb (strata_refusal σ m (holds_strata before)) 0) (strata_table m.shingles before) before

-- Estimating: 2^32 and the estimate, or the number of the question that fails. All that it is lent is lent for reading.
unfoldable pub estimate_answer : (refused estimate : ℕ) → ℕ
estimate_answer refused estimate = cond (eqb refused 0) (2 ^ 32 + estimate) refused

pub record Estimated (σ : Settings) (m : Lent) (theirs own : List ℕ) (r : ℕ) : Type 0 where
  pub answer : r ≡ estimate_answer (strata_refusal σ m (holds_strata theirs && holds_strata own)) (estimate_of σ.levels theirs own (shingles_in m.shingles))
