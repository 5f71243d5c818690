-- Each way out of setting a sender up is a case of the definition.
use mathlib.Core.Bool.{Bool, true, false, ◌&&◌}
use mathlib.Core.List.{List, ◌++◌}
use mathlib.Core.Path.{◌≡◌, sym, ◌∙◌}
use Prim.Native.Nat.{ℕ, ◌^◌, ◌≤◌, ◌<◌}
use native.Mathlib.Nat.{suc-ne-zero}
use native.Mathlib.Omega.{arith}
use borrow.Author.Tests.{eq-eqb, ne_eqb, le-leb, lt-leb}
use lib.Dec.{leb}
use lib.ListN.{length, drop}
use Rattle.tree.specs.declared.Settings.{Settings}
use Rattle.tree.specs.Questions.{ask, refusal}
use Rattle.sketch.specs.Sums.{row_bytes}
use Rattle.setup.specs.Questions.{tables_fit, lent_refusal}
use Rattle.setup.specs.Tables.{SetUp}
use Rattle.setup.proofs.Questions.{refused_settings, asked, lent_small}
use Rattle.setup.proofs.Outcome.{refused}
use Rattle.setup.proofs.Accepted.{yes_answer, no_answer}
use Rattle.sender.specs.State.{settings_rows, state_after, SenderSetUp}

module _ (σ : Settings) (string nodes shingles cells state : List ℕ) where
  abbrev room : Bool
  room = leb 40 (length state)

  abbrev fit : Bool
  fit = room && tables_fit σ.width (length nodes) (length shingles) (length cells)

  -- A no leaves the state as it is.
  no_state : (nodes' shingles' cells' : List ℕ) (r : ℕ) → SetUp σ string room nodes nodes' shingles shingles' cells cells' r → r < 2 ^ 32
      → SenderSetUp σ string nodes nodes' shingles shingles' cells cells' state state r
  unfolding state_after
  no_state nodes' shingles' cells' r tables low =
      record {
        tables = tables;
        state_is = rw (ne_eqb _ 0 (no_answer _ _ _ _ _ _ _ _ _ _ tables low));
      }

  -- A no at 1 to 6, or at 7 for the state.
  unchanged : (k : ℕ) → k ≡ lent_refusal σ (length string) fit → (k ≡ 0 → ⊥)
      → SenderSetUp σ string nodes nodes shingles shingles cells cells state state k
  unchanged k e some =
      no_state nodes shingles cells k (refused σ string nodes shingles cells room k e some) (omega (arith, e, lent_small σ (length string) fit))

  module _ (r : ℕ) (is : r ≡ refusal σ (length string)) where
    pub refused_early : (r ≡ 0 → ⊥) → SenderSetUp σ string nodes nodes shingles shingles cells cells state state r
    refused_early some = unchanged r (refused_settings σ (length string) r is fit some) some

    pub short_state : r ≡ 0 → length state < 40 → SenderSetUp σ string nodes nodes shingles shingles cells cells state state 7
    unfolding ask
    short_state passes short =
        unchanged 7 (sym (asked σ (length string) r is passes fit false (rw (lt-leb 40 (length state) short)))) (suc-ne-zero 6)

  -- A state that is long enough, and the tables as they were filled.
  module _ (long : 40 ≤ length state) (nodes' shingles' cells' : List ℕ) (r : ℕ)
      (filled : SetUp σ string true nodes nodes' shingles shingles' cells cells' r) where
    tables : SetUp σ string room nodes nodes' shingles shingles' cells cells' r
    tables = rw (le-leb 40 (length state) long) filled

    pub refused_tables : r < 2 ^ 32 → SenderSetUp σ string nodes nodes' shingles shingles' cells cells' state state r
    refused_tables low = no_state nodes' shingles' cells' r tables low

    pub state_made : (state' : List ℕ) → 2 ^ 32 ≤ r → state' ≡ row_bytes (settings_rows σ) ++ drop 40 state
        → SenderSetUp σ string nodes nodes' shingles shingles' cells cells' state state' r
    unfolding state_after
    state_made state' high e =
        record {
          tables = tables;
          state_is = e ∙ rw (eq-eqb _ 0 (yes_answer _ _ _ _ _ _ _ _ _ _ tables high));
        }
