-- Document 02, request 3, of the calls: two ends that were set up build their strata, and one of them estimates.
use Rattle.std.specs.Prelude.{List, [], ◌≡◌, ℕ, ◌+◌, ◌^◌, ◌≤◌, ◌<◌, length}
use Rattle.tree.specs.declared.Settings.{Settings}
use Rattle.shingle.specs.Table.{shingles_in}
use Rattle.sketch.specs.Opening.{true_difference}
use Rattle.setup.specs.Tables.{shingles_of_string}
use Rattle.protocol.specs.Lent.{lent}
use Rattle.sender.specs.State.{settings_in, SenderSetUp}
use Rattle.held.specs.Held.{HeldSetUp}
use Rattle.strata.specs.Calls.{Built, Estimated}
use Rattle.strata.specs.Laws.{OpensToDifference}

-- An end as its accepted setup left it, as far as strata go: its state holds the settings, and its shingle table the string's list.
pub record Stands (σ : Settings) (string shingles state : List ℕ) : Type 0 where
  pub settings : settings_in state ≡ σ
  pub list : shingles_in shingles ≡ shingles_of_string σ string

-- A sender's setup leaves it so, and a receiver's does: the two calls take the state of either.
abbrev pub EitherStands : Type 0
EitherStands =
    (σ : Settings) (string nodes nodes' shingles shingles' cells cells' state state' : List ℕ) (r : ℕ) → 2 ^ 32 ≤ r
    → (SenderSetUp σ string nodes nodes' shingles shingles' cells cells' state state' r → Stands σ string shingles' state')
    × ((session : ℕ) → HeldSetUp σ session string nodes nodes' shingles shingles' cells cells' state state' r → Stands σ string shingles' state')

-- Both ends have built their strata, each with the answer 0, and the one with the own string has estimated from both with an answer of a yes.
pub record EstimatedBetween (σ τ : Settings) (string own : List ℕ) (k : ℕ) : Type 0 where
  pub nodes : List ℕ
  pub shingles : List ℕ
  pub cells : List ℕ
  pub state : List ℕ
  pub strata : List ℕ
  pub strata' : List ℕ
  pub sender : Stands σ string shingles state
  pub built : Built (settings_in state) (lent string nodes shingles cells []) strata strata' 0
  pub own_nodes : List ℕ
  pub own_shingles : List ℕ
  pub own_cells : List ℕ
  pub own_state : List ℕ
  pub own_strata : List ℕ
  pub own_strata' : List ℕ
  pub receiver : Stands τ own own_shingles own_state
  pub own_built : Built (settings_in own_state) (lent own own_nodes own_shingles own_cells []) own_strata own_strata' 0
  pub estimated : Estimated (settings_in own_state) (lent own own_nodes own_shingles own_cells []) strata' own_strata' k
  pub accepted : 2 ^ 32 ≤ k

-- Strings with equal shingle lists are answered 0, and where every stratum opens to its true difference the answer is the number of shingles in
-- which the two strings differ.
pub record EstimatesOfCalls : Type 0 where
  pub equal : (σ τ : Settings) (string own : List ℕ) (k : ℕ) → EstimatedBetween σ τ string own k
      → shingles_of_string σ string ≡ shingles_of_string τ own → k ≡ 2 ^ 32
  pub exact : (σ τ : Settings) (string own : List ℕ) (k : ℕ) → EstimatedBetween σ τ string own k
      → ((i : ℕ) → i < 16 → OpensToDifference τ.levels i (shingles_of_string σ string) (shingles_of_string τ own))
      → k ≡ 2 ^ 32 + length (true_difference (shingles_of_string σ string) (shingles_of_string τ own))
