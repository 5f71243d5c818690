-- What the calls of an estimate answer, from what the two setups left: the laws of crate `strata`, of the strings' own lists.
use mathlib.Core.Bool.{Bool, true, false, cond, ◌&&◌}
use mathlib.Core.List.{List}
use mathlib.Core.Path.{◌≡◌, refl, sym, ap, ◌∙◌}
use Prim.Native.Nat.{ℕ, ◌+◌, ◌^◌, ◌≤◌, ◌<◌}
use native.Mathlib.Omega.{arith}
use lib.Dec.{eqb, leb}
use lib.ListN.{length}
use Rattle.rows.specs.Rows.{words_of}
use Rattle.tree.specs.declared.Settings.{Settings}
use Rattle.tree.proofs.Questions.{granted}
use Rattle.shingle.specs.Table.{shingles_in}
use Rattle.shingle.specs.Rising.{Rising}
use Rattle.shingle.proofs.Rising.{shingles_rise}
use Rattle.sketch.specs.Opening.{true_difference}
use Rattle.setup.specs.Questions.{tables_fit}
use Rattle.setup.specs.Tables.{shingles_of_string}
use Rattle.setup.proofs.Accepted.{yes_answer, lent_after_yes, shingles_read}
use Rattle.setup.proofs.Questions.{lent_small}
use Rattle.protocol.specs.Lent.{Lent}
use Rattle.protocol.specs.State.{State, initial}
use Rattle.state.specs.Receivers.{state_of, receiver_of, zeros}
use Rattle.state_bytes.specs.Bytes.{settings_from, state_from, state_in}
use Rattle.sender.specs.State.{settings_in}
use Rattle.sender.proofs.Accepted.{settings_kept}
use Rattle.held.specs.Held.{decode}
use Rattle.strata.specs.Strata.{strata_table, estimate_of}
use Rattle.strata.specs.Calls.{holds_strata, strata_refusal, Built, estimate_answer, Estimated}
use Rattle.strata.specs.Laws.{OpensToDifference}
use Rattle.strata.proofs.Exact.{estimate_equal, estimate_exact}
use Rattle.demand.specs.Estimating.{EitherStands, EstimatedBetween, EstimatesOfCalls}

-- A receiver's state begins with its settings: fewer than 2,144 bytes would hold a window of 0.
held_settings : (σ : Settings) (session : ℕ) (state : List ℕ) → 2 ≤ σ.window → decode state ≡ initial σ session → settings_in state ≡ σ
unfolding state_in state_from settings_from state_of receiver_of initial
held_settings σ session state low e = go (leb 2144 (length state)) refl e
  where
    go : (t : Bool) → leb 2144 (length state) ≡ t → state_of (cond t (state_from (words_of state)) (receiver_of zeros)) ≡ initial σ session
        → settings_in state ≡ σ
    go true f e = ap (λ (s : State). s.settings) e
    go false f e = absurd (omega (arith, ap (λ (s : State). s.settings.window) e))

pub either_stands : EitherStands
either_stands σ string nodes nodes' shingles shingles' cells cells' state state' r high = (
  (λ made.
      let accepted = yes_answer _ _ _ _ _ _ _ _ _ _ made.tables high in
      record {
        settings = settings_kept _ _ _ _ _ _ _ _ _ _ _ made accepted;
        list = shingles_read _ _ _ _ _ _ _ _ _ _ made.tables accepted;
      }),
  (λ session made.
      let accepted = yes_answer _ _ _ _ _ _ _ _ _ _ made.tables high in
      let bounds = (granted σ (length string) (lent_after_yes _ _ _ _ _ _ _ _ _ _ made.tables accepted).settings).0 in
      record {
        settings = held_settings σ session state' bounds.window_low (made.held accepted);
        list = shingles_read _ _ _ _ _ _ _ _ _ _ made.tables accepted;
      }),
)

-- An answer of 0 left the strata of the list, and one from 2^32 on is the estimate.
table_built : {σ : Settings} {m : Lent} {before after : List ℕ} → Built σ m before after 0 → after ≡ strata_table m.shingles before
table_built b = b.table ∙ rw (← b.answer)

answer_estimated : {σ : Settings} {m : Lent} {theirs own : List ℕ} {k : ℕ} → Estimated σ m theirs own k → 2 ^ 32 ≤ k
    → k ≡ 2 ^ 32 + estimate_of σ.levels theirs own (shingles_in m.shingles)
unfolding estimate_answer strata_refusal
answer_estimated {σ} {m} {theirs} {own} {k} e high = go (eqb refused 0) e.answer
  where
    refused : ℕ
    refused = strata_refusal σ m (holds_strata theirs && holds_strata own)

    go : (t : Bool) → k ≡ cond t (2 ^ 32 + estimate_of σ.levels theirs own (shingles_in m.shingles)) refused
        → k ≡ 2 ^ 32 + estimate_of σ.levels theirs own (shingles_in m.shingles)
    go true f = f
    go false f =
        let fit = (holds_strata theirs && holds_strata own) && tables_fit σ.width (length m.nodes) (length m.shingles) (length m.cells) in
        absurd (omega (arith, lent_small σ (length m.string) fit))

string_rises : (σ : Settings) (string : List ℕ) → Rising (shingles_of_string σ string)
unfolding shingles_of_string
string_rises σ string = shingles_rise _

module _ (σ τ : Settings) (string own : List ℕ) (k : ℕ) (b : EstimatedBetween σ τ string own k) where
  estimate_is : k ≡ 2 ^ 32 + estimate_of τ.levels (strata_table b.shingles b.strata) (strata_table b.own_shingles b.own_strata)
      (shingles_in b.own_shingles)
  estimate_is =
      answer_estimated b.estimated b.accepted
      ∙ λ i. 2 ^ 32 + estimate_of (b.receiver.settings i).levels (table_built b.built i) (table_built b.own_built i) (shingles_in b.own_shingles)

  equal_strings : shingles_of_string σ string ≡ shingles_of_string τ own → k ≡ 2 ^ 32
  equal_strings e =
      estimate_is
      ∙ omega (
        arith,
        estimate_equal τ.levels b.shingles b.own_shingles b.strata b.own_strata (shingles_in b.own_shingles)
            (b.sender.list ∙ (e ∙ sym b.receiver.list)),
      )

  exact_strings : ((i : ℕ) → i < 16 → OpensToDifference τ.levels i (shingles_of_string σ string) (shingles_of_string τ own))
      → k ≡ 2 ^ 32 + length (true_difference (shingles_of_string σ string) (shingles_of_string τ own))
  exact_strings opens =
      estimate_is
      ∙ (ap (λ (n : ℕ). 2 ^ 32 + n) (
      estimate_exact τ.levels b.shingles b.own_shingles b.strata b.own_strata
      (rw b.sender.list (string_rises σ string)) (rw b.receiver.list (string_rises τ own))
      (λ i h. rw (b.sender.list, b.receiver.list) (opens i h)))
      ∙ λ i. 2 ^ 32 + length (true_difference (b.sender.list i) (b.receiver.list i)))

pub estimates_of_calls : EstimatesOfCalls
estimates_of_calls = record { equal = equal_strings; exact = exact_strings }
