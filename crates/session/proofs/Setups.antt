-- A session ends by the sender's refusal, by the receiver's, or with its rounds.
use mathlib.Core.Bool.{true}
use mathlib.Core.List.{List, []}
use mathlib.Core.Path.{◌≡◌, refl, ap, subst, ◌∙◌}
use Prim.Native.Nat.{ℕ, ◌+◌, ◌^◌, ◌≤◌, ◌<◌}
use borrow.Author.Tests.{eq-eqb, ne_eqb}
use Rattle.tree.specs.declared.Settings.{Settings}
use Rattle.setup.specs.Questions.{setup_answer}
use Rattle.setup.specs.Tables.{SetUp}
use Rattle.setup.proofs.Accepted.{yes_answer, no_answer}
use Rattle.protocol.specs.Lent.{Lent, lent}
use Rattle.protocol.specs.State.{initial}
use native.Mathlib.Omega.{arith}
use Rattle.refusal.specs.declared.Refusal.{Refusal}
use Rattle.refusal.specs.Answer.{number_of}
use Rattle.refusal.proofs.Numbers.{number_small}
use Rattle.state.specs.Receivers.{state_of}
use Rattle.state.proofs.Keeping.{starts}
use Rattle.receiver.specs.declared.Ready.{Ready}
use Rattle.receiver.specs.Calls.{Starts}
use Rattle.session.specs.Session.{standing, rounds, refused_at, filled, Ending, end_of, session_between}
use Rattle.session.specs.Calls.{Ends, ExchangedAll, Ran}

-- One end's setup.
module _ {σ : Settings} {string nodes nodes' shingles shingles' cells cells' : List ℕ} {r : ℕ}
    (made : SetUp σ string true nodes nodes' shingles shingles' cells cells' r) (output : List ℕ) where
  filled_is : lent string nodes' shingles' cells' output ≡ filled σ (lent string nodes shingles cells output)
  unfolding filled refused_at
  filled_is = rw (made.node_table, made.shingle_table, made.cell_table) refl

  refused_is : r < 2 ^ 32 → r ≡ refused_at σ (lent string nodes shingles cells output)
  unfolding refused_at setup_answer
  refused_is low = made.answer ∙ rw (ne_eqb _ 0 (no_answer _ _ _ _ _ _ _ _ _ _ made low)) refl

  refused_some : r < 2 ^ 32 → refused_at σ (lent string nodes shingles cells output) ≡ 0 → ⊥
  unfolding refused_at
  refused_some low = no_answer _ _ _ _ _ _ _ _ _ _ made low

  refused_none : 2 ^ 32 ≤ r → refused_at σ (lent string nodes shingles cells output) ≡ 0
  unfolding refused_at
  refused_none high = yes_answer _ _ _ _ _ _ _ _ _ _ made high

-- The state of a new session.
new_state : {σ : Settings} {n : ℕ} {string nodes nodes' shingles shingles' cells cells' : List ℕ} {ready : Ready}
    → Starts σ n string nodes nodes' shingles shingles' cells cells' ready → state_of ready.state ≡ initial σ n
new_state {σ = σ} {n = n} made = ap state_of made.state_is ∙ starts σ n

ending_by : {end all : Ending} {ours : Lent} {buffer : List ℕ} {r : ℕ} → end ≡ all → Ends end ours buffer r → Ends all ours buffer r
ending_by {ours = ours} {buffer = buffer} {r = r} e ends = subst (λ (x : Ending). Ends x ours buffer r) e ends

module _ (σ : Settings) (n : ℕ) (string nodes nodes' shingles shingles' cells cells' buffer : List ℕ) where
  pub sender_refused : (question : Refusal) → SetUp σ string true nodes nodes' shingles shingles' cells cells' (number_of question) → {ours : Lent}
      → Ran σ n (lent string nodes shingles cells []) (lent string nodes' shingles' cells' []) ours ours buffer buffer (number_of question)
  unfolding session_between
  sender_refused question sender =
      let low = number_small question in
      record {
        sender = filled_is sender [];
        receiver = rw (ne_eqb _ 0 (refused_some sender [] low)) (record { answer = refused_is sender [] low; memory = refl; buffer_is = refl });
      }

  module _ (count : ℕ) (sender : SetUp σ string true nodes nodes' shingles shingles' cells cells' (2 ^ 32 + count))
      (own own_nodes own_nodes' own_shingles own_shingles' own_cells own_cells' output : List ℕ) where
    ready_sender : refused_at σ (lent string nodes shingles cells []) ≡ 0
    ready_sender = refused_none sender [] (omega arith)

    pub receiver_refused : (question : Refusal) → SetUp σ own true own_nodes own_nodes' own_shingles own_shingles' own_cells own_cells' (number_of question)
        → Ran σ n (lent string nodes shingles cells []) (lent string nodes' shingles' cells' []) (lent own own_nodes own_shingles own_cells output)
        (lent own own_nodes' own_shingles' own_cells' output) buffer buffer (number_of question)
    unfolding session_between
    receiver_refused question made =
        let low = number_small question in
        record {
          sender = filled_is sender [];
          receiver = rw (eq-eqb _ 0 ready_sender, ne_eqb _ 0 (refused_some made output low))
              (record { answer = refused_is made output low; memory = filled_is made output; buffer_is = refl });
        }

    pub all_exchanged : {ready : Ready} → Starts σ n own own_nodes own_nodes' own_shingles own_shingles' own_cells own_cells' ready
        → {ours' : Lent} {buffer' : List ℕ} {k : ℕ}
        → ExchangedAll σ ready.state (lent string nodes' shingles' cells' []) (lent own own_nodes' own_shingles' own_cells' output) ours' buffer buffer' k
        → Ran σ n (lent string nodes shingles cells []) (lent string nodes' shingles' cells' []) (lent own own_nodes own_shingles own_cells output)
        ours' buffer buffer' k
    unfolding session_between
    all_exchanged {ready = ready} made exchanged =
        let is : end_of (rounds 4097 σ (lent string nodes' shingles' cells' [])
        (standing 0 (state_of ready.state) (lent own own_nodes' own_shingles' own_cells' output) buffer))
        ≡ session_between 4097 σ n (lent string nodes shingles cells []) (lent own own_nodes own_shingles own_cells output) buffer =
        rw (
          eq-eqb _ 0 ready_sender,
          eq-eqb _ 0 (refused_none made.tables output (omega arith)),
          new_state made,
          filled_is sender [],
          filled_is made.tables output,
        ) refl in
        record { sender = filled_is sender []; receiver = ending_by is exchanged.ends }
