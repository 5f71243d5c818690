-- Each way out of a call is a case of its promise.
use mathlib.Core.Bool.{Bool, true, false, ◌&&◌, false≢true}
use mathlib.Core.List.{List, ◌++◌}
use mathlib.Core.Path.{◌≡◌, refl, sym, ap, subst, ◌∙◌}
use Prim.Native.Nat.{ℕ, ◌+◌, ◌^◌, ◌≤◌, ◌<◌}
use native.Mathlib.Nat.{suc-ne-zero}
use native.Mathlib.Omega.{arith}
use native.Mathlib.Decide.{dec_lt}
use borrow.Author.Tests.{eq-eqb, ne_eqb, lt-leb, le-leb}
use lib.Dec.{leb}
use lib.ListN.{length, drop}
use Rattle.tree.specs.declared.Settings.{Settings}
use Rattle.tree.specs.Questions.{ask, within, refusal}
use Rattle.refusal.specs.declared.Refusal.{Refusal}
use Rattle.refusal.specs.Answer.{number_of}
use Rattle.refusal.proofs.Numbers.{number_small}
use Rattle.sketch.specs.Sums.{row_bytes}
use Rattle.setup.specs.Questions.{tables_fit, lent_refusal}
use Rattle.setup.specs.Tables.{SetUp}
use Rattle.setup.proofs.Questions.{refused_settings, asked, lent_small}
use Rattle.setup.proofs.Outcome.{refused}
use Rattle.setup.proofs.Accepted.{yes_answer, no_answer}
use Rattle.protocol.specs.Lent.{lent}
use Rattle.protocol.specs.State.{initial}
use Rattle.protocol.specs.Receiver.{Result, number_of as answer_number, unchanged, take_message}
use Rattle.state.specs.declared.Receiver.{Receiver}
use Rattle.state.specs.declared.Taken.{Taken}
use Rattle.state.specs.Receivers.{state_of, receiver_of, progress_number}
use Rattle.state.proofs.Keeping.{starts}
use Rattle.state_bytes.specs.Bytes.{state_in, state_rows, Stores}
use Rattle.taking.specs.Taking.{unmoved, struct_after, Takes}
use Rattle.receiver.specs.declared.Ready.{Ready}
use Rattle.receiver.specs.Calls.{Starts, Asked}
use Rattle.held.specs.Held.{decode, bytes_after, HeldSetUp, state_after, HeldTakes}

-- A state of fewer than 2,144 bytes is refused by 1.
short_refused : (state string nodes shingles cells message output : List ℕ) → length state < 2144
    → take_message (decode state) (lent string nodes shingles cells output) message ≡ unchanged 1 (decode state) (lent string nodes shingles cells output)
unfolding take_message state_in state_of receiver_of initial lent_refusal refusal ask
short_refused state string nodes shingles cells message output h = rw (lt-leb 2144 (length state) h) refl

-- What was loaded is the state that the bytes hold.
pub asked_held : {s held : Receiver} {string nodes shingles cells before after : List ℕ} {r : ℕ} → s ≡ held
    → Asked s string nodes shingles cells before after r → Asked held string nodes shingles cells before after r
asked_held {string = string} {nodes = nodes} {shingles = shingles} {cells = cells} {before = before} {after = after} {r = r} e a =
    subst (λ (x : Receiver). Asked x string nodes shingles cells before after r) e a

pub takes_held : {s held : Receiver} {string nodes shingles shingles' cells message output output' : List ℕ} {t : Taken} → s ≡ held
    → Takes s string nodes shingles shingles' cells message output output' t → Takes held string nodes shingles shingles' cells message output output' t
takes_held {string = string} {nodes = nodes} {shingles = shingles} {shingles' = shingles'} {cells = cells} {message = message} {output = output} {output' = output'} {t = t} e a =
    subst (λ (x : Receiver). Takes x string nodes shingles shingles' cells message output output' t) e a

module _ {state string nodes shingles shingles' cells message output output' : List ℕ} {t : Taken}
    (took : Takes (state_in state) string nodes shingles shingles' cells message output output' t) where
  -- A no at 1 to 11.
  pub held_kept : within 1 11 (progress_number t.answer) ≡ true → HeldTakes state state string nodes shingles shingles' cells message output output' (progress_number t.answer)
  unfolding state_after struct_after
  held_kept e =
      let R = take_message (decode state) (lent string nodes shingles cells output) message in
      let is : unmoved R ≡ true = ap (within 1 11) (sym took.gives.answer) ∙ e in
      let same : t.state ≡ state_in state = took.gives.whole ∙ rw is refl in
      record {
        leaves = record {
          answer = took.gives.answer;
          bytes_are = rw is refl;
          state_is = ap state_of (sym same) ∙ took.gives.state;
          memory = took.gives.memory;
        };
      }

  -- Else the state after the call is stored; the bytes are long enough, since fewer are refused by 1.
  pub held_stored : {state' : List ℕ} → within 1 11 (progress_number t.answer) ≡ false → Stores state state' t.state
      → HeldTakes state state' string nodes shingles shingles' cells message output output' (progress_number t.answer)
  unfolding unchanged answer_number state_after struct_after
  held_stored e stored =
      let R = take_message (decode state) (lent string nodes shingles cells output) message in
      let is : unmoved R ≡ false = ap (within 1 11) (sym took.gives.answer) ∙ e in
      let new : t.state ≡ receiver_of R.state = took.gives.whole ∙ rw is refl in
      elim (dec_lt (length state) 2144) [
        | yes short ↦
            let one : progress_number t.answer ≡ 1 =
            took.gives.answer ∙ ap (λ (S : Result). answer_number S.answer) (short_refused state string nodes shingles cells message output short) in
            absurd (false≢true (sym e ∙ ap (within 1 11) one))
        | no enough ↦
            let long : 2144 ≤ length state = omega (arith, enough) in
            record {
              leaves = record {
                answer = took.gives.answer;
                bytes_are = stored.bytes long ∙ (ap (λ (s : Receiver). row_bytes (state_rows s) ++ drop 2144 state) new ∙ rw is refl);
                state_is = ap state_of (stored.held long) ∙ took.gives.state;
                memory = took.gives.memory;
              };
            }
      ]

module _ (σ : Settings) (session : ℕ) (string nodes shingles cells state : List ℕ) where
  abbrev room : Bool
  room = leb 2144 (length state)

  abbrev fit : Bool
  fit = room && tables_fit σ.width (length nodes) (length shingles) (length cells)

  -- A no leaves the state as it is.
  no_state : (nodes' shingles' cells' : List ℕ) (r : ℕ) → SetUp σ string room nodes nodes' shingles shingles' cells cells' r → r < 2 ^ 32
      → HeldSetUp σ session string nodes nodes' shingles shingles' cells cells' state state r
  unfolding bytes_after
  no_state nodes' shingles' cells' r tables low =
      let fails = no_answer _ _ _ _ _ _ _ _ _ _ tables low in
      record { tables = tables; state_is = rw (ne_eqb _ 0 fails); held = λ z. absurd (fails z) }

  -- A no at 1 to 6, or at 7 for the state.
  nothing_made : (k : ℕ) → k ≡ lent_refusal σ (length string) fit → (k ≡ 0 → ⊥)
      → HeldSetUp σ session string nodes nodes shingles shingles cells cells state state k
  nothing_made k e fails =
      no_state nodes shingles cells k (refused σ string nodes shingles cells room k e fails) (omega (arith, e, lent_small σ (length string) fit))

  module _ (r : ℕ) (is : r ≡ refusal σ (length string)) where
    pub refused_early : (r ≡ 0 → ⊥) → HeldSetUp σ session string nodes nodes shingles shingles cells cells state state r
    refused_early fails = nothing_made r (refused_settings σ (length string) r is fit fails) fails

    pub short_state : r ≡ 0 → length state < 2144 → HeldSetUp σ session string nodes nodes shingles shingles cells cells state state 7
    unfolding ask
    short_state passes short =
        nothing_made 7 (sym (asked σ (length string) r is passes fit false (rw (lt-leb 2144 (length state) short)))) (suc-ne-zero 6)

  -- A state that is long enough, and the tables as they were filled.
  module _ (long : 2144 ≤ length state) (nodes' shingles' cells' : List ℕ) where
    tables : (r : ℕ) → SetUp σ string true nodes nodes' shingles shingles' cells cells' r → SetUp σ string room nodes nodes' shingles shingles' cells cells' r
    tables r made = rw (le-leb 2144 (length state) long) made

    pub refused_tables : (question : Refusal) → SetUp σ string true nodes nodes' shingles shingles' cells cells' (number_of question)
        → HeldSetUp σ session string nodes nodes' shingles shingles' cells cells' state state (number_of question)
    refused_tables question made = no_state nodes' shingles' cells' (number_of question) (tables _ made) (number_small question)

    pub state_made : (ready : Ready) → Starts σ session string nodes nodes' shingles shingles' cells cells' ready
        → (state' : List ℕ) → Stores state state' ready.state
        → HeldSetUp σ session string nodes nodes' shingles shingles' cells cells' state state' (2 ^ 32 + ready.nodes)
    unfolding bytes_after
    state_made ready made state' stored =
        let filled = tables _ made.tables in
        let yes-is = yes_answer _ _ _ _ _ _ _ _ _ _ filled (omega arith) in
        record {
          tables = filled;
          state_is = stored.bytes long
              ∙ (ap (λ (s : Receiver). row_bytes (state_rows s) ++ drop 2144 state) made.state_is ∙ rw (eq-eqb _ 0 yes-is) refl);
          held = λ z. ap state_of (stored.held long ∙ made.state_is) ∙ starts σ session;
        }
