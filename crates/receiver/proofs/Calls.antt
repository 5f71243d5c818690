-- Each way out of writing a receiver's query is a case of the definition.
use mathlib.Core.List.{List, []}
use mathlib.Core.Path.{◌≡◌, refl, ◌∙◌}
use Prim.Native.Nat.{ℕ}
use borrow.Author.Tests.{eq-eqb, ne_eqb}
use Rattle.protocol.specs.Lent.{lent, refused_by}
use Rattle.protocol.specs.Receiver.{write_query}
use Rattle.state.specs.declared.Receiver.{Receiver}
use Rattle.state.specs.Receivers.{state_of}
use Rattle.state.specs.Asking.{Queried}
use Rattle.receiver.specs.Calls.{Asked}

-- Writing the query.
module _ (s : Receiver) (string nodes shingles cells before : List ℕ) {k : ℕ} (asked : k ≡ refused_by s.settings (lent string nodes shingles cells [])) where
  pub query_no : (k ≡ 0 → ⊥) → Asked s string nodes shingles cells before before k
  unfolding write_query state_of
  query_no fails =
      record {
        answer_is = λ output. rw (← asked, ne_eqb k 0 fails) refl;
        buffer_is = λ output. rw (← asked, ne_eqb k 0 fails) refl;
      }

  pub query_yes : {after : List ℕ} {r : ℕ} → k ≡ 0 → Queried s before after r → Asked s string nodes shingles cells before after r
  unfolding write_query state_of
  query_yes z q =
      record {
        answer_is = λ output. q.answer_is ∙ rw (← asked, eq-eqb k 0 z) refl;
        buffer_is = λ output. q.buffer_is ∙ rw (← asked, eq-eqb k 0 z) refl;
      }
