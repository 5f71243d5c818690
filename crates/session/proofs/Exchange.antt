-- Each way out of a round is a case of the definition.
use mathlib.Core.List.{List, []}
use mathlib.Core.Path.{◌≡◌, refl, sym, ap, ◌∙◌}
use Prim.Native.Nat.{ℕ, ◌+◌, ◌-◌, ◌^◌}
use native.Mathlib.Omega.{arith}
use Rattle.std.proofs.Common.{Err}
use Rattle.refusal.specs.declared.Refusal.{Refusal}
use Rattle.refusal.specs.Answer.{number_of}
use Rattle.refusal.proofs.Numbers.{number_small}
use borrow.Author.Tests.{lt-ltb, le-ltb}
use lib.ListN.{take, replicate}
use Rattle.tree.specs.declared.Settings.{Settings}
use Rattle.protocol.specs.Lent.{Lent, lent}
use Rattle.protocol.specs.Sender.{reply}
use Rattle.protocol.specs.Receiver.{take_message}
use Rattle.reply.specs.Reply.{Replied}
use Rattle.state.specs.declared.Receiver.{Receiver}
use Rattle.state.specs.declared.Taken.{Taken}
use Rattle.state.specs.Receivers.{state_of}
use Rattle.taking.specs.Taking.{Takes}
use Rattle.receiver.specs.Calls.{Asked}
use Rattle.session.specs.Session.{Standing, standing, after, taken, answered, round}
use Rattle.session.specs.Calls.{Stands, Exchanged}

abbrev refusing : Refusal → Receiver → Taken
refusing question state = record { answer = Err question; state = state }

-- Nothing is changed but the sender's buffer.
stopped : (now : Standing) (k : Refusal) (s : Receiver) (ours : Lent) (buffer : List ℕ) → now ≡ standing (number_of k) (state_of s) ours buffer
    → Stands now ours buffer (refusing k s)
stopped now k s ours buffer e =
    record {
      answer = sym (ap (λ (x : Standing). x.answer) e);
      state = sym (ap (λ (x : Standing). x.state) e);
      memory = sym (ap (λ (x : Standing). x.lent) e);
      buffer_is = sym (ap (λ (x : Standing). x.buffer) e);
    }

module _ (σ : Settings) (s : Receiver) (own own_nodes own_shingles own_cells buffer query output : List ℕ) where
  pub unasked : (question : Refusal) → Asked s own own_nodes own_shingles own_cells (replicate 24 0) query (number_of question) → {theirs : Lent}
      → Exchanged σ s theirs (lent own own_nodes own_shingles own_cells output) (lent own own_nodes own_shingles own_cells output) buffer buffer
      (refusing question s)
  unfolding round answered
  unasked question asks =
      record { stands = stopped _ question s _ buffer (rw (← asks.answer_is output, lt-ltb (number_of question) (2 ^ 32) (number_small question)) refl) }

  -- A query of so many bytes was written.
  module _ (size : ℕ) (asks : Asked s own own_nodes own_shingles own_cells (replicate 24 0) query (2 ^ 32 + size))
      (string nodes shingles cells buffer' : List ℕ) where
    answered_is : round σ (lent string nodes shingles cells []) (state_of s) (lent own own_nodes own_shingles own_cells output) buffer
        ≡ taken (state_of s) (lent own own_nodes own_shingles own_cells output)
        (reply σ (lent string nodes shingles cells []) (take size query) buffer)
    unfolding round answered
    answered_is =
        let less : 2 ^ 32 + size - 2 ^ 32 ≡ size = omega arith in
        rw (← asks.answer_is output, ← asks.buffer_is output, le-ltb (2 ^ 32 + size) (2 ^ 32) (omega arith), less) refl

    pub unanswered : (question : Refusal) → Replied σ string nodes shingles cells (take size query) buffer buffer' (number_of question)
        → Exchanged σ s (lent string nodes shingles cells []) (lent own own_nodes own_shingles own_cells output)
        (lent own own_nodes own_shingles own_cells output) buffer buffer' (refusing question s)
    unfolding taken
    unanswered question replies =
        record {
          stands = stopped _ question s _ buffer'
              (answered_is ∙ rw (← replies.answer_is, ← replies.buffer_is, lt-ltb (number_of question) (2 ^ 32) (number_small question)) refl);
        }

    -- A reply of so many bytes was written.
    module _ (count : ℕ) (replies : Replied σ string nodes shingles cells (take size query) buffer buffer' (2 ^ 32 + count)) where
      taken_is : round σ (lent string nodes shingles cells []) (state_of s) (lent own own_nodes own_shingles own_cells output) buffer
          ≡ after (take_message (state_of s) (lent own own_nodes own_shingles own_cells output) (take count buffer')) buffer'
      unfolding taken
      taken_is =
          let less : 2 ^ 32 + count - 2 ^ 32 ≡ count = omega arith in
          answered_is ∙ rw (← replies.answer_is, ← replies.buffer_is, le-ltb (2 ^ 32 + count) (2 ^ 32) (omega arith), less) refl

      pub all_taken : {own_shingles' output' : List ℕ} {r : Taken}
          → Takes s own own_nodes own_shingles own_shingles' own_cells (take count buffer') output output' r
          → Exchanged σ s (lent string nodes shingles cells []) (lent own own_nodes own_shingles own_cells output)
          (lent own own_nodes own_shingles' own_cells output') buffer buffer' r
      all_taken t =
          record {
            stands = rw taken_is
                (record { answer = t.gives.answer; state = t.gives.state; memory = sym t.gives.memory; buffer_is = refl });
          }
