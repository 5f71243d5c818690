-- One round between two ends that no question refuses: the query is written whole and read back, and so is the reply, which the receiver takes.
use mathlib.Core.List.{List, ◌++◌}
use mathlib.Core.Option.{some}
use mathlib.Core.Path.{◌≡◌, refl, ap, ◌∙◌}
use Prim.Native.Nat.{ℕ, ◌+◌, ◌-◌, ◌^◌, ◌≤◌, ◌<◌}
use native.Mathlib.Omega.{arith}
use lib.ListN.{length, drop, replicate, length-append, length-drop, length-replicate}
use lib.Seq.{take-append_seam}
use borrow.Author.Tests.{eq-eqb, le-leb, le-ltb}
use Rattle.tree.specs.declared.Settings.{Settings}
use Rattle.message.specs.Fields.{one, value}
use Rattle.message.specs.Messages.{Msg, opening_query, node_query, headed, words_then, size_of, encode, Valid}
use Rattle.message.proofs.Messages.{length-encode, parse-encode}
use Rattle.protocol.specs.Lent.{Lent, refused_by}
use Rattle.protocol.specs.State.{State, outstanding}
use Rattle.protocol.specs.Sender.{Written, writing, reply_to, replying, hearing, reply}
use Rattle.protocol.specs.Receiver.{take_message, querying, write_query}
use Rattle.protocol.proofs.Progress.{valid_opening_query, valid_node_query}
use Rattle.session.specs.Session.{bytes_of, after, taken, answered, round}

-- Bytes at the front of a buffer that holds them.
abbrev pub put : List ℕ → List ℕ → Written
put bytes buffer = record { answer = 2 ^ 32 + length bytes; buffer = bytes ++ drop (length bytes) buffer }

written_whole : (bytes buffer : List ℕ) → length bytes ≤ length buffer → writing bytes buffer ≡ put bytes buffer
unfolding writing
written_whole bytes buffer h = rw (le-leb (length bytes) (length buffer) h) refl

bytes_put : (bytes buffer : List ℕ) → bytes_of (put bytes buffer) ≡ bytes
bytes_put bytes buffer =
    let whole : 2 ^ 32 + length bytes - 2 ^ 32 ≡ length bytes = omega arith in
    rw whole (take-append_seam bytes (drop (length bytes) buffer))

pub put_long : (bytes buffer : List ℕ) → length bytes ≤ length buffer → length (put bytes buffer).buffer ≡ length buffer
put_long bytes buffer h =
    omega (arith, length-append bytes (drop (length bytes) buffer), length-drop (length bytes) buffer, h)

-- A query within its fields and within 24 bytes, and what the sender replies to it.
pub record Query (σ : Settings) (sender : Lent) (query : Msg) : Type 0 where
  pub fields : Valid query
  pub short : length (encode query) ≤ 24
  pub reply : Msg
  pub replies : reply_to σ sender query ≡ some reply

module _ (σ : Settings) (sender : Lent) where
  pub opening_query_lem : (n : ℕ) → n < 2 ^ 24 → Query σ sender (opening_query n)
  unfolding reply_to size_of words_then headed one
  opening_query_lem n h =
      record {
        fields = valid_opening_query n h;
        short = omega (arith, length-encode (opening_query n));
        reply = _;
        replies = refl;
      }

  pub node_query_lem : (n l i : ℕ) → n < 2 ^ 24 → l ≤ 4 → i < 18446744073709551616 → Query σ sender (node_query n l i)
  unfolding reply_to size_of words_then headed one value
  node_query_lem n l i h k j =
      record {
        fields = valid_node_query n l i h k j;
        short = omega (arith, length-encode (node_query n l i));
        reply = _;
        replies = refl;
      }

  module _ (s : State) (m : Lent) (buffer : List ℕ) where
    answered-put : (bytes : List ℕ) → answered σ sender s m buffer (put bytes (replicate 24 0)) ≡ taken s m (reply σ sender bytes buffer)
    unfolding answered
    answered-put bytes =
        rw (le-ltb (2 ^ 32 + length bytes) (2 ^ 32) (omega arith))
        (ap (λ (b : List ℕ). taken s m (reply σ sender b buffer)) (bytes_put bytes (replicate 24 0)))

    taken-put : (bytes : List ℕ) → taken s m (put bytes buffer) ≡ after (take_message s m bytes) (put bytes buffer).buffer
    unfolding taken
    taken-put bytes =
        rw (le-ltb (2 ^ 32 + length bytes) (2 ^ 32) (omega arith))
        (ap (λ (b : List ℕ). after (take_message s m b) (put bytes buffer).buffer) (bytes_put bytes buffer))

    module _ (query : Msg) (q : Query σ sender query) where
      query_written : outstanding s ≡ some query → refused_by s.settings m ≡ 0
          → write_query s m (replicate 24 0) ≡ put (encode query) (replicate 24 0)
      unfolding write_query querying
      query_written asked allowed =
          rw (eq-eqb _ 0 allowed, asked)
          (written_whole (encode query) (replicate 24 0) (omega (arith, q.short, length-replicate {A = ℕ} 24 0)))

      reply_written : refused_by σ sender ≡ 0 → length (encode q.reply) ≤ length buffer
          → reply σ sender (encode query) buffer ≡ put (encode q.reply) buffer
      unfolding reply hearing replying
      reply_written allowed room =
          rw (eq-eqb _ 0 allowed, parse-encode query q.fields, q.replies) (written_whole (encode q.reply) buffer room)

      pub round_is : outstanding s ≡ some query → refused_by s.settings m ≡ 0 → refused_by σ sender ≡ 0 → length (encode q.reply) ≤ length buffer
          → round σ sender s m buffer ≡ after (take_message s m (encode q.reply)) (put (encode q.reply) buffer).buffer
      unfolding round
      round_is asked ours theirs room =
          ap (answered σ sender s m buffer) (query_written asked ours)
          ∙ (answered-put (encode query) ∙ (ap (taken s m) (reply_written theirs room) ∙ taken-put (encode q.reply)))
