-- What was written lies within the buffer.
use Rattle.std.proofs.Common.{Bool, true, false, cond, List, [], ℕ, ◌+◌, ◌^◌, ◌≤◌, length, arith}
use Rattle.std.proofs.Math.Dec.{eqb}
use Rattle.std.proofs.Math.Option.{Option, none, some}
use native.Mathlib.Decide.{dec_le}
use borrow.Author.Tests.{le-leb, lt-leb}
use Rattle.tree.specs.declared.Settings.{Settings}
use Rattle.setup.proofs.Questions.{lent_small}
use Rattle.message.specs.Messages.{Msg, encode, parse}
use Rattle.protocol.specs.Lent.{Lent, lent, refused_by}
use Rattle.protocol.specs.Sender.{Written, unwritten, writing, reply_to, replying, hearing, reply}
use Rattle.reply.specs.Reply.{Replied}

pub writing_fits : (bytes buffer : List ℕ) → (writing bytes buffer).answer ≤ 2 ^ 32 + length buffer
unfolding writing
writing_fits bytes buffer =
    elim (dec_le (length bytes) (length buffer)) [
      | yes h ↦ rw (le-leb _ _ h) (omega (arith, h))
      | no h ↦ rw (lt-leb (length bytes) (length buffer) (omega (arith, h))) (omega arith)
    ]

-- 1 to 7 come first.
pub asked_first : (b : Bool) (k : ℕ) (w : Written) (buffer : List ℕ) → k ≤ 7 → w.answer ≤ 2 ^ 32 + length buffer
    → (cond b w (unwritten k buffer)).answer ≤ 2 ^ 32 + length buffer
asked_first true k w buffer small fits = fits
asked_first false k w buffer small fits = omega (arith, small)

replying_fits : (σ : Settings) (m : Lent) (answer : Option Msg) (buffer : List ℕ) → (replying σ m answer buffer).answer ≤ 2 ^ 32 + length buffer
unfolding replying
replying_fits σ m none buffer = omega arith
replying_fits σ m (some answer) buffer = writing_fits (encode answer) buffer

hearing_fits : (σ : Settings) (m : Lent) (query : Option Msg) (buffer : List ℕ) → (hearing σ m query buffer).answer ≤ 2 ^ 32 + length buffer
unfolding hearing
hearing_fits σ m none buffer = omega arith
hearing_fits σ m (some query) buffer = replying_fits σ m (reply_to σ m query) buffer

reply_fits : (σ : Settings) (m : Lent) (message buffer : List ℕ) → (reply σ m message buffer).answer ≤ 2 ^ 32 + length buffer
unfolding reply
reply_fits σ m message buffer =
    asked_first (eqb (refused_by σ m) 0) (refused_by σ m) (hearing σ m (parse message) buffer) buffer
    (lent_small σ _ _) (hearing_fits σ m (parse message) buffer)

-- The same of the call's promise: a count of bytes is one of the buffer's.
pub answer_within : {σ : Settings} {string nodes shingles cells message before after : List ℕ} {r : ℕ}
    → Replied σ string nodes shingles cells message before after r → r ≤ 2 ^ 32 + length before
answer_within {σ = σ} {string = string} {nodes = nodes} {shingles = shingles} {cells = cells} {message = message} {before = before} replied =
    rw replied.answer_is (reply_fits σ (lent string nodes shingles cells []) message before)
