-- What was written lies within the buffer.
use Rattle.std.proofs.Common.{List, [], ◌≡◌, ℕ, ◌+◌, ◌^◌, ◌≤◌, length, replicate, arith}
use Rattle.std.proofs.lemmas.List.{length-replicate}
use Rattle.std.proofs.Math.Option.{Option, none, some}
use lib.Dec.{eqb}
use Rattle.setup.proofs.Questions.{lent_small}
use Rattle.message.specs.Messages.{Msg, encode}
use Rattle.protocol.specs.Lent.{Lent, lent, refused_by}
use Rattle.protocol.specs.State.{State, outstanding}
use Rattle.protocol.specs.Receiver.{querying, write_query}
use Rattle.reply.proofs.Within.{writing_fits, asked_first}
use Rattle.state.specs.declared.Receiver.{Receiver}
use Rattle.state.specs.Receivers.{state_of}
use Rattle.receiver.specs.Calls.{Asked}

querying_fits : (query : Option Msg) (buffer : List ℕ) → (querying query buffer).answer ≤ 2 ^ 32 + length buffer
unfolding querying
querying_fits none buffer = omega arith
querying_fits (some query) buffer = writing_fits (encode query) buffer

query_fits : (s : State) (m : Lent) (buffer : List ℕ) → (write_query s m buffer).answer ≤ 2 ^ 32 + length buffer
unfolding write_query
query_fits s m buffer =
    asked_first (eqb (refused_by s.settings m) 0) (refused_by s.settings m) (querying (outstanding s) buffer) buffer
    (lent_small s.settings _ _) (querying_fits (outstanding s) buffer)

-- The same of the call's promise.
pub query_within : {s : Receiver} {string nodes shingles cells query : List ℕ} {size : ℕ}
    → Asked s string nodes shingles cells (replicate 24 0) query (2 ^ 32 + size) → size ≤ 24
query_within {s = s} {string = string} {nodes = nodes} {shingles = shingles} {cells = cells} asks =
    omega (arith, asks.answer_is [], query_fits (state_of s) (lent string nodes shingles cells []) (replicate 24 0), length-replicate {A = ℕ} 24 0)
