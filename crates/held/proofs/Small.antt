-- The answers are small: a call for C adds its mark without leaving 64 bits.
use Rattle.std.proofs.Common.{◌≡◌, Bool, true, false, cond, List, [], ◌++◌, ℕ, ◌+◌, ◌^◌, ◌<◌, length, drop, refl, ap, arith}
use Rattle.std.proofs.Math.Dec.{leb, eqb}
use Rattle.std.proofs.Math.Option.{Option, none, some}
use borrow.Author.Tests.{leb-true}
use Rattle.setup.specs.Questions.{tables_fit}
use Rattle.setup.proofs.Questions.{lent_small}
use Rattle.message.specs.Messages.{Msg, encode}
use Rattle.protocol.specs.Lent.{Lent, lent, refused_by}
use Rattle.protocol.specs.State.{State, outstanding}
use Rattle.protocol.specs.Sender.{unwritten, writing}
use Rattle.protocol.specs.Receiver.{Result, number_of, querying, write_query}
use Rattle.protocol.proofs.Refusals.{Verdict, early, late, further, done, verdict}
use Rattle.state.specs.declared.Receiver.{Receiver}
use Rattle.state.specs.Receivers.{state_of}
use Rattle.receiver.specs.Calls.{Asked}
use Rattle.held.specs.Held.{decode, HeldTakes}

-- What is handed over stands in the output.
number_small : {s : State} {m : Lent} {R : Result} → Verdict s m R → length R.lent.output < 2 ^ 63 → number_of R.answer < 2 ^ 64
unfolding number_of
number_small (early k low high) h = omega arith
number_small (late k low high) h = omega arith
number_small (further t after) h = omega arith
number_small (done n t after fits) h = omega arith

pub take_small : {state state' string nodes shingles shingles' cells message output output' : List ℕ} {r : ℕ} → length output' < 2 ^ 63
    → HeldTakes state state' string nodes shingles shingles' cells message output output' r → r < 2 ^ 64
take_small {state} {string = string} {nodes = nodes} {shingles = shingles} {cells = cells} {message = message} {output = output} small took =
    let m = lent string nodes shingles cells output in
    rw took.leaves.answer
    (number_small (verdict (decode state) m message) (rw (ap (λ (x : Lent). length x.output) took.leaves.memory) small))

module _ (before : List ℕ) (small : length before < 2 ^ 63) where
  writing_small : (bytes : List ℕ) → (writing bytes before).answer < 2 ^ 64
  unfolding writing
  writing_small bytes = go (leb (length bytes) (length before)) refl
    where
      go : (fits : Bool) → leb (length bytes) (length before) ≡ fits
          → (cond fits (record { answer = 2 ^ 32 + length bytes; buffer = bytes ++ drop (length bytes) before }) (unwritten 20 before)).answer < 2 ^ 64
      go true e = let fits = leb-true (length bytes) (length before) e in omega arith
      go false e = omega arith

  querying_small : (query : Option Msg) → (querying query before).answer < 2 ^ 64
  unfolding querying
  querying_small none = omega arith
  querying_small (some query) = writing_small (encode query)

  asked_small : (s : State) (m : Lent) → (write_query s m before).answer < 2 ^ 64
  unfolding write_query
  asked_small s m = go (eqb (refused_by s.settings m) 0)
    where
      go : (passed : Bool) → (cond passed (querying (outstanding s) before) (unwritten (refused_by s.settings m) before)).answer < 2 ^ 64
      go true = querying_small (outstanding s)
      go false =
          let low = lent_small s.settings (length m.string) (tables_fit s.settings.width (length m.nodes) (length m.shingles) (length m.cells)) in
          omega (arith, low)

  pub query_small : {s : Receiver} {string nodes shingles cells after : List ℕ} {r : ℕ} → Asked s string nodes shingles cells before after r → r < 2 ^ 64
  query_small {s} {string} {nodes} {shingles} {cells} asked =
      rw (asked.answer_is []) (asked_small (state_of s) (lent string nodes shingles cells []))
