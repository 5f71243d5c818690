-- What a sender writes, as C has it written by `rcds_reply`: over anything it is lent, and over the string and the tables of an accepted
-- `rcds_sender_setup` as that setup left them. Document 01: "A sender's own opening is one written over the string its accepted setup took,
-- with the tables as that setup left them. Its messages written so, with its state unaltered too, are the genuine ones."
use Rattle.std.specs.Prelude.{List, ◌≡◌, ℕ, ◌-◌, ◌^◌, ◌≤◌, ◌<◌, take}
use Rattle.std.proofs.Math.Option.{Option, some}
use Rattle.tree.specs.declared.Settings.{Settings}
use Rattle.message.specs.Words.{Ref}
use Rattle.message.specs.Messages.{Msg, opening_query, composition, parse}
use Rattle.message.specs.Fields.{Every as Throughout}
use Rattle.protocol.specs.Calls.{Every}
use Rattle.protocol.specs.Genuine.{ServesOneString, GenuineReply}
use Rattle.protocol.specs.Demand.{Announces}
use Rattle.sender.specs.State.{settings_in, SenderSetUp}
use Rattle.reply.specs.Reply.{Replied}

-- A call that answers that it wrote a reply wrote a well-formed message, whatever bytes it was lent.
pub record IsMessage (bytes : List ℕ) : Type 0 where
  pub message : Msg
  pub read : parse bytes ≡ some message

abbrev pub MessageOfCalls : Type 0
MessageOfCalls =
    (state string nodes shingles cells message buffer buffer' : List ℕ) (k : ℕ) → Every (λ b. b < 256) string → Every (λ b. b < 256) nodes
    → Every (λ b. b < 256) cells → Throughout (λ b. b < 256) message
    → Replied (settings_in state) string nodes shingles cells message buffer buffer' k → 2 ^ 32 ≤ k
    → IsMessage (take (k - 2 ^ 32) buffer')

-- A sender's own opening announces its string, whatever state the call that wrote it was lent.
abbrev pub OwnOpeningOfCalls : Type 0
OwnOpeningOfCalls =
    (σ : Settings) (string nodes nodes' shingles shingles' cells cells' state state' : List ℕ) (r : ℕ)
    → SenderSetUp σ string nodes nodes' shingles shingles' cells cells' state state' r → 2 ^ 32 ≤ r
    → (any message buffer buffer' : List ℕ) (session k : ℕ) → Throughout (λ b. b < 256) message → parse message ≡ some (opening_query session)
    → Replied (settings_in any) string nodes' shingles' cells' message buffer buffer' k → 2 ^ 32 ≤ k
    → Announces string (take (k - 2 ^ 32) buffer')

-- A reply to the query that was read is genuine, for each receiver whose session number serves one string.
pub record RepliesTo (σ : Settings) (string message reply : List ℕ) : Type 0 where
  pub query : Msg
  pub read : parse message ≡ some query
  pub genuine : (τ : Settings) (theirs : List ℕ) (session : ℕ) → ServesOneString τ theirs session query σ string → GenuineReply τ theirs session query reply

-- What is written with the state as the setup left it too is genuine.
abbrev pub GenuineOfCalls : Type 0
GenuineOfCalls =
    (σ : Settings) (string nodes nodes' shingles shingles' cells cells' state state' : List ℕ) (r : ℕ) → Every (λ b. b < 256) string
    → SenderSetUp σ string nodes nodes' shingles shingles' cells cells' state state' r → 2 ^ 32 ≤ r
    → (message buffer buffer' : List ℕ) (k : ℕ) → Throughout (λ b. b < 256) message
    → Replied (settings_in state') string nodes' shingles' cells' message buffer buffer' k → 2 ^ 32 ≤ k
    → RepliesTo σ string message (take (k - 2 ^ 32) buffer')

-- Document 02, request 2: "a setup's node has at most one genuine composition a session". Two replies of setups with these settings over this string,
-- as the calls write them, are the same bytes if both are compositions of one session, level and id.
abbrev pub OneCompositionOfCalls : Type 0
OneCompositionOfCalls =
    (σ : Settings) (string query query' reply reply' : List ℕ) → RepliesTo σ string query reply → RepliesTo σ string query' reply'
    → (session l i : ℕ) (x y : Option ℕ) (refs refs' : List Ref) → parse reply ≡ some (composition session l i x refs)
    → parse reply' ≡ some (composition session l i y refs') → reply ≡ reply'
