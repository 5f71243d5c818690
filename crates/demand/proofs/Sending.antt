-- What a sender that was set up writes: a reply that was written is that of the definition to the query that was read.
use mathlib.Core.Bool.{Bool, true}
use mathlib.Core.List.{List, []}
use mathlib.Core.Option.{Option, none, some}
use mathlib.Core.Path.{◌≡◌, refl, sym, ap, subst, ◌∙◌}
use Prim.Native.Nat.{ℕ, ◌+◌, ◌-◌, ◌^◌, ◌≤◌, ◌<◌}
use native.Mathlib.Omega.{arith}
use lib.Dec.{leb, eqb}
use lib.ListN.{length, take, drop}
use lib.Seq.{take-append_seam}
use borrow.Author.Tests.{eqb-true}
use Rattle.tree.specs.declared.Settings.{Settings}
use Rattle.setup.specs.Questions.{setup_refusal, tables_fit}
use Rattle.setup.specs.Tables.{node_front, shingle_front, cell_front, setup_table}
use Rattle.setup.proofs.Questions.{lent_small}
use Rattle.setup.proofs.Accepted.{yes_answer, other_after_yes, setup_passed}
use Rattle.message.specs.Fields.{Every as Throughout}
use Rattle.message.specs.Messages.{Msg, opening_query, Parts, Valid, encode, parse}
use Rattle.message.proofs.Messages.{parse-encode, encode-parse}
use Rattle.protocol.specs.Lent.{Lent, lent, refused_by}
use Rattle.protocol.specs.Sender.{Written, writing, opening_reply, reply_to, replying, hearing, reply}
use Rattle.protocol.specs.Calls.{Every}
use Rattle.protocol.specs.Genuine.{Accepted, Genuine}
use Rattle.protocol.specs.Demand.{SetupAccepts, left_by_setup, Announces}
use Rattle.protocol.proofs.Cases.{chosen, same_message}
use Rattle.protocol.proofs.Own.{replies_genuine}
use Rattle.protocol.proofs.Readable.{every_reply_valid}
use Rattle.protocol.proofs.Announcing.{own_opening_announces}
use Rattle.protocol.proofs.One.{one_composition}
use Rattle.reply.specs.Reply.{Replied}
use Rattle.sender.specs.State.{settings_in, SenderSetUp}
use Rattle.sender.proofs.Accepted.{settings_kept}
use Rattle.demand.specs.Sending.{MessageOfCalls, OwnOpeningOfCalls, RepliesTo, GenuineOfCalls, OneCompositionOfCalls}

-- A reply was written: to the query read, as the definition has it.
record Wrote (σ : Settings) (m : Lent) (message : List ℕ) (w : Written) : Type 0 where
  asks : refused_by σ m ≡ 0
  query : Msg
  read : parse message ≡ some query
  x : Msg
  replies : reply_to σ m query ≡ some x
  bytes : take (w.answer - 2 ^ 32) w.buffer ≡ encode x

module _ (σ : Settings) (m : Lent) (message buffer : List ℕ) where
  -- If the call wrote something, it wrote a reply.
  abbrev Claim : Written → Type 0
  Claim w = 2 ^ 32 ≤ w.answer → Wrote σ m message w

  wrote_writing : refused_by σ m ≡ 0 → (query x : Msg) → parse message ≡ some query → reply_to σ m query ≡ some x → Claim (writing (encode x) buffer)
  unfolding writing
  wrote_writing asks query x read replies =
      chosen Claim (leb (length (encode x)) (length buffer)) _ _
      (λ fits high.
      let whole : 2 ^ 32 + length (encode x) - 2 ^ 32 ≡ length (encode x) = omega arith in
      record {
        asks = asks;
        query = query;
        read = read;
        x = x;
        replies = replies;
        bytes = rw whole (take-append_seam (encode x) (drop (length (encode x)) buffer));
      })
      (λ short high. absurd (omega (arith, high)))

  wrote_replying : refused_by σ m ≡ 0 → (query : Msg) → parse message ≡ some query → (o : Option Msg) → reply_to σ m query ≡ o → Claim (replying σ m o buffer)
  unfolding replying
  wrote_replying asks query read none e high = absurd (omega (arith, high))
  wrote_replying asks query read (some x) e high = wrote_writing asks query x read e high

  wrote_hearing : refused_by σ m ≡ 0 → (o : Option Msg) → parse message ≡ o → Claim (hearing σ m o buffer)
  unfolding hearing
  wrote_hearing asks none e high = absurd (omega (arith, high))
  wrote_hearing asks (some query) e high = wrote_replying asks query e (reply_to σ m query) refl high

  wrote : Claim (reply σ m message buffer)
  unfolding reply
  wrote =
      let low = lent_small σ (length m.string) (tables_fit σ.width (length m.nodes) (length m.shingles) (length m.cells)) in
      chosen Claim (eqb (refused_by σ m) 0) _ _
      (λ asks high. wrote_hearing (eqb-true _ _ asks) (parse message) refl high)
      (λ refused high. absurd (omega (arith, high, low)))

pub message_of_calls : MessageOfCalls
message_of_calls state string nodes shingles cells message buffer buffer' k string_bytes node-bytes cell-bytes bytes-in replied written =
    let σ = settings_in state in
    let m = lent string nodes shingles cells [] in
    let w = reply σ m message buffer in
    let done = wrote σ m message buffer (omega (arith, written, replied.answer_is)) in
    let query-valid = (encode-parse message done.query bytes-in done.read).0 in
    let valid = every_reply_valid σ m done.asks string_bytes node-bytes cell-bytes done.query done.x query-valid done.replies in
    let bytes : take (k - 2 ^ 32) buffer' ≡ encode done.x =
    ap (λ (j : ℕ). take (j - 2 ^ 32) buffer') replied.answer_is ∙ (ap (take (w.answer - 2 ^ 32)) replied.buffer_is ∙ done.bytes) in
    record { message = done.x; read = ap parse bytes ∙ parse-encode done.x valid }

session_small : (n : ℕ) → Valid (opening_query n) → n < 2 ^ 24
unfolding Parts
session_small n v = v.parts

module _ (σ : Settings) (string nodes nodes' shingles shingles' cells cells' state state' : List ℕ) (r : ℕ)
    (made : SenderSetUp σ string nodes nodes' shingles shingles' cells cells' state state' r) (high : 2 ^ 32 ≤ r) where
  abbrev m : Lent
  m = lent string nodes shingles cells []

  abbrev left : Lent
  left = lent string nodes' shingles' cells' []

  accepted : setup_refusal σ string (leb 40 (length state)) nodes shingles cells ≡ 0
  accepted = yes_answer _ _ _ _ _ _ _ _ _ _ made.tables high

  set_up : SetupAccepts σ m
  set_up = subst (λ (b : Bool). setup_refusal σ string b nodes shingles cells ≡ 0) (other_after_yes _ _ _ _ _ _ _ _ _ _ made.tables accepted) accepted

  left_is : left ≡ left_by_setup σ m
  left_is =
      let nodes-are = made.tables.node_table ∙ ap (λ (k : ℕ). setup_table k (node_front σ string) nodes) accepted in
      let shingles_are = made.tables.shingle_table ∙ ap (λ (k : ℕ). setup_table k (shingle_front σ string) shingles) accepted in
      let cells_are = made.tables.cell_table ∙ ap (λ (k : ℕ). setup_table k (cell_front σ string) cells) accepted in
      λ i. lent string (nodes-are i) (shingles_are i) (cells_are i) []

  settings_are : settings_in state' ≡ σ
  settings_are = settings_kept σ string nodes nodes' shingles shingles' cells cells' state state' r made accepted

  accepts : Every (λ b. b < 256) string → Accepted σ string
  accepts bytes =
      let passed = setup_passed σ string true nodes shingles cells set_up in
      record { bytes = bytes; questions = passed.1.settings; few = passed.2 }

  -- What a call that wrote something wrote, by the settings that its state held.
  record Said (τ : Settings) (message out : List ℕ) : Type 0 where
    asks : refused_by τ (left_by_setup σ m) ≡ 0
    query : Msg
    read : parse message ≡ some query
    valid : Valid query
    x : Msg
    replies : reply_to τ (left_by_setup σ m) query ≡ some x
    bytes : out ≡ encode x

  said : (τ : Settings) (message buffer buffer' : List ℕ) (k : ℕ) → Throughout (λ b. b < 256) message
      → Replied τ string nodes' shingles' cells' message buffer buffer' k → 2 ^ 32 ≤ k → Said τ message (take (k - 2 ^ 32) buffer')
  said τ message buffer buffer' k bytes-in replied written =
      let w = reply τ (left_by_setup σ m) message buffer in
      let same : reply τ left message buffer ≡ w = λ i. reply τ (left_is i) message buffer in
      let answer : k ≡ w.answer = replied.answer_is ∙ ap (λ (x : Written). x.answer) same in
      let buffer_is : buffer' ≡ w.buffer = replied.buffer_is ∙ ap (λ (x : Written). x.buffer) same in
      let done = wrote τ (left_by_setup σ m) message buffer (omega (arith, written, answer)) in
      record {
        asks = done.asks;
        query = done.query;
        read = done.read;
        valid = (encode-parse message done.query bytes-in done.read).0;
        x = done.x;
        replies = done.replies;
        bytes = ap (λ (j : ℕ). take (j - 2 ^ 32) buffer') answer ∙ (ap (take (w.answer - 2 ^ 32)) buffer_is ∙ done.bytes);
      }

  announced : (τ : Settings) (message out : List ℕ) (session : ℕ) → parse message ≡ some (opening_query session) → Said τ message out → Announces string out
  unfolding reply_to
  announced τ message out session read s =
      let which : s.query ≡ opening_query session = same_message (sym s.read ∙ read) in
      let x-is : opening_reply τ (left_by_setup σ m) session ≡ s.x = same_message (ap (reply_to τ (left_by_setup σ m)) (sym which) ∙ s.replies) in
      subst (Announces string) (ap encode x-is ∙ sym s.bytes) (own_opening_announces σ τ m session set_up s.asks (session_small session (subst Valid which s.valid)))

  genuine : Every (λ b. b < 256) string → (message out : List ℕ) → Said σ message out → RepliesTo σ string message out
  genuine bytes message out s =
      record {
        query = s.query;
        read = s.read;
        genuine = λ τ theirs session serves. record {
          settings = σ;
          sender = string;
          message = s.x;
          setup = accepts bytes;
          asked = s.valid;
          replies = replies_genuine σ m set_up s.query s.x s.replies;
          written = s.bytes;
          serves = serves;
        };
      }

pub own_opening_of_calls : OwnOpeningOfCalls
own_opening_of_calls σ string nodes nodes' shingles shingles' cells cells' state state' r made high any message buffer buffer' session k bytes-in read replied written =
    announced σ string nodes nodes' shingles shingles' cells cells' state state' r made high (settings_in any) message _ session read
    (said σ string nodes nodes' shingles shingles' cells cells' state state' r made high (settings_in any) message buffer buffer' k bytes-in replied written)

pub genuine_of_calls : GenuineOfCalls
genuine_of_calls σ string nodes nodes' shingles shingles' cells cells' state state' r bytes made high message buffer buffer' k bytes-in replied written =
    let own = settings_are σ string nodes nodes' shingles shingles' cells cells' state state' r made high in
    genuine σ string nodes nodes' shingles shingles' cells cells' state state' r made high bytes message _
    (said σ string nodes nodes' shingles shingles' cells cells' state state' r made high σ message buffer buffer' k bytes-in
    (subst (λ (τ : Settings). Replied τ string nodes' shingles' cells' message buffer buffer' k) own replied) written)

-- A reply is genuine for a receiver of the setup's own settings and string, under any number.
own_genuine : (σ : Settings) (string query reply : List ℕ) → RepliesTo σ string query reply → (session : ℕ) → Genuine σ string session reply
own_genuine σ string query reply replied session = record { query = replied.query; reply = replied.genuine σ string session (λ e. (refl, refl)) }

pub one_composition_of_calls : OneCompositionOfCalls
one_composition_of_calls σ string query query' reply reply' one other session l i x y refs refs' read read' =
    one_composition σ string session reply reply' (own_genuine σ string query reply one session) (own_genuine σ string query' reply' other session) l i x y refs refs' read read'
