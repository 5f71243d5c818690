-- What the steps of taking a message promise each other. No public contract cites these.
use Rattle.std.specs.Prelude.{true, ◌&&◌, List, ◌≡◌, ℕ, ◌≤◌, ◌<◌, leb, ltb, length, Option, Result, Ok, Err}
use Rattle.tree.specs.Questions.{ask, within}
use Rattle.refusal.specs.declared.Refusal.{Refusal}
use Rattle.refusal.specs.Answer.{number_of}
use Rattle.protocol.specs.Lent.{lent, refused_by}
use Rattle.protocol.specs.Receiver.{unchanged, act, take_message}
use Rattle.state.specs.declared.Receiver.{Receiver}
use Rattle.state.specs.declared.Taken.{Taken}
use Rattle.state.specs.Receivers.{state_of}
use Rattle.heard.specs.declared.Announced.{Announced}
use Rattle.heard.specs.declared.Content.TheVariants.{Composition, Literal}
use Rattle.heard.specs.declared.Reply.{Reply}
use Rattle.heard.specs.declared.Said.{Said}
use Rattle.heard.specs.declared.Said.TheVariants as said
use Rattle.heard.specs.Heard.{message_in, Carries, NodeReply, OpeningReply, Hears}
use Rattle.taking.specs.Taking.{Gives}

-- 1 to 7, 9, 10 or 11 refuses, which changes nothing.
pub record Unheard (s : Receiver) (string nodes shingles cells message : List ℕ) (question : ℕ) : Type 0 where
  pub early : within 1 11 question ≡ true
  pub is : (output : List ℕ) → take_message (state_of s) (lent string nodes shingles cells output) message
      ≡ unchanged question (state_of s) (lent string nodes shingles cells output)

-- They are passed: the message is what was said, a node reply answers the query of a pending node, and the message decides.
pub record Listened (s : Receiver) (string nodes shingles cells message : List ℕ) (x : Said) : Type 0 where
  pub seven : (output : List ℕ) → refused_by s.settings (lent string nodes shingles cells output) ≡ 0
  pub heard : Hears message x
  pub waits : (r : Reply) → x ≡ said.Reply r → (0 < s.waiting) × (s.waiting ≤ 128)
  pub is : (output : List ℕ) → take_message (state_of s) (lent string nodes shingles cells output) message
      ≡ act (state_of s) (lent string nodes shingles cells output) (message_in message)

-- What hearing a message answers.
abbrev pub Hearing : Receiver → (string nodes shingles cells message : List ℕ) → Result Said Refusal → Type 0
Hearing s string nodes shingles cells message (Ok x) = Listened s string nodes shingles cells message x
Hearing s string nodes shingles cells message (Err question) = Unheard s string nodes shingles cells message (number_of question)

-- What taking an opening knows: 1 to 7 are passed, and the message is that opening.
pub record OpeningSaid (s : Receiver) (a : Announced) (string nodes shingles cells message output : List ℕ) : Type 0 where
  pub seven : refused_by s.settings (lent string nodes shingles cells output) ≡ 0
  pub heard : OpeningReply message a

pub record OpeningTaken (s : Receiver) (string nodes shingles shingles' cells message output output' : List ℕ) (r : Taken) : Type 0 where
  pub gives : Gives s (act (state_of s) (lent string nodes shingles cells output) (message_in message)) string nodes shingles' cells output' r

-- 0, or the first of these that refuses a node reply before its content is looked at: 13, 15.
unfoldable pub early_refusal : (size room taken : ℕ) → ℕ
early_refusal size room taken =
    ask (leb size 65536 && leb size room) 13
    (ask (ltb taken 4096) 15
    0)

-- What taking a node reply knows: 3 is passed, a node is pending, and the message is that node reply.
pub record NodeSaid (s : Receiver) (r : Reply) (message : List ℕ) : Type 0 where
  pub few_levels : s.settings.levels ≤ 4
  pub some_waiting : 0 < s.waiting
  pub few_waiting : s.waiting ≤ 128
  pub heard : NodeReply message r

-- Past 13 and 15.
pub record Past (s : Receiver) (output : List ℕ) : Type 0 where
  pub few_levels : s.settings.levels ≤ 4
  pub some_waiting : 0 < s.waiting
  pub few_waiting : s.waiting ≤ 128
  pub small : s.size ≤ 65536
  pub room : s.size ≤ length output
  pub few_taken : s.taken < 4096

-- What taking a composition knows, and what taking a literal knows.
pub record CompositionSaid (s : Receiver) (level : ℕ) (trail : Option ℕ) (count : ℕ) (message output : List ℕ) : Type 0 where
  pub past : Past s output
  pub session : ℕ
  pub id : ℕ
  pub heard : Carries message session level id (Composition trail count)

pub record LiteralSaid (s : Receiver) (count : ℕ) (message output : List ℕ) : Type 0 where
  pub past : Past s output
  pub session : ℕ
  pub level : ℕ
  pub id : ℕ
  pub heard : Carries message session level id (Literal count)

pub record NodeTaken (s : Receiver) (string nodes shingles message output output' : List ℕ) (r : Taken) : Type 0 where
  pub gives : (cells : List ℕ)
      → Gives s (act (state_of s) (lent string nodes shingles cells output) (message_in message)) string nodes shingles cells output' r
