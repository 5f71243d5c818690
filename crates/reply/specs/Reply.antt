-- What replying promises of its answer and of every byte of the buffer: both are those of the definition of crate `protocol`.
use Rattle.std.specs.Prelude.{List, [], ◌≡◌, ℕ}
use Rattle.tree.specs.declared.Settings.{Settings}
use Rattle.protocol.specs.Lent.{lent}
use Rattle.protocol.specs.Sender.{Written, reply}

-- What is said of a sender's call that is lent these pieces; a sender has no output.
abbrev pub reply_of : Settings → (string nodes shingles cells message buffer : List ℕ) → Written
reply_of σ string nodes shingles cells message buffer = reply σ (lent string nodes shingles cells []) message buffer

pub record Replied (σ : Settings) (string nodes shingles cells message before after : List ℕ) (r : ℕ) : Type 0 where
  pub answer_is : r ≡ (reply_of σ string nodes shingles cells message before).answer
  pub buffer_is : after ≡ (reply_of σ string nodes shingles cells message before).buffer
