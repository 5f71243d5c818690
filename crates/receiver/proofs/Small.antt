-- What the calls answer is small: a call for C adds its mark without leaving 64 bits.
use Rattle.std.proofs.Common.{Bool, true, false, cond, List, [], ℕ, ◌^◌, ◌<◌, ◌≤◌, arith}
use Rattle.std.proofs.Math.Dec.{eqb}
use Rattle.tree.specs.declared.Settings.{Settings}
use Rattle.setup.proofs.Questions.{lent_small}
use Rattle.setup.proofs.Accepted.{yes_answer, yes_counts, few_nodes}
use Rattle.protocol.specs.Lent.{lent, refused_by}
use Rattle.protocol.specs.State.{outstanding}
use Rattle.protocol.specs.Sender.{unwritten}
use Rattle.protocol.specs.Receiver.{querying, write_query}
use Rattle.state.specs.declared.Receiver.{Receiver}
use Rattle.state.specs.Receivers.{state_of}
use Rattle.state.proofs.Small.{querying_small}
use Rattle.receiver.specs.declared.Ready.{Ready}
use Rattle.receiver.specs.Calls.{Starts, Asked}

pub nodes_few : {σ : Settings} {session : ℕ} {string nodes nodes' shingles shingles' cells cells' : List ℕ} {r : Ready}
    → Starts σ session string nodes nodes' shingles shingles' cells cells' r → r.nodes ≤ 4096
nodes_few starts =
    let yes = yes_answer _ _ _ _ _ _ _ _ _ _ starts.tables (omega arith) in
    omega (arith, yes_counts _ _ _ _ _ _ _ _ _ _ starts.tables yes, few_nodes _ _ _ _ _ _ _ _ _ _ starts.tables yes)

pub asked_small : {s : Receiver} {string nodes shingles cells before after : List ℕ} {r : ℕ} → Asked s string nodes shingles cells before after r
    → r < 2 ^ 63
unfolding write_query state_of
asked_small {s} {string} {nodes} {shingles} {cells} {before} asked =
    omega (arith, asked.answer_is [], go (eqb (refused_by s.settings (lent string nodes shingles cells [])) 0))
  where
    low : refused_by s.settings (lent string nodes shingles cells []) ≤ 7
    low = lent_small s.settings _ _

    go : (t : Bool)
        → (cond t (querying (outstanding (state_of s)) before) (unwritten (refused_by s.settings (lent string nodes shingles cells [])) before)).answer
        < 2 ^ 63
    go true = querying_small (state_of s) before
    go false = omega (arith, low)
