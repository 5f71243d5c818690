-- Demand 3 of document 00, of every list of calls that C makes.
use Rattle.std.specs.Prelude.{List, map, ℕ, ◌%◌, ◌^◌, ◌≤◌}
use Rattle.tree.specs.declared.Settings.{Settings}
use Rattle.protocol.specs.Lent.{Lent, lent}
use Rattle.protocol.specs.State.{initial}
use Rattle.protocol.specs.Demand.{FirstHalf, SecondHalf}
use Rattle.held.specs.Held.{HeldSetUp}
use Rattle.demand.specs.Made.{Made, InTurn, call_of, events_of}

-- After a call of `rcds_receiver_setup` that was accepted, both halves hold of every list of calls that kept their promises in turn. `output`
-- is the one that the first call is lent.
abbrev pub Demand3OfCalls : Type 0
Demand3OfCalls =
    (σ : Settings) (n : ℕ) (string nodes nodes' shingles shingles' cells cells' state state' output : List ℕ) (r : ℕ)
    → HeldSetUp σ n string nodes nodes' shingles shingles' cells cells' state state' r → 2 ^ 32 ≤ r
    → (cs : List Made) → InTurn state' cs
    → FirstHalf (events_of 0 cs)
    × SecondHalf σ (lent string nodes shingles cells output) (n % 2 ^ 24) (initial σ n) (map call_of cs) (events_of 0 cs)
