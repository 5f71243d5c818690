-- Demand 2 of document 00, of the two calls on trails that C makes: "A block order gives its trail number, and a number up to 4,095 gives the
-- order again".
use Rattle.std.specs.Prelude.{Bool, List, ◌++◌, ◌≡◌, ℕ, ◌+◌, ◌*◌, ◌/◌, ◌%◌, ◌^◌, ◌≤◌, ◌<◌, length, take, drop}
use Rattle.rows.specs.Rows.{words_of}
use Rattle.trail.specs.Trails.{Multiset, pairs_from, pairs_of}
use Rattle.protocol.specs.Calls.{Every}
use Rattle.rcds.specs.Trails.{marked, trail_number_answer, pairs_in, only_in, Ordered}

-- The multiset of pairs that a table's entries hold, in whatever order they stand.
abbrev pub held : List ℕ → Multiset
held table = pairs_of (pairs_in table).previous (pairs_in table).own (pairs_in table).count

-- A table of at most 32 whole entries holds the pairs of these ids, starting from 0.
pub record HoldsPairsOf (ids table : List ℕ) : Type 0 where
  pub whole : length table % 24 ≡ 0
  pub few : length table ≤ 768
  pub same : (previous own : ℕ) → pairs_from 0 (words_of ids) previous own ≡ held table previous own

-- Where `rcds_trail_number` answers the number of an order, and it is at most 4,095, `rcds_trail_order` over any table of its pairs, with that
-- number and room for the ids, answers how many they are and writes the same bytes again; those behind them are untouched. Document 02, request 5:
-- both calls say alike whether the trail is the only one.
abbrev pub OrderAfterNumber : Type 0
OrderAfterNumber =
    (ids table before after : List ℕ) (r number k : ℕ) (only : Bool) → Every (λ b. b < 256) ids
    → r ≡ trail_number_answer ids → r ≡ marked (2 ^ 32 + number) only → number ≤ 4095
    → HoldsPairsOf ids table → length ids ≤ length before → Ordered table number before after k
    → (k ≡ marked (2 ^ 32 + length ids / 8) only) × (after ≡ ids ++ drop (length ids) before)

-- Where `rcds_trail_order` writes an order, `rcds_trail_number` of what it wrote, as many ids as the low 32 bits of its answer say, answers the same
-- number, marked as that answer is, unless the table names the id 0, which no block has.
abbrev pub NumberAfterOrder : Type 0
NumberAfterOrder =
    (table before after : List ℕ) (number k r : ℕ) → Every (λ b. b < 256) table → ((previous : ℕ) → held table previous 0 ≡ 0)
    → Ordered table number before after k → 2 ^ 32 ≤ k
    → r ≡ trail_number_answer (take (k % 2 ^ 32 * 8) after)
    → (r ≡ marked (2 ^ 32 + number) (only_in table)) × (k ≡ marked (2 ^ 32 + k % 2 ^ 32) (only_in table))
