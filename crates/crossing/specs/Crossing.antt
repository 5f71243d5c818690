-- Document 02, request 1: "A buyer with a worn flash page knows its first byte and its length and wants exactly the nodes that share a
-- byte with that range, in tree order, with each node's parent."
-- Document 01 holds on: "A node table is read up to its first id 0 .. A node entry that points outside the lent string is passed over;
-- other entries are read as given."
use Rattle.std.specs.Prelude.{Bool, cond, ◌&&◌, List, [], ◌∷◌, ◌++◌, ◌≡◌, ℕ, ◌+◌, ◌*◌, ◌^◌, max, min, leb, ltb, eqb, length, drop}
use Rattle.rows.specs.Rows.{bytes_of}
use Rattle.node_table.specs.declared.Entry.{Entry}
use Rattle.node_table.specs.Nodes.{inside, entries_in}
use Rattle.tree.specs.Questions.{ask}

-- "share a byte with that range": the later of the two first bytes comes before the earlier of the two ends. "A range that is empty
-- crosses no node." The law `crosses_shares` and its converse say it by the shared byte itself.
unfoldable pub crosses : (n start size : ℕ) → Entry → Bool
crosses n start size e = inside n e && ltb (max start e.start) (min (start + size) (e.start + e.size))

-- A node that is crossed: its place in the table, and its parent's.
pub record Crossing : Type 0 where
  pub node : ℕ
  pub parent : ℕ

-- "in tree order, with each node's parent": of entries the first of which stands at place k.
unfoldable pub crossing_from : (n start size k : ℕ) → List Entry → List Crossing
crossing_from n start size k [] = []
crossing_from n start size k (e ∷ es) =
    cond (crosses n start size e)
    (record { node = k; parent = e.parent } ∷ crossing_from n start size (k + 1) es)
    (crossing_from n start size (k + 1) es)

-- The nodes of a table that are crossed.
unfoldable pub crossing : (n start size : ℕ) → List ℕ → List Crossing
crossing n start size nodes = crossing_from n start size 0 (entries_in nodes)

-- The bytes of an answer: two rows of 64 bits for each.
unfoldable pub crossing_bytes : List Crossing → List ℕ
crossing_bytes [] = []
crossing_bytes (c ∷ cs) = bytes_of c.node ++ (bytes_of c.parent ++ crossing_bytes cs)

-- 0, or the number of the first question that fails: "21, start plus length at most the lent string's length, first thing in this call;
-- 22, answer fits the lent table, after it .. no other is asked."
unfoldable pub crossing_refusal : (n start size count room : ℕ) → ℕ
crossing_refusal n start size count room =
    ask (leb (start + size) n) 21
    (ask (leb (16 * count) room) 22
    0)

-- The same, of a node table and a lent table.
abbrev pub crossing_refused : (n : ℕ) (nodes : List ℕ) (start size : ℕ) (before : List ℕ) → ℕ
crossing_refused n nodes start size before = crossing_refusal n start size (length (crossing n start size nodes)) (length before)

-- The answer: 2^32 and how many nodes were found, or the number of the question that fails.
unfoldable pub crossing_answer : (refused : ℕ) (found : List Crossing) → ℕ
crossing_answer refused found = cond (eqb refused 0) (2 ^ 32 + length found) refused

-- Every byte of the lent table after the call: "table unchanged by either", "what lies past an answer is untouched".
unfoldable pub crossing_table : (refused : ℕ) (found : List Crossing) (before : List ℕ) → List ℕ
crossing_table refused found before = cond (eqb refused 0) (crossing_bytes found ++ drop (16 * length found) before) before

-- What the call promises of a string of n bytes, a node table of any bytes, any range and any lent table.
pub record Crossed (n : ℕ) (nodes : List ℕ) (start size : ℕ) (before after : List ℕ) (r : ℕ) : Type 0 where
  pub answer : r ≡ crossing_answer (crossing_refused n nodes start size before) (crossing n start size nodes)
  pub table : after ≡ crossing_table (crossing_refused n nodes start size before) (crossing n start size nodes) before
