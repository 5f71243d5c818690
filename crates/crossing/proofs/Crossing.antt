-- Going over a node table: the entries passed and those still to come are together all; and the pairs as they are written.
use mathlib.Core.Bool.{Bool, true, false, cond, and-true, and-false}
use mathlib.Core.List.{List, [], ◌∷◌, ◌++◌, append_assoc}
use mathlib.Core.Path.{◌≡◌, refl, sym, ap, ◌∙◌}
use Prim.Native.Nat.{ℕ, ◌+◌, ◌*◌, ◌-◌, ◌/◌, ◌≤◌, ◌<◌, max, min}
use native.Mathlib.Nat.{sub-zero}
use native.Mathlib.Omega.{arith}
use borrow.Author.Tests.{le-leb, lt-leb, lt-ltb, le-ltb}
use lib.ListN.{length, drop, length-append, take-append-drop}
use Rattle.rows.specs.Rows.{bytes_of, store_of, put, Stored}
use Rattle.rows.proofs.Put.{length_bytes, length-put, put-put, store_two}
use Rattle.node_table.specs.Entries.{id_at, parent_at, start_at, size_at, entry_at}
use Rattle.node_table.specs.Nodes.{inside, entries_from, entries_in}
use Rattle.node_table.proofs.Nodes.{from_zero, from_past, from_here}
use Rattle.tree.specs.Questions.{ask}
use Rattle.crossing.specs.Crossing.{crosses, Crossing, crossing_from, crossing, crossing_bytes, crossing_refusal, crossing_answer, crossing_table, Crossed}
use Rattle.crossing.specs.Steps.{Noted}

-- Whether entry k is crossed, from the later of the first bytes and the earlier of the ends.
module _ (nodes : List ℕ) (n start size k low high : ℕ)
    (l : low ≡ max start (start_at nodes k)) (h : high ≡ min (start + size) (start_at nodes k + size_at nodes k)) where
  pub apart : high ≤ low → false ≡ crosses n start size (entry_at nodes k)
  unfolding crosses
  apart g = rw (← l, ← h, le-ltb low high g) (sym (and-false (inside n (entry_at nodes k))))

  pub meeting : (r : Bool) → low < high → r ≡ inside n (entry_at nodes k) → r ≡ crosses n start size (entry_at nodes k)
  unfolding crosses
  meeting r g e = rw (← l, ← h, lt-ltb low high g) (e ∙ sym (and-true (inside n (entry_at nodes k))))

-- The crossed nodes from entry k on.
unfoldable pub rest : (nodes : List ℕ) (n start size k : ℕ) → List Crossing
rest nodes n start size k = crossing_from n start size k (entries_from nodes (length nodes / 16 - k) k)

module _ (nodes : List ℕ) (n start size : ℕ) where
  rest_all : rest nodes n start size 0 ≡ crossing n start size nodes
  unfolding rest crossing entries_in
  rest_all = rw (sub-zero (length nodes / 16))

  module _ (k : ℕ) where
    rest_none : entries_from nodes (length nodes / 16 - k) k ≡ [] → rest nodes n start size k ≡ []
    unfolding rest crossing_from
    rest_none e = rw e

    rest_end : length nodes / 16 ≤ k → rest nodes n start size k ≡ []
    rest_end h = rest_none (from_past nodes k h)

    rest_zero : id_at nodes k ≡ 0 → rest nodes n start size k ≡ []
    rest_zero z = rest_none (from_zero nodes k z (length nodes / 16 - k))

    module _ (some : id_at nodes k ≡ 0 → ⊥) where
      rest_one : rest nodes n start size k
          ≡ cond (crosses n start size (entry_at nodes k))
          (record { node = k; parent = parent_at nodes k } ∷ rest nodes n start size (k + 1))
          (rest nodes n start size (k + 1))
      unfolding rest crossing_from
      rest_one = ap (crossing_from n start size k) (from_here nodes k some)

      rest_crossed : crosses n start size (entry_at nodes k) ≡ true
          → rest nodes n start size k ≡ record { node = k; parent = parent_at nodes k } ∷ rest nodes n start size (k + 1)
      rest_crossed c = rest_one ∙ rw c

      rest_passed : crosses n start size (entry_at nodes k) ≡ false → rest nodes n start size k ≡ rest nodes n start size (k + 1)
      rest_passed c = rest_one ∙ rw c

-- So many are found before entry k.
pub record Counting (nodes : List ℕ) (n start size k found : ℕ) : Type 0 where
  pub range : start + size ≤ n
  pub bound : k ≤ length nodes / 16
  pub few : found ≤ k
  pub all : found + length (rest nodes n start size k) ≡ length (crossing n start size nodes)

module _ (nodes : List ℕ) (n start size : ℕ) where
  pub count_start : start + size ≤ n → Counting nodes n start size 0 0
  count_start h =
      let all = ap length (rest_all nodes n start size) in
      record { range = h; bound = omega arith; few = omega arith; all = omega arith }

  module _ (k found : ℕ) (c : Counting nodes n start size k found) where
    none_left : rest nodes n start size k ≡ [] → found ≡ length (crossing n start size nodes)
    none_left e = let all = c.all in let z : length (rest nodes n start size k) ≡ 0 = ap length e in omega arith

    pub count_end : length nodes / 16 ≤ k → found ≡ length (crossing n start size nodes)
    count_end h = none_left (rest_end nodes n start size k h)

    module _ (h : k < length nodes / 16) where
      pub count_zero : id_at nodes k ≡ 0 → found ≡ length (crossing n start size nodes)
      count_zero z = none_left (rest_zero nodes n start size k z)

      module _ (some : id_at nodes k ≡ 0 → ⊥) where
        pub count_crossed : (r : ℕ) → r ≡ found + 1 → crosses n start size (entry_at nodes k) ≡ true → Counting nodes n start size (k + 1) r
        count_crossed r f e =
            let few = c.few in
            let all = c.all in
            let more = ap length (rest_crossed nodes n start size k some e) in
            record { range = c.range; bound = omega arith; few = omega arith; all = omega arith }

        pub count_passed : (r : ℕ) → r ≡ found → crosses n start size (entry_at nodes k) ≡ false → Counting nodes n start size (k + 1) r
        count_passed r f e =
            let few = c.few in
            let all = c.all in
            let same = ap length (rest_passed nodes n start size k some e) in
            record { range = c.range; bound = omega arith; few = omega arith; all = omega arith }

-- Entry k written as pair number `at`, or not.
module _ (nodes : List ℕ) (n start size k at : ℕ) (t : List ℕ) where
  pub note_crossed : (t₁ t₂ : List ℕ) (parent : ℕ) → crosses n start size (entry_at nodes k) ≡ true
      → Stored t t₁ (at * 2) k → parent ≡ parent_at nodes k → Stored t₁ t₂ (at * 2 + 1) parent → Noted n start size nodes k t t₂ at (at + 1)
  note_crossed t₁ t₂ parent c one is two =
      record { count = rw c; table = rw (c, ← is, ← one.bytes) two.bytes }

  pub note_passed : crosses n start size (entry_at nodes k) ≡ false → Noted n start size nodes k t t at at
  note_passed c = record { count = rw c; table = rw c }

-- The call's answers: the two refusals, and what was found.
module _ (n : ℕ) (nodes : List ℕ) (start size : ℕ) (before : List ℕ) where
  pub beyond_string : n < start + size → Crossed n nodes start size before before 21
  unfolding crossing_refusal ask crossing_answer crossing_table
  beyond_string h = let no = lt-leb (start + size) n h in record { answer = rw no; table = rw no }

  module _ (found : ℕ) (f : found ≡ length (crossing n start size nodes)) (h : start + size ≤ n) where
    pub beyond_table : length before / 16 < found → Crossed n nodes start size before before 22
    unfolding crossing_refusal ask crossing_answer crossing_table
    beyond_table g =
        let yes = le-leb (start + size) n h in
        let no = lt-leb (16 * length (crossing n start size nodes)) (length before) (omega arith) in
        record { answer = rw (yes, no); table = rw (yes, no) }

    pub crossed_found : (after : List ℕ) → found ≤ length before / 16
        → after ≡ crossing_bytes (crossing n start size nodes) ++ drop (16 * length (crossing n start size nodes)) before
        → Crossed n nodes start size before after (4294967296 + found)
    unfolding crossing_refusal ask crossing_answer crossing_table
    crossed_found after g e =
        let yes = le-leb (start + size) n h in
        let fits = le-leb (16 * length (crossing n start size nodes)) (length before) (omega arith) in
        record { answer = rw (yes, fits, f); table = rw (yes, fits) e }

length_pairs : (cs : List Crossing) → length (crossing_bytes cs) ≡ 16 * length cs
unfolding crossing_bytes
length_pairs [] = refl
length_pairs (c ∷ cs) = simp (length-append, length_bytes, length_pairs cs) (omega arith)

-- The table with pairs from pair number `at` on.
abbrev pub written : List ℕ → ℕ → List Crossing → List ℕ
written t at cs = put t (at * 16) (crossing_bytes cs)

written_none : (t : List ℕ) (at : ℕ) → written t at [] ≡ t
unfolding put crossing_bytes
written_none t at = let same : at * 16 + 0 ≡ at * 16 = omega arith in rw same (take-append-drop (at * 16) t)

-- A pair put in its place is one that is written.
module _ (t after : List ℕ) (at : ℕ) (c : Crossing) (room : 16 * at + 16 ≤ length t)
    (stored : after ≡ store_of (store_of t (at * 2) c.node) (at * 2 + 1) c.parent) where
  abbrev pair : List ℕ
  pair = bytes_of c.node ++ bytes_of c.parent

  pair_put : after ≡ put t (at * 16) pair
  pair_put = store_two t (store_of t (at * 2) c.node) after at c.node c.parent (omega arith) refl stored

  long : length pair ≡ 16
  long = simp (length-append, length_bytes)

  note_length : length after ≡ length t
  note_length = ap length pair_put ∙ length-put t pair (at * 16) (omega (arith, long))

  written_one : (cs : List Crossing) → written t at (c ∷ cs) ≡ written after (at + 1) cs
  unfolding crossing_bytes
  written_one cs =
      ap (put t (at * 16)) (sym (append_assoc (bytes_of c.node) (bytes_of c.parent) (crossing_bytes cs)))
      ∙ (sym (put-put t pair (crossing_bytes cs) (at * 16) ((at + 1) * 16) (omega (arith, long)) (omega arith))
      ∙ ap (λ (u : List ℕ). put u ((at + 1) * 16) (crossing_bytes cs)) (sym pair_put))

written_all : (t : List ℕ) (cs : List Crossing) → written t 0 cs ≡ crossing_bytes cs ++ drop (16 * length cs) t
unfolding put
written_all t cs = let all : 0 * 16 + length (crossing_bytes cs) ≡ 16 * length cs = omega (arith, length_pairs cs) in rw all

-- So many pairs are written before entry k, and there is room for those to come.
pub record Writing (nodes : List ℕ) (n start size : ℕ) (before now : List ℕ) (k at : ℕ) : Type 0 where
  pub range : start + size ≤ n
  pub bound : k ≤ length nodes / 16
  pub few : at ≤ k
  pub room : 16 * (at + length (rest nodes n start size k)) ≤ length now
  pub table : written now at (rest nodes n start size k) ≡ written before 0 (crossing n start size nodes)

module _ (nodes : List ℕ) (n start size : ℕ) (before : List ℕ) where
  pub write_start : start + size ≤ n → 16 * length (crossing n start size nodes) ≤ length before → Writing nodes n start size before before 0 0
  write_start h fits =
      let all = rest_all nodes n start size in
      let many = ap length all in
      record { range = h; bound = omega arith; few = omega arith; room = omega arith; table = rw all }

  module _ (now : List ℕ) (k at : ℕ) (w : Writing nodes n start size before now k at) where
    none_to_write : rest nodes n start size k ≡ []
        → now ≡ crossing_bytes (crossing n start size nodes) ++ drop (16 * length (crossing n start size nodes)) before
    none_to_write e = sym (written_none now at) ∙ (sym (ap (written now at) e) ∙ (w.table ∙ written_all before (crossing n start size nodes)))

    pub write_end : length nodes / 16 ≤ k
        → now ≡ crossing_bytes (crossing n start size nodes) ++ drop (16 * length (crossing n start size nodes)) before
    write_end h = none_to_write (rest_end nodes n start size k h)

    module _ (h : k < length nodes / 16) where
      pub write_zero : id_at nodes k ≡ 0
          → now ≡ crossing_bytes (crossing n start size nodes) ++ drop (16 * length (crossing n start size nodes)) before
      write_zero z = none_to_write (rest_zero nodes n start size k z)

      pub write_next : (after : List ℕ) (r : ℕ) → (id_at nodes k ≡ 0 → ⊥) → Noted n start size nodes k now after at r
          → Writing nodes n start size before after (k + 1) r
      write_next after r some p = turn (crosses n start size (entry_at nodes k)) refl
        where
          turn : (b : Bool) → crosses n start size (entry_at nodes k) ≡ b → Writing nodes n start size before after (k + 1) r
          turn true c =
              let few = w.few in
              let more = rest_crossed nodes n start size k some c in
              let many = ap length more in
              let room = w.room in
              let next : r ≡ at + 1 = p.count ∙ rw c in
              let here : Crossing = record { node = k; parent = parent_at nodes k } in
              let stored : after ≡ store_of (store_of now (at * 2) k) (at * 2 + 1) (parent_at nodes k) = p.table ∙ rw c in
              let long = note_length now after at here (omega arith) stored in
              record {
                range = w.range;
                bound = omega arith;
                few = omega arith;
                room = omega arith;
                table = rw next
                    (sym (written_one now after at here (omega arith) stored (rest nodes n start size (k + 1))) ∙ (sym (ap (written now at) more) ∙ w.table));
              }
          turn false c =
              let few = w.few in
              let same = rest_passed nodes n start size k some c in
              let next : r ≡ at = p.count ∙ rw c in
              let kept : after ≡ now = p.table ∙ rw c in
              record {
                range = w.range;
                bound = omega arith;
                few = omega arith;
                room = rw (next, kept, ← same) w.room;
                table = rw (next, kept, ← same) w.table;
              }
