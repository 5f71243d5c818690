-- Writing the nodes' pairs one after the other: the pairs written and those of the nodes still to come are together all.
use mathlib.Core.List.{List, [], ◌∷◌, ◌++◌, map, append_assoc, append-nil}
use mathlib.Core.Path.{◌≡◌, refl, sym, ap, ◌∙◌}
use Prim.Native.Nat.{ℕ, zero, suc, ◌+◌, ◌*◌, ◌-◌, ◌≤◌, ◌<◌}
use native.Mathlib.Numerals.{add-one}
use native.Mathlib.Omega.{arith}
use lib.ListN.{length, get_or, take, replicate}
use lib.Seq.{take-suc-set}
use Rattle.node_table.specs.Entries.{id_at, level_at}
use Rattle.node_table.specs.Nodes.{entries_from}
use Rattle.node_table.proofs.Nodes.{from_zero, from_one}
use Rattle.entries.specs.declared.Entry.{Entry}
use Rattle.entries.specs.Entries.{entry, table_of, Put}
use Rattle.entries.proofs.Entries.{length_table, put_length}
use Rattle.shingle.specs.Shingles.{Listed, listed, sibling_of, pairs_after, pairs_of}
use Rattle.shingle.specs.Table.{node_as, nodes_in}
use Rattle.shingle.specs.Steps.{Followed, single, Written}
use Rattle.shingle.proofs.Siblings.{Remembered, remembered_none, remembered_next}

-- The first k nodes of a table, the last first.
pub first_nodes : List ℕ → ℕ → List Listed
first_nodes t zero = []
first_nodes t (suc k) = listed (level_at t k) (id_at t k) ∷ first_nodes t k

-- The nodes from entry k on, at most so many.
abbrev listed_from : List ℕ → ℕ → ℕ → List Listed
listed_from t left k = map node_as (entries_from t left k)

-- The pairs of the nodes from number k on, of at most n.
abbrev pairs_from : List ℕ → ℕ → ℕ → List Entry
pairs_from t n k = map single (pairs_after (first_nodes t k) (listed_from t (n - k) k))

listed_more : (t : List ℕ) (n k : ℕ) → k < n → (id_at t k ≡ 0 → ⊥)
    → listed_from t (n - k) k ≡ listed (level_at t k) (id_at t k) ∷ listed_from t (n - (k + 1)) (k + 1)
listed_more t n k h some =
    ap (λ (left : ℕ). listed_from t left k) {x = n - k} {y = suc (n - (k + 1))} (omega arith) ∙ ap (map node_as) (from_one t k some (n - (k + 1)))

pairs_zero : (t : List ℕ) (n k : ℕ) → id_at t k ≡ 0 → pairs_from t n k ≡ []
unfolding pairs_after
pairs_zero t n k e = rw (from_zero t k e (n - k))

pairs_full : (t : List ℕ) (n k : ℕ) → n ≤ k → pairs_from t n k ≡ []
unfolding pairs_after entries_from
pairs_full t n k h = let z : n - k ≡ 0 = omega arith in rw z

pairs_more : (t : List ℕ) (n k : ℕ) → k < n → (id_at t k ≡ 0 → ⊥)
    → pairs_from t n k ≡ entry (sibling_of (level_at t k) (first_nodes t k)) (id_at t k) (level_at t k * 65536 + 1) ∷ pairs_from t n (k + 1)
unfolding pairs_after first_nodes
pairs_more t n k h some = rw (listed_more t n k h some, add-one k)

pub record Listing (nodes before t last : List ℕ) (i : ℕ) : Type 0 where
  pub inside : i ≤ 4096
  pub room : 98304 ≤ length before
  pub long : length t ≡ length before
  pub remembered : Remembered last (first_nodes nodes i)
  pub pairs : take i (table_of t) ++ pairs_from nodes 4096 i ≡ map single (pairs_of (nodes_in nodes))

pub listing_start : (nodes t : List ℕ) → 98304 ≤ length t → Listing nodes t t (replicate 8 0) 0
unfolding pairs_of nodes_in first_nodes
listing_start nodes t h =
    record {
      inside = omega arith;
      room = h;
      long = refl;
      remembered = remembered_none;
      pairs = refl;
    }

module _ (nodes before t last : List ℕ) (i : ℕ) (c : Listing nodes before t last i) where
  written : pairs_from nodes 4096 i ≡ [] → Written nodes before t i
  written e = record { long = c.long; few = c.inside; pairs = sym (append-nil _) ∙ rw e at c.pairs }

  pub written_zero : id_at nodes i ≡ 0 → Written nodes before t i
  written_zero e = written (pairs_zero nodes 4096 i e)

  pub written_full : 4096 ≤ i → Written nodes before t 4096
  written_full h =
      let inside = c.inside in
      let all : i ≡ 4096 = omega arith in
      rw all at (written (pairs_full nodes 4096 i h))

module _ (nodes before t t' last next : List ℕ) (i : ℕ) (c : Listing nodes before t last i) (id level : ℕ) (e : Entry)
    (h : i < 4096) (is : id ≡ id_at nodes i) (some : id ≡ 0 → ⊥) (at : level ≡ level_at nodes i)
    (made : e ≡ entry (get_or last level 0) id (level * 65536 + 1)) (p : Put t t' i e) (f : Followed last level id next) where
  there : i < length (table_of t)
  there = let room = c.room in let long = c.long in omega (arith, length_table t)

  pair_is : e ≡ entry (sibling_of (level_at nodes i) (first_nodes nodes i)) (id_at nodes i) (level_at nodes i * 65536 + 1)
  pair_is =
      made ∙ rw (is, at, c.remembered.each (level_at nodes i) (omega arith))

  pub listing_next : Listing nodes before t' next (i + 1)
  unfolding first_nodes
  listing_next =
      let inside = c.inside in
      let rest = pairs_from nodes 4096 (i + 1) in
      let front : take (i + 1) (table_of t') ≡ take i (table_of t) ++ (e ∷ []) =
      ap (take (i + 1)) p.entries ∙ rw (add-one i) (take-suc-set (table_of t) i e there) in
      let nodes-left : pairs_from nodes 4096 i ≡ e ∷ rest =
      pairs_more nodes 4096 i h (λ z. some (is ∙ z)) ∙ ap (λ (x : Entry). x ∷ rest) (sym pair_is) in
      record {
        inside = omega arith;
        room = c.room;
        long = put_length t t' i e p ∙ c.long;
        remembered = rw (add-one i, ← is, ← at) (remembered_next last next (first_nodes nodes i) level id c.remembered f);
        pairs = ap (λ (l : List Entry). l ++ rest) front
            ∙ (append_assoc (take i (table_of t)) (e ∷ []) rest ∙ (ap (λ (l : List Entry). take i (table_of t) ++ l) (sym nodes-left) ∙ c.pairs));
      }
