-- A string's shingle list, written to a table, is read from it again.
use mathlib.Core.List.{List, [], ◌∷◌, ◌++◌, map, append_assoc}
use mathlib.Core.Path.{◌≡◌, refl, ap, ◌∙◌}
use Prim.Native.Nat.{ℕ, ◌+◌, ◌*◌, ◌-◌, ◌≤◌, ◌<◌}
use native.Mathlib.Omega.{arith}
use lib.Dec.{eqb, ltb}
use lib.ListN.{length, replicate, length-map, length-append, length-replicate}
use Rattle.rows.specs.Rows.{words_of, bytes_of}
use Rattle.rows.proofs.Rows.{words_cons}
use Rattle.fnv.proofs.Fnv.{block_id_small}
use Rattle.tree.specs.declared.Settings.{Settings}
use Rattle.tree.specs.Tree.{Node, nodes_of}
use Rattle.node_table.specs.Laws.{Each, none, both}
use Rattle.tree.proofs.Tree.{nodes_shallow}
use Rattle.entries.specs.declared.Entry.{Entry}
use Rattle.entries.specs.Entries.{entries_of, table_of, entry_bytes, table_bytes}
use Rattle.shingle.specs.declared.Shingle.{Shingle}
use Rattle.shingle.specs.Shingles.{Listed, Pair, pair_of, lower, sibling_of, pairs_after, pairs_of, counting, counted, shingles_of}
use Rattle.shingle.specs.Children.{listed_of}
use Rattle.shingle.specs.Table.{entry_of, shingles_in}
use Rattle.shingle.proofs.Counts.{Counts, none as no_counts, more, counts_counted}
use Rattle.shingle.proofs.Rising.{length_pairs}
use Rattle.shingle.proofs.Written.{written_list}
use Rattle.setup.specs.Tables.{shingles_of_string}
use Rattle.setup.proofs.Sizes.{length_shingles}
use Rattle.single.specs.Peeling.{list_table}
use Rattle.protocol.specs.Calls.{Every}
use Rattle.protocol.proofs.Cases.{chosen}

-- Ids of 64 bits, and a level up to L.
pub record Low (levels level previous own : ℕ) : Type 0 where
  pub shallow : level ≤ levels
  pub before : previous < 18446744073709551616
  pub itself : own < 18446744073709551616

abbrev LowPair : ℕ → Pair → Type 0
LowPair levels k = Low levels k.level k.previous k.own

abbrev pub LowShingle : ℕ → Shingle → Type 0
LowShingle levels s = Low levels s.level s.previous s.own

module _ (levels : ℕ) where
  low_counting : (k : Pair) (ss : List Shingle) → LowPair levels k → Every (LowShingle levels) ss → Every (LowShingle levels) (counting k ss)
  unfolding counting Every
  low_counting k [] h g = (h, tt)
  low_counting k (s ∷ ss) h g =
      chosen (Every (LowShingle levels)) (lower (pair_of s) k) _ _
      (λ e. (g.0, low_counting k ss h g.1))
      (λ e. chosen (Every (LowShingle levels)) (lower k (pair_of s)) _ _ (λ f. (h, g)) (λ f. (h, g.1)))

  low_counted : (ks : List Pair) → Every (LowPair levels) ks → Every (LowShingle levels) (counted ks)
  unfolding counted Every
  low_counted [] h = tt
  low_counted (k ∷ ks) h = low_counting k (counted ks) h.0 (low_counted ks h.1)

  -- A node as it is listed has such an id and level.
  record LowNode (n : Listed) : Type 0 where
    shallow : n.level ≤ levels
    small : n.id < 18446744073709551616

  low_sibling : (l : ℕ) (ns : List Listed) → Every LowNode ns → sibling_of l ns < 18446744073709551616
  unfolding sibling_of Every
  low_sibling l [] h = omega arith
  low_sibling l (n ∷ ns) h =
      chosen Below (ltb l n.level) _ _ (λ e. low_sibling l ns h.1) (λ e. chosen Below (eqb n.level l) n.id 0 (λ f. h.0.small) (λ f. omega arith))
    where
      Below : ℕ → Type 0
      Below x = x < 18446744073709551616

  low_pairs : (before ns : List Listed) → Every LowNode before → Every LowNode ns → Every (LowPair levels) (pairs_after before ns)
  unfolding pairs_after Every
  low_pairs before [] h g = tt
  low_pairs before (n ∷ ns) h g =
      (record { shallow = g.0.shallow; before = low_sibling n.level before h; itself = g.0.small }, low_pairs (n ∷ before) ns (g.0, h) g.1)

  low_all : (ns : List Listed) → Every LowNode ns → Every (LowPair levels) (pairs_of ns)
  unfolding pairs_of Every
  low_all ns h = low_pairs [] ns tt h

  low_listed : {ns : List Node} → Each (λ n. n.level ≤ levels) ns → Every LowNode (map listed_of ns)
  unfolding Every
  low_listed none = tt
  low_listed (both {n = n} p ps) = (record { shallow = p; small = block_id_small n.bytes }, low_listed ps)

-- So has every shingle of a string's list.
pub list_low : (σ : Settings) (string : List ℕ) → Every (LowShingle σ.levels) (shingles_of_string σ string)
unfolding shingles_of_string shingles_of
list_low σ string =
    let nodes = map listed_of (nodes_of σ string) in
    low_counted σ.levels (pairs_of nodes) (low_all σ.levels nodes (low_listed σ.levels (nodes_shallow σ string)))

-- Entries of such shingles are read back.
table_again : {m : ℕ} (levels : ℕ) (ss : List Shingle) → m ≤ 4096 → levels ≤ 4 → Counts m ss → Every (LowShingle levels) ss
    → table_of (table_bytes (map entry_of ss)) ≡ map entry_of ss
unfolding table_bytes entry_bytes entries_of words_of Every
table_again levels [] h d no_counts g = refl
table_again levels (s ∷ ss) h d (more low high c) g =
    let tail = s.level * 65536 + s.count in
    let rest = table_bytes (map entry_of ss) in
    let split : (bytes_of s.previous ++ (bytes_of s.own ++ bytes_of tail)) ++ rest ≡ bytes_of s.previous ++ (bytes_of s.own ++ (bytes_of tail ++ rest)) =
    append_assoc (bytes_of s.previous) (bytes_of s.own ++ bytes_of tail) rest
    ∙ ap (λ (x : List ℕ). bytes_of s.previous ++ x) (append_assoc (bytes_of s.own) (bytes_of tail) rest) in
    let words : words_of ((bytes_of s.previous ++ (bytes_of s.own ++ bytes_of tail)) ++ rest) ≡ s.previous ∷ s.own ∷ tail ∷ words_of rest =
    ap words_of split
    ∙ (words_cons s.previous _ g.0.before
    ∙ ap (λ (x : List ℕ). s.previous ∷ x) (words_cons s.own _ g.0.itself
    ∙ ap (λ (x : List ℕ). s.own ∷ x) (words_cons tail rest (let l = g.0.shallow in omega (arith, l, d, high, h))))) in
    ap entries_of words ∙ ap (λ (es : List Entry). entry_of s ∷ es) (table_again levels ss h d c g.1)

module _ (σ : Settings) (string : List ℕ) (levels : σ.levels ≤ 4) (few : length (nodes_of σ string) ≤ 4096) where
  pub list_read : (room : ℕ) → shingles_in (list_table room (shingles_of_string σ string)) ≡ shingles_of_string σ string
  unfolding list_table shingles_of_string shingles_of
  list_read room =
      let nodes = map listed_of (nodes_of σ string) in
      let many : length (pairs_of nodes) ≤ 4096 = omega (arith, few, length_pairs nodes, length-map (nodes_of σ string) listed_of) in
      let counts = counts_counted (pairs_of nodes) in
      let low : Every (LowShingle σ.levels) (counted (pairs_of nodes)) = list_low σ string in
      written_list (table_bytes (map entry_of (counted (pairs_of nodes)))) (room - 24 * length (counted (pairs_of nodes))) (length (pairs_of nodes)) (counted (pairs_of nodes))
      (let e = length_shingles (counted (pairs_of nodes)) in omega (arith, e))
      (table_again σ.levels (counted (pairs_of nodes)) many levels counts low) (omega (arith, many)) counts

  pub list_long : (room : ℕ) → room ≤ length (list_table room (shingles_of_string σ string))
  unfolding list_table
  list_long room =
      let list = shingles_of_string σ string in
      let front = length_shingles list in
      let both = length-append (table_bytes (map entry_of list)) (replicate (room - 24 * length list) 0) in
      let zeros = length-replicate {A = ℕ} (room - 24 * length list) 0 in
      omega (arith, front, both, zeros)
