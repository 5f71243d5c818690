-- What the search for a level and an id found in a node table.
use mathlib.Core.Bool.{true, ◌&&◌, and-eq-true_iff}
use mathlib.Core.List.{List, [], ◌∷◌}
use mathlib.Core.Path.{◌≡◌, refl, sym, ◌∙◌}
use Prim.Native.Nat.{ℕ, ◌+◌, ◌-◌, ◌/◌, ◌≤◌}
use native.Mathlib.Decide.{dec_le}
use native.Mathlib.Omega.{arith}
use borrow.Author.Tests.{eq-eqb, ne_eqb, le-leb, lt-leb}
use lib.Dec.{eqb, leb}
use lib.ListN.{length}
use Rattle.node_table.specs.Entries.{id_at, entry_at}
use Rattle.node_table.specs.Nodes.{inside, entries_from, entries_in, from_first, place_of, sought}
use Rattle.node_table.proofs.Nodes.{first_alike, found, found_passes, not_found}
use Rattle.reply.specs.Parts.{asked}

-- From l to l there is l alone.
one_level : (l x : ℕ) → leb l x && leb x l ≡ eqb x l
one_level l x = low (dec_le l x) (dec_le x l)
  where
    low : Dec (l ≤ x) → Dec (x ≤ l) → leb l x && leb x l ≡ eqb x l
    low (yes a) (yes b) = rw (le-leb l x a, le-leb x l b) (sym (eq-eqb x l (omega arith)))
    low (yes a) (no b) = rw (le-leb l x a, lt-leb x l (omega arith)) (sym (ne_eqb x l (λ e. omega arith)))
    low (no a) b = rw (lt-leb l x (omega arith)) (sym (ne_eqb x l (λ e. omega arith)))

module _ (nodes : List ℕ) (n l i k : ℕ) (is : k ≡ place_of (sought n l l i) (entries_in nodes)) where
  alike : (j : ℕ) → asked n l i (entry_at nodes j) ≡ sought n l l i (entry_at nodes j)
  unfolding sought
  alike j = rw (one_level l (entry_at nodes j).level) refl

  same : from_first (asked n l i) (entries_in nodes) ≡ from_first (sought n l l i) (entries_in nodes)
  unfolding entries_in
  same = first_alike nodes _ _ alike _ 0

  pub none_asked : id_at nodes k ≡ 0 → from_first (asked n l i) (entries_in nodes) ≡ []
  none_asked z = same ∙ not_found nodes (sought n l l i) (rw is at z)

  module _ (some : id_at nodes k ≡ 0 → ⊥) where
    pub first_asked : from_first (asked n l i) (entries_in nodes) ≡ entry_at nodes k ∷ entries_from nodes (length nodes / 16 - (k + 1)) (k + 1)
    first_asked = same ∙ rw is (found nodes (sought n l l i) (rw is at some))

    pub asked_inside : inside n (entry_at nodes k) ≡ true
    unfolding sought
    asked_inside =
        let passes : sought n l l i (entry_at nodes k) ≡ true = rw is (found_passes nodes (sought n l l i) (rw is at some)) in
        ((and-eq-true_iff (inside n (entry_at nodes k)) _).0 passes).0
