-- Looking an id up: the first entry with that id, at any level, is the block of the definition.
use Rattle.std.proofs.Common.{None, Some}
use mathlib.Core.Bool.{Bool, true, ◌&&◌, and-eq-true_iff}
use mathlib.Core.List.{List}
use mathlib.Core.Option.{some}
use mathlib.Core.Path.{◌≡◌, refl, sym, ap, ◌∙◌}
use Prim.Native.Nat.{ℕ, ◌+◌, ◌≤◌}
use native.Mathlib.Omega.{arith}
use lib.Dec.{eqb}
use lib.ListN.{length, take, drop}
use borrow.Author.Tests.{le-leb, leb-true}
use Rattle.node_table.specs.declared.Entry.{Entry}
use Rattle.node_table.specs.Entries.{id_at, level_at, start_at, size_at, entry_at}
use Rattle.node_table.specs.Nodes.{entries_in, inside, from_first, place_of, sought}
use Rattle.node_table.proofs.Nodes.{first_alike, found, found_passes, not_found}
use Rattle.copying.specs.Copying.{Finds}
use Rattle.protocol.specs.Nodes.{block_in, first_block, look}

module _ (string nodes : List ℕ) (id k : ℕ) (is : k ≡ place_of (sought (length string) 0 7 id) (entries_in nodes)) where
  abbrev test : Entry → Bool
  test = sought (length string) 0 7 id

  -- Every level is from 0 to 7.
  any_level : (j : ℕ) → (inside (length string) (entry_at nodes j) && eqb (id_at nodes j) id) ≡ test (entry_at nodes j)
  unfolding sought
  any_level j = rw (le-leb 0 (level_at nodes j) (omega arith), le-leb (level_at nodes j) 7 (omega arith)) refl

  looked : look string nodes id ≡ first_block string (from_first test (entries_in nodes))
  unfolding look entries_in
  looked = ap (first_block string) (first_alike nodes _ test any_level _ 0)

  pub nowhere : id_at nodes k ≡ 0 → Finds string nodes id None
  unfolding first_block
  nowhere z = looked ∙ ap (first_block string) (not_found nodes test (rw is at z))

  module _ (some_id : id_at nodes k ≡ 0 → ⊥) (start size : ℕ) (start_is : start ≡ start_at nodes k) (size_is : size ≡ size_at nodes k) where
    passes : test (entry_at nodes k) ≡ true
    passes = rw is (found_passes nodes test (rw is at some_id))

    fits : start + size ≤ length string
    unfolding sought
    fits =
        let in-string = leb-true (start_at nodes k + size_at nodes k) (length string) ((and-eq-true_iff (inside (length string) (entry_at nodes k)) _).0 passes).0 in
        omega (arith, in-string)

    pub there_it_is : Finds string nodes id (Some (record { start = start; size = size }))
    unfolding first_block block_in
    there_it_is =
        let here : look string nodes id ≡ some (take (size_at nodes k) (drop (start_at nodes k) string)) =
        looked ∙ rw is (ap (first_block string) (found nodes test (rw is at some_id))) in
        record {
          is = here ∙ (λ i. some (take (sym size_is i) (drop (sym start_is i) string)));
          inside = fits;
        }
