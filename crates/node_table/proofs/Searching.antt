-- Searching a table for the first listed entry that passes a test: the start, one turn, and each way out.
use mathlib.Core.Bool.{Bool, true, false, ◌&&◌, and-true, and-false}
use mathlib.Core.List.{List, []}
use mathlib.Core.Path.{◌≡◌, refl, sym, ◌∙◌}
use Prim.Native.Nat.{ℕ, suc, ◌+◌, ◌-◌, ◌/◌, ◌≤◌, ◌<◌}
use native.Mathlib.Nat.{sub-zero}
use native.Mathlib.Omega.{arith}
use borrow.Author.Tests.{eq-eqb, ne_eqb, le-leb, lt-leb}
use lib.Dec.{leb}
use lib.ListN.{length}
use Rattle.node_table.specs.declared.Entry.{Entry}
use Rattle.node_table.specs.Entries.{id_at, level_at, entry_at}
use Rattle.node_table.specs.Nodes.{entries_from, entries_in, inside, place_of, sought}
use Rattle.node_table.proofs.Entries.{there}
use Rattle.node_table.proofs.Nodes.{from_zero, from_past, from_here}

-- One entry against what is sought.
module _ (t : List ℕ) (n low high i k : ℕ) where
  other : (test : Bool) → test ≡ false → false ≡ inside n (entry_at t k) && test
  other test e = rw e (sym (and-false (inside n (entry_at t k))))

  pub other_id : (id : ℕ) → id ≡ id_at t k → (id ≡ i → ⊥) → false ≡ sought n low high i (entry_at t k)
  unfolding sought
  other_id id e h = other _ (rw (← e, ne_eqb id i h) (and-false (leb low (level_at t k) && leb (level_at t k) high)))

  module _ (level : ℕ) (is : level ≡ level_at t k) where
    pub below : level < low → false ≡ sought n low high i (entry_at t k)
    unfolding sought
    below h = other _ (rw (← is, lt-leb low level h) refl)

    pub above : high < level → false ≡ sought n low high i (entry_at t k)
    unfolding sought
    above h = other _ (rw (← is, lt-leb level high h, and-false (leb low level)) refl)

    pub matching : (id : ℕ) (r : Bool) → id ≡ id_at t k → id ≡ i → low ≤ level → level ≤ high → r ≡ inside n (entry_at t k)
        → r ≡ sought n low high i (entry_at t k)
    unfolding sought
    matching id r e h l m s =
        rw (← e, ← is, eq-eqb id i h, le-leb low level l, le-leb level high m) (s ∙ sym (and-true (inside n (entry_at t k))))

-- None of the entries before entry k passes the test.
module _ (t : List ℕ) (test : Entry → Bool) where
  pub record Searching (k : ℕ) : Type 0 where
    pub bound : k ≤ length t / 16
    pub rest : place_of test (entries_in t) ≡ k + place_of test (entries_from t (length t / 16 - k) k)

  pub search_start : Searching 0
  unfolding entries_in
  search_start =
      let whole : place_of test (entries_in t) ≡ place_of test (entries_from t (length t / 16) 0) = refl in
      record { bound = omega arith; rest = rw (sub-zero (length t / 16)) (omega (arith, whole)) }

  module _ (k : ℕ) (s : Searching k) where
    none_left : entries_from t (length t / 16 - k) k ≡ [] → k ≡ place_of test (entries_in t)
    unfolding place_of
    none_left e = let still : place_of test (entries_in t) ≡ k + 0 = rw e at s.rest in omega (arith, still)

    pub search_end : length t / 16 ≤ k → k ≡ place_of test (entries_in t)
    search_end h = none_left (from_past t k h)

    pub search_zero : id_at t k ≡ 0 → k ≡ place_of test (entries_in t)
    search_zero z = none_left (from_zero t k z (length t / 16 - k))

    module _ (some : id_at t k ≡ 0 → ⊥) where
      pub search_here : test (entry_at t k) ≡ true → k ≡ place_of test (entries_in t)
      unfolding place_of
      search_here m =
          let still : place_of test (entries_in t) ≡ k + 0 = rw (from_here t k some, m) at s.rest in
          omega (arith, still)

      pub search_next : test (entry_at t k) ≡ false → Searching (k + 1)
      unfolding place_of
      search_next m =
          let still : place_of test (entries_in t) ≡ k + suc (place_of test (entries_from t (length t / 16 - (k + 1)) (k + 1))) =
          rw (from_here t k some, m) at s.rest in
          record { bound = omega (arith, there t k some); rest = omega (arith, still) }
