-- Reading a shingle table entry by entry: one more shingle, the first count 0, and the table's end.
use mathlib.Core.Bool.{Bool, true, false, cond}
use mathlib.Core.List.{List, [], ◌∷◌}
use mathlib.Core.Path.{◌≡◌, refl, ◌∙◌}
use Prim.Native.Nat.{ℕ, zero, suc, ◌+◌, ◌/◌, ◌%◌, ◌≤◌, ◌<◌}
use native.Mathlib.Numerals.{add-one}
use native.Mathlib.Omega.{arith}
use borrow.Author.Tests.{eq-eqb, ne_eqb}
use lib.Dec.{eqb}
use lib.ListN.{length, get_or, drop, drop_of_length-le}
use lib.Seq.{drop-cons}
use Rattle.entries.specs.declared.Entry.{Entry}
use Rattle.entries.specs.Entries.{blank, table_of}
use Rattle.entries.proofs.Entries.{length_table}
use Rattle.shingle.specs.declared.Shingle.{Shingle}
use Rattle.shingle.specs.Table.{shingle_of, shingle_in_table, shingles_from, shingles_in, agree, holds}

-- The shingles from entry k on.
abbrev after : List ℕ → ℕ → List Shingle
after t k = shingles_from (drop k (table_of t))

pub size_start : (t : List ℕ) → 0 + length (after t 0) ≡ length (shingles_in t)
unfolding shingles_in
size_start t = omega arith

pub holds_start : (t : List ℕ) (s : Shingle) → holds s (after t 0) ≡ holds s (shingles_in t)
unfolding shingles_in
holds_start t s = refl

after_end : (t : List ℕ) (k : ℕ) → length t / 24 ≤ k → after t k ≡ []
unfolding shingles_from
after_end t k h = rw (drop_of_length-le (table_of t) {i = k} (simp length_table h))

pub size_end : (t : List ℕ) (k : ℕ) → k ≤ length t / 24 → length t / 24 ≤ k → k + length (after t k) ≡ length (shingles_in t)
    → length t / 24 ≡ length (shingles_in t)
size_end t k b h e = omega (arith, rw (after_end t k h) at e)

pub holds_end : (t : List ℕ) (s : Shingle) (k : ℕ) → length t / 24 ≤ k → holds s (after t k) ≡ holds s (shingles_in t) → false ≡ holds s (shingles_in t)
unfolding holds
holds_end t s k h e = rw (after_end t k h) at e

module _ (t : List ℕ) (k : ℕ) (e : Entry) (is : e ≡ get_or (table_of t) k blank) (h : k < length t / 24) where
  split : drop k (table_of t) ≡ e ∷ drop (k + 1) (table_of t)
  split = drop-cons (table_of t) k blank (omega (arith, length_table t)) ∙ rw (add-one, ← is)

  after_zero : e.tail % 65536 ≡ 0 → after t k ≡ []
  unfolding shingles_from
  after_zero z = rw (split, eq-eqb (e.tail % 65536) 0 z)

  after_next : (e.tail % 65536 ≡ 0 → ⊥) → after t k ≡ shingle_of e ∷ after t (k + 1)
  unfolding shingles_from
  after_next n = rw (split, ne_eqb (e.tail % 65536) 0 n)

  pub size_zero : e.tail % 65536 ≡ 0 → k + length (after t k) ≡ length (shingles_in t) → k ≡ length (shingles_in t)
  size_zero z s = omega (arith, rw (after_zero z) at s)

  pub size_next : (e.tail % 65536 ≡ 0 → ⊥) → k + length (after t k) ≡ length (shingles_in t) → k + 1 + length (after t (k + 1)) ≡ length (shingles_in t)
  size_next n s = omega (arith, rw (after_next n) at s)

  module _ (s : Shingle) (inv : holds s (after t k) ≡ holds s (shingles_in t)) where
    pub holds_zero : e.tail % 65536 ≡ 0 → false ≡ holds s (shingles_in t)
    unfolding holds
    holds_zero z = rw (after_zero z) at inv

    pub holds_here : (e.tail % 65536 ≡ 0 → ⊥) → agree s (shingle_of e) ≡ true → true ≡ holds s (shingles_in t)
    unfolding holds
    holds_here n a = rw (after_next n, a) at inv

    pub holds_next : (e.tail % 65536 ≡ 0 → ⊥) → agree s (shingle_of e) ≡ false → holds s (after t (k + 1)) ≡ holds s (shingles_in t)
    unfolding holds
    holds_next n a = rw (after_next n, a) at inv

-- Entry k of the list is entry k of the table.
from_at : (l : List Entry) (k : ℕ) → k < length (shingles_from l) → get_or (shingles_from l) k (shingle_of blank) ≡ shingle_of (get_or l k blank)
unfolding shingles_from
from_at [] k h = absurd (omega arith)
from_at (e ∷ l) k h = go (eqb (e.tail % 65536) 0) k h (λ j i. from_at l j i)
  where
    go : (t : Bool) (k : ℕ) → k < length (cond t [] (shingle_of e ∷ shingles_from l))
        → ((j : ℕ) → j < length (shingles_from l) → get_or (shingles_from l) j (shingle_of blank) ≡ shingle_of (get_or l j blank))
        → get_or (cond t [] (shingle_of e ∷ shingles_from l)) k (shingle_of blank) ≡ shingle_of (get_or (e ∷ l) k blank)
    go true k h rest = absurd (omega arith)
    go false zero h rest = refl
    go false (suc j) h rest = rest j (omega arith)

pub listed_at : (t : List ℕ) (k : ℕ) → k < length (shingles_in t) → get_or (shingles_in t) k (shingle_of blank) ≡ shingle_in_table t k
unfolding shingles_in
listed_at t k h = from_at (table_of t) k h
