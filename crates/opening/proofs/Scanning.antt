-- Reading the list of a shingle table: a test that is asked at each place, and the list's end.
use Rattle.std.specs.Bool.{MatchBool}
use Rattle.std.specs.List.{AllWithin, HoldsAt, range_with_len}
use Rattle.std.proofs.lemmas.List.FromFn.{length-range_with_len, get_or-range_with_len}
use mathlib.Core.Bool.{Bool, true, false, ◌&&◌, cond}
use mathlib.Core.List.{List, [], ◌∷◌, ◌++◌}
use mathlib.Core.Path.{◌≡◌, refl, sym, ap, ap₂, ◌∙◌}
use Prim.Native.Nat.{ℕ, zero, suc, ◌+◌, ◌*◌, ◌-◌, ◌%◌, ◌≤◌, ◌<◌}
use native.Mathlib.Numerals.{add-one}
use native.Mathlib.Omega.{arith}
use lib.Dec.{eqb}
use lib.ListN.{length, get_or, take, drop, length-drop, take-append-drop}
use lib.Seq.{drop_at, take_all, length-take-le}
use Rattle.entries.specs.declared.Entry.{Entry}
use Rattle.entries.specs.Entries.{table_of}
use Rattle.entries.proofs.Entries.{length_table, table_append}
use Rattle.shingle.specs.declared.Shingle.{Shingle}
use Rattle.shingle.specs.Table.{shingle_of, shingle_in_table, shingles_from, shingles_in}
use Rattle.pairs.proofs.Reading.{here, from_long, list_long}

pub list_room : (t : List ℕ) (n : ℕ) → n ≡ length (shingles_in t) → n * 24 ≤ length t
list_room t n e = omega (arith, list_long t)

-- What `all` answers about the numbers below n: each passes the test, or one does not.
abbrev pub Asked : ℕ → Bool → (ℕ → Bool) → Type 0
Asked n r test =
    let places = range_with_len 0 (n - 0) in
    MatchBool r (AllWithin (λ k. test k ≡ true) places 0 (length places)) ((k : ℕ) × (k < length places) × HoldsAt (λ k. test k ≡ false) places k)

place : (n k : ℕ) → k < n → get_or (range_with_len 0 (n - 0)) k 0 ≡ k
place n k less = get_or-range_with_len 0 (n - 0) k 0 (omega arith) ∙ omega arith

asked_true : (n : ℕ) (test : ℕ → Bool) → Asked n true test → (k : ℕ) → k < n → test k ≡ true
asked_true n test each k less =
    ap test (sym (place n k less)) ∙ each k 0 (omega arith) (omega (arith, length-range_with_len 0 (n - 0)))

asked_false : (n : ℕ) (test : ℕ → Bool) → Asked n false test → (k : ℕ) × (k < n) × (test k ≡ false)
asked_false n test (k, less, fails) =
    let below : k < n = omega (arith, less, length-range_with_len 0 (n - 0)) in
    (k, below, ap test (sym (place n k below)) ∙ fails 0)

-- A test of a list that asks the same of each shingle and of what follows it.
module _ (f : List Shingle → Bool) (g : Shingle → List Shingle → Bool) (nil : f [] ≡ true) (step : (s : Shingle) (ss : List Shingle) → f (s ∷ ss) ≡ (g s ss && f ss)) where
  passed : (ss : List Shingle)
      → ((k : ℕ) → k < length ss → (s : Shingle) → drop k ss ≡ s ∷ drop (suc k) ss → g s (drop (suc k) ss) ≡ true) → f ss ≡ true
  passed [] h = nil
  passed (s ∷ ss) h =
      step s ss ∙ ap₂ (λ (t u : Bool). t && u) (h 0 (omega arith) s refl) (passed ss (λ k less x e. h (suc k) (omega arith) x e))

  stopped : (ss : List Shingle) (k : ℕ) → k < length ss → (s : Shingle) → drop k ss ≡ s ∷ drop (suc k) ss → g s (drop (suc k) ss) ≡ false
      → f ss ≡ false
  stopped [] k less s e shut = absurd (omega arith)
  stopped (x ∷ ss) zero less s e shut =
      let same : x ≡ s = cc in
      step x ss ∙ ap (λ (t : Bool). t && f ss) (ap (λ (y : Shingle). g y ss) same ∙ shut)
  stopped (x ∷ ss) (suc k) less s e shut = step x ss ∙ (ap (λ (t : Bool). g x ss && t) (stopped ss k (omega arith) s e shut) ∙ never (g x ss))
    where
      never : (t : Bool) → (t && false) ≡ false
      never true = refl
      never false = refl

  -- The test of a table's list, from its answers at the places.
  pub at_places : (t : List ℕ) (n : ℕ) → n ≡ length (shingles_in t) → (r : Bool)
      → Asked n r (λ k. g (shingle_in_table t k) (drop (k + 1) (shingles_in t))) → r ≡ f (shingles_in t)
  at_places t n size true each =
      sym (passed (shingles_in t) (λ k less s e.
      let first = rw (add-one k) at (here t k (shingle_in_table t k) refl less) in
      let same : s ≡ shingle_in_table t k = cc in
      ap (λ (y : Shingle). g y (drop (suc k) (shingles_in t))) same
      ∙ rw (add-one k) at (asked_true n (λ k. g (shingle_in_table t k) (drop (k + 1) (shingles_in t))) each k (omega arith))))
  at_places t n size false once =
      let found = asked_false n (λ k. g (shingle_in_table t k) (drop (k + 1) (shingles_in t))) once in
      let k = found.0 in
      let less : k < length (shingles_in t) = omega (arith, found.1) in
      sym (stopped (shingles_in t) k less (shingle_in_table t k) (rw (add-one k) at (here t k (shingle_in_table t k) refl less))
      (rw (add-one k) at found.2))

-- The list of a table's end is the list's end.
from_drop : (l : List Entry) (k : ℕ) → k ≤ length (shingles_from l) → shingles_from (drop k l) ≡ drop k (shingles_from l)
unfolding shingles_from
from_drop l zero h = refl
from_drop [] (suc k) h = refl
from_drop (e ∷ l) (suc k) h = go (eqb (e.tail % 65536) 0) h (from_drop l k)
  where
    go : (t : Bool) → suc k ≤ length (cond t [] (shingle_of e ∷ shingles_from l))
        → (k ≤ length (shingles_from l) → shingles_from (drop k l) ≡ drop k (shingles_from l))
        → shingles_from (drop k l) ≡ drop (suc k) (cond t [] (shingle_of e ∷ shingles_from l))
    go true h rest = absurd (omega arith)
    go false h rest = rest (omega arith)

table_drop : (t : List ℕ) (k : ℕ) → k * 24 ≤ length t → table_of (drop (k * 24) t) ≡ drop k (table_of t)
table_drop t k h =
    let front = take (k * 24) t in
    let back = drop (k * 24) t in
    let long : length front ≡ k * 24 = length-take-le (k * 24) t h in
    let split : table_of t ≡ table_of front ++ table_of back =
    ap table_of (sym (take-append-drop (k * 24) t)) ∙ table_append front back (omega arith) in
    sym (ap (drop k) split ∙ drop_at (table_of front) (table_of back) k (omega (arith, length_table front)))

pub list_drop : (t : List ℕ) (k : ℕ) → k ≤ length (shingles_in t) → shingles_in (drop (k * 24) t) ≡ drop k (shingles_in t)
unfolding shingles_in
list_drop t k h =
    ap shingles_from (table_drop t k (omega (arith, from_long (table_of t), length_table t))) ∙ from_drop (table_of t) k h

-- The same of a part that is lent from a place to the table's end.
pub list_part : (t : List ℕ) (k : ℕ) → k ≤ length (shingles_in t) → shingles_in (take (length t - k * 24) (drop (k * 24) t)) ≡ drop k (shingles_in t)
list_part t k h =
    ap shingles_in (take_all (length t - k * 24) (drop (k * 24) t) (omega (arith, length-drop (k * 24) t))) ∙ list_drop t k h
