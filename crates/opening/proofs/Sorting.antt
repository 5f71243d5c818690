-- Entries and the shingles they hold are sorted alike; what is listed has a count from 1 to 65,535, so that it fits an entry.
use mathlib.Core.Bool.{Bool, true, false, cond}
use mathlib.Core.List.{List, [], ◌∷◌, ◌++◌, map}
use mathlib.Core.Path.{◌≡◌, refl, sym, ap, ◌∙◌}
use Prim.Native.Nat.{ℕ, ◌%◌}
use native.Mathlib.Omega.{arith}
use borrow.Author.Tests.{eqb-false}
use lib.Dec.{eqb}
use Rattle.entries.specs.declared.Entry.{Entry}
use Rattle.entries.specs.Entries.{table_of}
use Rattle.entries.specs.Order.{precedes}
use Rattle.sort.specs.Sort.{insert_of, sort_of}
use Rattle.shingle.specs.declared.Shingle.{Shingle}
use Rattle.shingle.specs.Table.{entry_of, shingle_of, shingles_from, shingles_in, holds}
use Rattle.shingle.proofs.Counts.{Counts, none, more}
use Rattle.shingle.proofs.Written.{entry_back}
use Rattle.sketch.specs.Opening.{kept, before}
use Rattle.pairs.proofs.Alike.{sort_shingles}
use Rattle.opening.proofs.Keeping.{entry_again}

entries_again : (l : List Entry) → map entry_of (map shingle_of l) ≡ l
entries_again [] = refl
entries_again (e ∷ l) = λ i. entry_again e i ∷ entries_again l i

shingles_again : {ss : List Shingle} → Counts 65535 ss → map shingle_of (map entry_of ss) ≡ ss
shingles_again none = refl
shingles_again (more {s = s} low high c) = λ i. entry_back s high i ∷ shingles_again c i

-- The entries of shingles, sorted, are the entries of the shingles sorted.
pub sort_entries : (ss : List Shingle) → Counts 65535 ss → sort_of precedes (map entry_of ss) ≡ map entry_of (sort_of before ss)
sort_entries ss c =
    let es = map entry_of ss in
    sym (ap (λ (l : List Shingle). map entry_of (sort_of before l)) (sym (shingles_again c))
    ∙ (ap (map entry_of) (sort_shingles es) ∙ entries_again (sort_of precedes es)))

-- Counts.
counts_from : (l : List Entry) → Counts 65535 (shingles_from l)
unfolding shingles_from
counts_from [] = none
counts_from (e ∷ l) = go (eqb (e.tail % 65536) 0) refl (counts_from l)
  where
    go : (t : Bool) → eqb (e.tail % 65536) 0 ≡ t → Counts 65535 (shingles_from l) → Counts 65535 (cond t [] (shingle_of e ∷ shingles_from l))
    go true f c = none
    go false f c = let some = eqb-false (e.tail % 65536) 0 f in more {s = shingle_of e} (omega arith) (omega arith) c

counts_kept : {n : ℕ} {ss : List Shingle} (gone : List Shingle) → Counts n ss → Counts n (kept gone ss)
unfolding kept
counts_kept gone none = none
counts_kept {n} gone (more {s = s} {ss = ss} low high c) = go (holds s gone) (counts_kept gone c)
  where
    go : (t : Bool) → Counts n (kept gone ss) → Counts n (cond t (kept gone ss) (s ∷ kept gone ss))
    go true d = d
    go false d = more low high d

counts_append : {n : ℕ} {a b : List Shingle} → Counts n a → Counts n b → Counts n (a ++ b)
counts_append none d = d
counts_append (more low high c) d = more low high (counts_append c d)

counts_insert : {n : ℕ} {ss : List Shingle} (s : Shingle) → Counts n (s ∷ []) → Counts n ss → Counts n (insert_of before s ss)
unfolding insert_of
counts_insert s one none = one
counts_insert {n} s one (more {s = x} {ss = ss} low high c) = go (before x s) (counts_insert s one c)
  where
    go : (t : Bool) → Counts n (insert_of before s ss) → Counts n (cond t (x ∷ insert_of before s ss) (s ∷ x ∷ ss))
    go true d = more low high d
    go false d = counts_append one (more low high c)

pub counts_sort : {n : ℕ} {ss : List Shingle} → Counts n ss → Counts n (sort_of before ss)
unfolding sort_of
counts_sort none = none
counts_sort (more {s = s} low high c) = counts_insert s (more low high none) (counts_sort c)

-- What is kept of one table's list, and another table's list.
pub counts_all : (new gone own : List ℕ) → Counts 65535 (kept (shingles_in gone) (shingles_in own) ++ shingles_in new)
unfolding shingles_in
counts_all new gone own = counts_append (counts_kept (shingles_in gone) (counts_from (table_of own))) (counts_from (table_of new))
