-- Shingles that were written are read back: each count is at least 1, and zeros follow.
use mathlib.Core.List.{List, [], ◌∷◌, ◌++◌, map}
use mathlib.Core.Path.{◌≡◌, refl, ap, ◌∙◌}
use Prim.Native.Nat.{ℕ, zero, suc, ◌+◌, ◌*◌, ◌/◌, ◌%◌, ◌≤◌}
use native.Mathlib.Omega.{arith}
use borrow.Author.Tests.{ne_eqb}
use lib.ListN.{length, replicate}
use Rattle.rows.specs.Rows.{words_of}
use Rattle.entries.specs.declared.Entry.{Entry}
use Rattle.entries.specs.Entries.{entries_of, table_of}
use Rattle.entries.proofs.Entries.{table_append}
use Rattle.shingle.specs.declared.Shingle.{Shingle}
use Rattle.shingle.specs.Table.{entry_of, shingle_of, shingles_from, shingles_in}
use Rattle.shingle.proofs.Counts.{Counts, none, more}

-- Entries whose rows are all 0 are no shingles.
from_zeros : (n : ℕ) → shingles_from (entries_of (replicate n 0)) ≡ []
unfolding shingles_from entries_of
from_zeros zero = refl
from_zeros (suc zero) = refl
from_zeros (suc (suc zero)) = refl
from_zeros (suc (suc (suc n))) = refl

words_zeros : (n : ℕ) → (k : ℕ) × (words_of (replicate n 0) ≡ replicate k 0)
unfolding words_of
words_zeros zero = (0, refl)
words_zeros (suc zero) = (0, refl)
words_zeros (suc (suc zero)) = (0, refl)
words_zeros (suc (suc (suc zero))) = (0, refl)
words_zeros (suc (suc (suc (suc zero)))) = (0, refl)
words_zeros (suc (suc (suc (suc (suc zero))))) = (0, refl)
words_zeros (suc (suc (suc (suc (suc (suc zero)))))) = (0, refl)
words_zeros (suc (suc (suc (suc (suc (suc (suc zero))))))) = (0, refl)
words_zeros (suc (suc (suc (suc (suc (suc (suc (suc n)))))))) =
    let rest = words_zeros n in
    (suc rest.0, ap (λ (l : List ℕ). 0 ∷ l) rest.1)

zeros_list : (n : ℕ) → shingles_from (table_of (replicate n 0)) ≡ []
zeros_list n = let w = words_zeros n in ap (λ (ws : List ℕ). shingles_from (entries_of ws)) w.1 ∙ from_zeros w.0

pub entry_back : (s : Shingle) → s.count ≤ 65535 → shingle_of (entry_of s) ≡ s
entry_back s h =
    let level : (s.level * 65536 + s.count) / 65536 ≡ s.level = omega arith in
    let count : (s.level * 65536 + s.count) % 65536 ≡ s.count = omega arith in
    λ i. record { previous = s.previous; own = s.own; level = level i; count = count i }

from_entries : {n : ℕ} {ss : List Shingle} (rest : List Entry) → n ≤ 65535 → Counts n ss → shingles_from rest ≡ [] → shingles_from (map entry_of ss ++ rest) ≡ ss
unfolding shingles_from
from_entries rest h none e = e
from_entries rest h (more {s = s} {ss = ss} low high c) e =
    rw (ne_eqb ((s.level * 65536 + s.count) % 65536) 0 (λ z. omega arith))
    (λ i. entry_back s (omega arith) i ∷ from_entries rest h c e i)

-- A table of the shingles' entries, and zeros after them.
pub written_list : (front : List ℕ) (zeros n : ℕ) (ss : List Shingle) → length front % 24 ≡ 0 → table_of front ≡ map entry_of ss
    → n ≤ 65535 → Counts n ss → shingles_in (front ++ replicate zeros 0) ≡ ss
unfolding shingles_in
written_list front zeros n ss whole e h c =
    ap shingles_from (table_append front (replicate zeros 0) whole ∙ ap (λ (l : List Entry). l ++ table_of (replicate zeros 0)) e)
    ∙ from_entries (table_of (replicate zeros 0)) h c (zeros_list zeros)
