-- Ids read from rows one by one, and written one by one.
use mathlib.Core.List.{List, [], ◌∷◌, ◌++◌, append_assoc, append-nil}
use mathlib.Core.Path.{◌≡◌, refl, sym, ap, ◌∙◌}
use Prim.Native.Nat.{ℕ, suc, ◌+◌, ◌*◌, ◌-◌, ◌≤◌, ◌<◌}
use native.Mathlib.Numerals.{add-one}
use native.Mathlib.Omega.{arith}
use borrow.Author.Tests.{le-leb}
use lib.ListN.{length, get_or, take, drop, set}
use lib.Seq.{take-suc, take-suc-set, take_all, take_at, append_snoc, drop-append-add, drop-drop, length-take-le}
use Rattle.rows.specs.Rows.{bytes_of, store_of}
use Rattle.rcds.specs.Trails.{column, bytes_of_ids}

-- One row more of a column, and none left.
pub column_more : (all rows words : List ℕ) (step at i x : ℕ) → i < 32 → length rows ≡ 32 → x ≡ get_or words at 0
    → take i rows ++ column (32 - i) step at words ≡ all → take (i + 1) (set rows i x) ++ column (32 - (i + 1)) step (at + step) words ≡ all
unfolding column
column_more all rows words step at i x h long e inv =
    let left : 32 - i ≡ suc (32 - (i + 1)) = omega arith in
    let rest = column (32 - (i + 1)) step (at + step) words in
    ap (λ (l : List ℕ). l ++ rest) (ap (λ (n : ℕ). take n (set rows i x)) (add-one i) ∙ take-suc-set rows i x (omega arith))
    ∙ (append_snoc (take i rows) x rest ∙ (ap (λ (y : ℕ). take i rows ++ y ∷ rest) e ∙ (rw left at inv)))

pub column_end : (all rows words : List ℕ) (step at i : ℕ) → 32 ≤ i → length rows ≡ 32 → take i rows ++ column (32 - i) step at words ≡ all → rows ≡ all
unfolding column
column_end all rows words step at i h long inv =
    let none : 32 - i ≡ 0 = omega arith in
    sym (append-nil rows) ∙ (ap (λ (l : List ℕ). l ++ []) (sym (take_all i rows (omega arith))) ∙ (rw none at inv))

pub length_ids : (xs : List ℕ) → length (bytes_of_ids xs) ≡ length xs * 8
unfolding bytes_of_ids bytes_of
length_ids [] = refl
length_ids (x ∷ xs) = let n = length_ids xs in omega arith

ids_append : (xs ys : List ℕ) → bytes_of_ids (xs ++ ys) ≡ bytes_of_ids xs ++ bytes_of_ids ys
unfolding bytes_of_ids
ids_append [] ys = refl
ids_append (x ∷ xs) ys = ap (λ (l : List ℕ). bytes_of x ++ l) (ids_append xs ys) ∙ sym (append_assoc (bytes_of x) (bytes_of_ids xs) (bytes_of_ids ys))

one_id : (x : ℕ) → bytes_of_ids (x ∷ []) ≡ bytes_of x
unfolding bytes_of_ids
one_id x = append-nil (bytes_of x)

pub no_ids : (before : List ℕ) → before ≡ bytes_of_ids [] ++ before
unfolding bytes_of_ids
no_ids before = refl

-- One id more in front of what was there.
pub ids_more : (list before now after : List ℕ) (i : ℕ) → i < length list → i * 8 + 8 ≤ length before → length now ≡ length before
    → now ≡ bytes_of_ids (take i list) ++ drop (i * 8) before → after ≡ store_of now i (get_or list i 0)
    → after ≡ bytes_of_ids (take (i + 1) list) ++ drop ((i + 1) * 8) before
unfolding store_of
ids_more list before now after i h room long is stored =
    let x = get_or list i 0 in
    let front = bytes_of_ids (take i list) in
    let back = drop (i * 8) before in
    let size : length front ≡ i * 8 = length_ids (take i list) ∙ ap (λ (n : ℕ). n * 8) (length-take-le i list (omega arith)) in
    let kept : drop (i * 8 + 8) (front ++ back) ≡ drop ((i + 1) * 8) before =
    ap (λ (n : ℕ). drop (n + 8) (front ++ back)) (sym size)
    ∙ (drop-append-add front back 8 ∙ (drop-drop 8 (i * 8) before ∙ ap (λ (n : ℕ). drop n before) {x = i * 8 + 8} {y = (i + 1) * 8} (omega arith))) in
    let ids : bytes_of_ids (take (i + 1) list) ≡ front ++ bytes_of x =
    ap (λ (n : ℕ). bytes_of_ids (take n list)) (add-one i) ∙ (ap bytes_of_ids (take-suc list i 0 h) ∙ (ids_append (take i list) (x ∷ []) ∙ ap (λ (l : List ℕ). front ++ l) (one_id x))) in
    stored ∙ (rw (le-leb (i * 8 + 8) (length now) (omega arith), is, take_at front back (i * 8) size, kept, ids) (sym (append_assoc front (bytes_of x) (drop ((i + 1) * 8) before))))
