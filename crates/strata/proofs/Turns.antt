-- Building strata in the lent table, shingle after shingle: each is put into the part that is lent for its stratum.
use mathlib.Core.Bool.{false}
use mathlib.Core.List.{List, [], ◌∷◌, ◌++◌, append-nil}
use mathlib.Core.Path.{◌≡◌, sym, ap, ap₂, ◌∙◌}
use Prim.Native.Nat.{ℕ, ◌+◌, ◌*◌, ◌-◌, ◌/◌, ◌≤◌, ◌<◌}
use native.Mathlib.Numerals.{add-one}
use native.Mathlib.Omega.{arith}
use lib.ListN.{length, take, drop, replicate, drop_of_length-le}
use lib.Seq.{take-suc, take_all}
use Rattle.rows.specs.Rows.{clear_from}
use Rattle.entries.specs.Entries.{blank}
use Rattle.shingle.specs.declared.Shingle.{Shingle}
use Rattle.shingle.specs.Table.{shingle_of, shingle_in_table, shingles_in}
use Rattle.shingle.proofs.Reading.{listed_at}
use Rattle.sketch.specs.Sums.{plus, row_bytes}
use Rattle.sketch.specs.Cells.{parts_of, all_parts, cells_of}
use Rattle.sketch.specs.Opening.{signed, signed_parts}
use Rattle.sketch.specs.Putting.{put_in}
use Rattle.sketch.proofs.Sums.{rows_append, words_sums}
use Rattle.strata.specs.Strata.{strata_bytes, stratum_of, of_stratum, strata_of}
use Rattle.strata.proofs.Capped.{one_of_sixteen}
use Rattle.strata.proofs.Building.{one_more}
use Rattle.strata.proofs.Parts.{length_cells, strata_bytes_lem, none_zeros, cells_at, take-before, take_cells, drop_cells}

-- A shingle is put into the cells of its stratum.
module _ (ss : List Shingle) (s : Shingle) where
  abbrev more : List ℕ
  more = plus (cells_of 4 (of_stratum (stratum_of s) ss)) (parts_of 4 s)

  put_cells : put_in 4 (signed false s) (cells_at (stratum_of s) ss) ≡ row_bytes more
  unfolding put_in signed_parts cells_of
  put_cells =
      let cells = cells_at (stratum_of s) ss in
      let long = length_cells (of_stratum (stratum_of s) ss) in
      ap₂ (λ (l m : List ℕ). row_bytes (plus l (parts_of 4 s)) ++ m) (words_sums 60 (all_parts 4 (of_stratum (stratum_of s) ss)))
      (ap (λ (n : ℕ). drop (n / 8 * 8) cells) long ∙ drop_of_length-le cells {i = 480} (omega arith))
      ∙ append-nil _

  one_put : (p : List ℕ) → p ≡ put_in 4 (signed false s) (take 480 (drop (stratum_of s * 480) (row_bytes (strata_of ss))))
      → take (stratum_of s * 480) (row_bytes (strata_of ss)) ++ (p ++ drop 480 (drop (stratum_of s * 480) (row_bytes (strata_of ss))))
      ≡ row_bytes (strata_of (ss ++ (s ∷ [])))
  unfolding strata_of
  one_put p e =
      let i = stratum_of s in
      let low = one_of_sixteen s in
      let put : p ≡ row_bytes more = e ∙ (ap (put_in 4 (signed false s)) (take_cells i ss low) ∙ put_cells) in
      (λ x. take-before i ss low x ++ (put x ++ drop_cells i ss low x))
      ∙ sym (ap row_bytes (one_more (15 - i) ss s (omega arith)) ∙ simp rows_append)

-- After k shingles of the list.
pub record Filling (shingles : List ℕ) (n k : ℕ) (t : List ℕ) : Type 0 where
  pub size : n ≡ length (shingles_in shingles)
  pub table : t ≡ row_bytes (strata_of (take k (shingles_in shingles)))

pub filling_long : {shingles : List ℕ} {n k : ℕ} {t : List ℕ} → Filling shingles n k t → length t ≡ strata_bytes
filling_long {shingles} {n} {k} f = ap length f.table ∙ strata_bytes_lem (take k (shingles_in shingles))

pub filling_start : (shingles t t₁ : List ℕ) (n : ℕ) → length t ≡ strata_bytes → t₁ ≡ clear_from t 0 → n ≡ length (shingles_in shingles)
    → Filling shingles n 0 t₁
unfolding clear_from
filling_start shingles t t₁ n long cleared size =
    record { size = size; table = cleared ∙ (ap (λ (m : ℕ). replicate m 0) {x = length t - 0} {y = strata_bytes} (omega arith) ∙ none_zeros) }

-- One shingle more. The part that is lent is given by its start and its end.
pub filling_next : (shingles : List ℕ) (n k : ℕ) (t : List ℕ) → Filling shingles n k t → k < n → (s : Shingle) → s ≡ shingle_in_table shingles k
    → (i : ℕ) (p : List ℕ) → i ≡ stratum_of s → p ≡ put_in 4 (signed false s) (take (i * 480 + 480 - i * 480) (drop (i * 480) t))
    → Filling shingles n (k + 1) (take (i * 480) t ++ (p ++ drop (i * 480 + 480 - i * 480) (drop (i * 480) t)))
filling_next shingles n k t f h s is i p e put =
    let size = f.size in
    let list = shingles_in shingles in
    let part : i * 480 + 480 - i * 480 ≡ 480 = omega arith in
    let next : take (k + 1) list ≡ take k list ++ (s ∷ []) =
    ap (λ (m : ℕ). take m list) (add-one k)
    ∙ (take-suc list k (shingle_of blank) (omega arith) ∙ ap (λ (x : Shingle). take k list ++ (x ∷ [])) (listed_at shingles k (omega arith) ∙ sym is)) in
    record {
      size = size;
      table = (λ x. take (e x * 480) (f.table x) ++ (p ++ drop (part x) (drop (e x * 480) (f.table x))))
          ∙ (one_put (take k list) s p (put ∙ λ x. put_in 4 (signed false s) (take (part x) (drop (e x * 480) (f.table x))))
          ∙ ap (λ (l : List Shingle). row_bytes (strata_of l)) (sym next));
    }

pub filling_end : (shingles : List ℕ) (n k : ℕ) (t : List ℕ) → Filling shingles n k t → n ≤ k → t ≡ row_bytes (strata_of (shingles_in shingles))
filling_end shingles n k t f h =
    let size = f.size in
    f.table ∙ ap (λ (l : List Shingle). row_bytes (strata_of l)) (take_all k (shingles_in shingles) (omega arith))
