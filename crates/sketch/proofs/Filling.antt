-- Each way out of filling a cell table is a case of the definition. A cleared table is a table of sums without summands.
use Rattle.std.proofs.Common.{false, ◌&&◌, nat_le, ◌≡◌, ℕ, zero, suc, ◌+◌, ◌-◌, ◌*◌, ◌<◌, ◌≤◌, List, [], ◌∷◌, ◌++◌, length, take, drop, replicate, sym, refl, ap, ◌∙◌, append-nil, arith, take_at, drop_at, le-leb}
use borrow.Author.Tests.{lt-leb}
use lib.ListN.{length-replicate, replicate-append-replicate}
use Rattle.rows.specs.Rows.{bytes_of, clear_from}
use Rattle.shingle.specs.Table.{shingles_in}
use Rattle.sketch.specs.Sums.{sum_at, along, sums, plus, row_bytes, Added}
use Rattle.sketch.specs.Cells.{all_parts, cells_of, fill_answer, fill_table, Filled}
use Rattle.sketch.proofs.Difference.{plus-sums}

zero_along : (n i : ℕ) → row_bytes (along n i (λ (k : ℕ). 0)) ≡ replicate (n * 8) 0
unfolding row_bytes along bytes_of
zero_along zero i = refl
zero_along (suc n) i =
    ap (λ (l : List ℕ). 0 ∷ 0 ∷ 0 ∷ 0 ∷ 0 ∷ 0 ∷ 0 ∷ 0 ∷ l) (zero_along n (suc i))
    ∙ (replicate-append-replicate 8 (n * 8) 0 ∙ ap (λ (m : ℕ). replicate {A = ℕ} m 0) {x = 8 + n * 8} {y = suc n * 8} (omega arith))

no_sums : (n : ℕ) → row_bytes (sums n []) ≡ replicate (n * 8) 0
unfolding sums sum_at
no_sums n = zero_along n 0

split_zeros : (m n : ℕ) → m ≤ n → replicate {A = ℕ} n 0 ≡ replicate m 0 ++ replicate (n - m) 0
split_zeros m n h = ap (λ (k : ℕ). replicate {A = ℕ} k 0) {x = n} {y = m + (n - m)} (omega arith) ∙ sym (replicate-append-replicate m (n - m) 0)

pub no_width : (q : ℕ) (shingles t : List ℕ) → (nat_le 1 q && nat_le q 64) ≡ false → Filled q shingles t t 5
unfolding fill_answer fill_table
no_width q shingles t h = record { answer = rw h; table = rw h }

pub short_table : (q : ℕ) (shingles t : List ℕ) → 1 ≤ q → q ≤ 64 → length t < q * 120 → Filled q shingles t t 7
unfolding fill_answer fill_table
short_table q shingles t low high h =
    record {
      answer = rw (le-leb 1 q low, le-leb q 64 high, lt-leb (q * 120) (length t) h);
      table = rw (le-leb 1 q low, le-leb q 64 high, lt-leb (q * 120) (length t) h);
    }

pub filled : (q : ℕ) (shingles t t₁ p : List ℕ) → 1 ≤ q → q ≤ 64 → q * 120 ≤ length t → t₁ ≡ clear_from t 0
    → Added (take (q * 120) t₁) p (all_parts q (shingles_in shingles)) → Filled q shingles t (p ++ drop (q * 120) t₁) 0
unfolding fill_answer fill_table clear_from cells_of
filled q shingles t t₁ p low high room c f =
    let zeros : t₁ ≡ replicate (q * 120) 0 ++ replicate (length t - q * 120) 0 =
    c ∙ (ap (λ (k : ℕ). replicate {A = ℕ} k 0) {x = length t - 0} {y = length t} (omega arith) ∙ split_zeros (q * 120) (length t) room) in
    let front : take (q * 120) t₁ ≡ row_bytes (sums (q * 15) []) =
    ap (take (q * 120)) zeros
    ∙ (take_at (replicate (q * 120) 0) _ (q * 120) (length-replicate {A = ℕ} (q * 120) 0)
    ∙ (ap (λ (k : ℕ). replicate {A = ℕ} k 0) {x = q * 120} {y = q * 15 * 8} (omega arith) ∙ sym (no_sums (q * 15)))) in
    let back : drop (q * 120) t₁ ≡ replicate (length t - q * 120) 0 =
    ap (drop (q * 120)) zeros ∙ drop_at (replicate (q * 120) 0) _ (q * 120) (length-replicate {A = ℕ} (q * 120) 0) in
    let added : p ≡ row_bytes (plus (sums (q * 15) []) (all_parts q (shingles_in shingles))) ++ [] =
    f.more (sums (q * 15) []) [] (omega arith) (front ∙ sym (append-nil (row_bytes (sums (q * 15) [])))) in
    let cells : p ≡ row_bytes (cells_of q (shingles_in shingles)) =
    added ∙ (append-nil _ ∙ ap row_bytes (plus-sums (q * 15) [] (all_parts q (shingles_in shingles)))) in
    record {
      answer = rw (le-leb 1 q low, le-leb q 64 high, le-leb (q * 120) (length t) room);
      table = rw (le-leb 1 q low, le-leb q 64 high, le-leb (q * 120) (length t) room, cells, back);
    }
