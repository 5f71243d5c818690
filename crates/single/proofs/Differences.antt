-- The rows of the difference of two cell tables, and what is then taken from them.
use Rattle.std.proofs.Common.{◌≡◌, ℕ, ◌+◌, ◌*◌, ◌/◌, ◌<◌, ◌≤◌, Bool, true, List, [], length, get_or, drop, sym, ap, ◌∙◌, append-nil, arith, drop_of_length-le, ext_get_or, le-leb}
use Rattle.entries.proofs.Linear.{both}
use Rattle.rows.specs.Rows.{words_of}
use Rattle.sketch.specs.Sums.{along, neg, minus, difference_of, row_bytes, row_less, subtracted}
use Rattle.sketch.specs.Opening.{taken_of, all_zero}
use Rattle.sketch.proofs.Sums.{length-along, get_d_along, words_along}
use Rattle.single.specs.Peeling.{rows_in, width_fits, Taken}
use Rattle.single.specs.Steps.{TookAll}

length_in : (q : ℕ) (t : List ℕ) → length (rows_in q t) ≡ q * 15
unfolding rows_in
length_in q t = length-along (q * 15) 0 (λ (k : ℕ). get_or (words_of t) k 0)

row_in : (q : ℕ) (t : List ℕ) (k : ℕ) → k < q * 15 → get_or (rows_in q t) k 0 ≡ get_or (words_of t) k 0
unfolding rows_in
row_in q t k h =
    get_d_along (q * 15) 0 k (λ (j : ℕ). get_or (words_of t) j 0) h ∙ ap (λ (j : ℕ). get_or (words_of t) j 0) {x = 0 + k} {y = k} (omega arith)

less_words : (n : ℕ) (theirs own : List ℕ) → words_of (row_bytes (along n 0 (row_less theirs own))) ≡ along n 0 (row_less theirs own)
unfolding minus
less_words n theirs own = words_along n 0 (λ (k : ℕ). get_or (words_of theirs) k 0 + neg (get_or (words_of own) k 0))

same_difference : (q : ℕ) (theirs own : List ℕ) → along (q * 15) 0 (row_less theirs own) ≡ difference_of (rows_in q theirs) (rows_in q own)
unfolding difference_of
same_difference q theirs own =
    ext_get_or 0 _ _ (length-along (q * 15) 0 (row_less theirs own) ∙ (sym (length_in q theirs) ∙ sym (length-along (length (rows_in q theirs)) 0 less)))
    (λ k h. row k (omega (arith, length-along (q * 15) 0 (row_less theirs own))))
  where
    less : ℕ → ℕ
    less = λ (k : ℕ). minus (get_or (rows_in q theirs) k 0) (get_or (rows_in q own) k 0)

    row : (k : ℕ) → k < q * 15 → get_or (along (q * 15) 0 (row_less theirs own)) k 0
        ≡ get_or (along (length (rows_in q theirs)) 0 (λ (j : ℕ). minus (get_or (rows_in q theirs) j 0) (get_or (rows_in q own) j 0))) k 0
    row k h =
        get_d_along (q * 15) 0 k (row_less theirs own) h
        ∙ (ap (row_less theirs own) {x = 0 + k} {y = k} (omega arith)
        ∙ sym (
        get_d_along (length (rows_in q theirs)) 0 k (λ (j : ℕ). minus (get_or (rows_in q theirs) j 0) (get_or (rows_in q own) j 0))
        (omega (arith, length_in q theirs))
        ∙ (ap (λ (j : ℕ). minus (get_or (rows_in q theirs) j 0) (get_or (rows_in q own) j 0)) {x = 0 + k} {y = k} (omega arith)
        ∙ (ap (λ (n : ℕ). minus n (get_or (rows_in q own) k 0)) (row_in q theirs k h) ∙ ap (minus (get_or (words_of theirs) k 0)) (row_in q own k h)))))

pub difference_rows : (q : ℕ) (theirs own t t' : List ℕ) → length t ≡ q * 120 → t' ≡ subtracted theirs own t
    → words_of t' ≡ difference_of (rows_in q theirs) (rows_in q own)
unfolding subtracted
difference_rows q theirs own t t' long e =
    let rows : length t / 8 ≡ q * 15 = omega arith in
    let rest : drop (q * 15 * 8) t ≡ [] = drop_of_length-le t {i = q * 15 * 8} (omega arith) in
    ap words_of (e ∙ rw (rows, rest) (append-nil (row_bytes (along (q * 15) 0 (row_less theirs own)))))
    ∙ (less_words (q * 15) theirs own ∙ same_difference q theirs own)

pub taken_all : (levels q : ℕ) (theirs own t t₁ t₂ new gone : List ℕ) (r : Bool) → 1 ≤ q → q ≤ 64 → length t ≡ q * 120 → t₁ ≡ subtracted theirs own t
    → TookAll levels q t₁ t₂ new gone → r ≡ all_zero (words_of t₂) → Taken levels q theirs own new gone r
unfolding taken_of
taken_all levels q theirs own t t₁ t₂ new gone r low high long e took z =
    let rows = difference_rows q theirs own t t₁ long e in
    let fits : width_fits q ≡ true = rw (le-leb 1 q low, le-leb q 64 high) in
    record {
      all = rw fits (z ∙ ap all_zero (rw rows at took.left));
      positive = λ w. rw rows at took.positive;
      negative = λ w. rw rows at took.negative;
      nothing = λ w. absurd (both fits w);
    }
