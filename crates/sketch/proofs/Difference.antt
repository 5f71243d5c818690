-- Subtracting the sketches of two lists gives the sketch of their true difference. In each row the shingles that both lists
-- have cancel, since they weigh the same from either side.
use Rattle.std.proofs.Common.{◌≡◌, ℕ, ◌+◌, ◌*◌, ◌%◌, ◌^◌, ◌<◌, Bool, true, false, cond, not, eqb, List, [], ◌∷◌, ◌++◌, length, get_or, sym, refl, ap, ◌∙◌, append_assoc, mod-lt, arith, ext_get_or}
use native.Mathlib.Nat.{add-mod, mod-add-mod}
use Rattle.sort.specs.Shell.{total}
use Rattle.shingle.specs.declared.Shingle.{Shingle}
use Rattle.shingle.specs.Table.{holds}
use Rattle.sketch.specs.Sums.{Part, sum_at, along, sums, neg, minus, difference_of, plus, negated}
use Rattle.sketch.specs.Cells.{parts_of, all_parts, cells_of}
use Rattle.sketch.specs.Opening.{Signed, signed, signed_parts, all_signed, signed_cells, without, no_shingle_twice, lacking, true_difference}
use Rattle.sketch.proofs.Once.{in_both, in_one, total_split, both_alike}
use Rattle.sketch.proofs.Sums.{length-along, get_d_along, sum_append, same_sums, length-sums, sum_row}

-- Sums modulo 2^64.
two_zeros : (a b c d : ℕ) → (a + c) % 2 ^ 64 ≡ 0 → (b + d) % 2 ^ 64 ≡ 0 → (a + b + (c + d)) % 2 ^ 64 ≡ 0
two_zeros a b c d e f =
    ap (λ (n : ℕ). n % 2 ^ 64) {x = a + b + (c + d)} {y = a + c + (b + d)} (omega arith)
    ∙ (add-mod (a + c) (b + d) (2 ^ 64) ∙ ap (λ (n : ℕ). (n + (b + d) % 2 ^ 64) % 2 ^ 64) e ∙ ap (λ (n : ℕ). (0 + n) % 2 ^ 64) f)

drop_zero : (a b c d : ℕ) → (a + c) % 2 ^ 64 ≡ 0 → (a + b + (c + d)) % 2 ^ 64 ≡ (b + d) % 2 ^ 64
drop_zero a b c d e =
    ap (λ (n : ℕ). n % 2 ^ 64) {x = a + b + (c + d)} {y = a + c + (b + d)} (omega arith)
    ∙ (add-mod (a + c) (b + d) (2 ^ 64) ∙ (ap (λ (n : ℕ). (n + (b + d) % 2 ^ 64) % 2 ^ 64) e ∙ omega arith))

pub neg_cancels : (v : ℕ) → (v + neg v) % 2 ^ 64 ≡ 0
unfolding neg
neg_cancels v = omega arith

neg_is : (b n : ℕ) → b < 18446744073709551616 → n < 18446744073709551616 → (b + n) % 18446744073709551616 ≡ 0 → neg b ≡ n
unfolding neg
neg_is b n h k e = omega arith

minus_is : (a b n : ℕ) → (b + n) % 2 ^ 64 ≡ 0 → minus (a % 2 ^ 64) (b % 2 ^ 64) ≡ (a + n) % 2 ^ 64
unfolding minus
minus_is a b n e =
    ap (λ (m : ℕ). (a % 2 ^ 64 + m) % 2 ^ 64) (neg_is (b % 2 ^ 64) (n % 2 ^ 64) (mod-lt b (omega arith)) (mod-lt n (omega arith)) (sym (add-mod b n (2 ^ 64)) ∙ e))
    ∙ sym (add-mod a n (2 ^ 64))

-- Summands and the same with the other sign.
pub negated-append : (a b : List Part) → negated (a ++ b) ≡ negated a ++ negated b
unfolding negated
negated-append [] b = refl
negated-append (p ∷ a) b = ap (λ (l : List Part). record { row = p.row; value = neg p.value } ∷ l) (negated-append a b)

one_cancels : (t : Bool) (v : ℕ) → (cond t v 0 + cond t (neg v) 0) % 2 ^ 64 ≡ 0
one_cancels true v = neg_cancels v
one_cancels false v = refl

pub negated_cancels : (k : ℕ) (ps : List Part) → (sum_at k ps + sum_at k (negated ps)) % 2 ^ 64 ≡ 0
unfolding sum_at negated
negated_cancels k [] = refl
negated_cancels k (p ∷ ps) = two_zeros _ (sum_at k ps) _ (sum_at k (negated ps)) (one_cancels (eqb p.row k) p.value) (negated_cancels k ps)

-- Subtracting is adding with the other sign.
pub subtract : (n : ℕ) (ps qs : List Part) → difference_of (sums n ps) (sums n qs) ≡ sums n (ps ++ negated qs)
unfolding difference_of
subtract n ps qs =
    ext_get_or 0 _ _ (length-along _ 0 _ ∙ (length-sums n ps ∙ sym (length-sums n (ps ++ negated qs))))
    (λ j h. row j (omega (arith, length-along (length (sums n ps)) 0 f, length-sums n ps)))
  where
    f : ℕ → ℕ
    f = λ (k : ℕ). minus (get_or (sums n ps) k 0) (get_or (sums n qs) k 0)

    row : (j : ℕ) → j < n → get_or (along (length (sums n ps)) 0 (λ (k : ℕ). minus (get_or (sums n ps) k 0) (get_or (sums n qs) k 0))) j 0 ≡ get_or (sums n (ps ++ negated qs)) j 0
    row j h =
        get_d_along (length (sums n ps)) 0 j (λ (k : ℕ). minus (get_or (sums n ps) k 0) (get_or (sums n qs) k 0)) (omega (arith, length-sums n ps))
        ∙ (ap (λ (k : ℕ). minus (get_or (sums n ps) k 0) (get_or (sums n qs) k 0)) {x = 0 + j} {y = j} (omega arith)
        ∙ (ap (λ (a : ℕ). minus a (get_or (sums n qs) j 0)) (sum_row n j ps h)
        ∙ (ap (minus (sum_at j ps % 2 ^ 64)) (sum_row n j qs h)
        ∙ (minus_is (sum_at j ps) (sum_at j qs) (sum_at j (negated qs)) (negated_cancels j qs)
        ∙ sym (sum_row n j (ps ++ negated qs) h ∙ ap (λ (m : ℕ). m % 2 ^ 64) (sum_append j ps (negated qs)))))))

module _ (q k : ℕ) where
  abbrev plain : Shingle → ℕ
  plain s = sum_at k (parts_of q s)

  abbrev opposite : Shingle → ℕ
  opposite s = sum_at k (negated (parts_of q s))

  sum_all : (ss : List Shingle) → sum_at k (all_parts q ss) ≡ total plain ss
  unfolding total all_parts sum_at
  sum_all [] = refl
  sum_all (s ∷ ss) = sum_append k (parts_of q s) (all_parts q ss) ∙ ap (λ (n : ℕ). plain s + n) (sum_all ss)

  sum_negated : (ss : List Shingle) → sum_at k (negated (all_parts q ss)) ≡ total opposite ss
  unfolding total all_parts sum_at negated
  sum_negated [] = refl
  sum_negated (s ∷ ss) =
      ap (sum_at k) (negated-append (parts_of q s) (all_parts q ss))
      ∙ (sum_append k (negated (parts_of q s)) (negated (all_parts q ss)) ∙ ap (λ (n : ℕ). opposite s + n) (sum_negated ss))

  both_cancel : (other ss : List Shingle) → (total (in_both plain other) ss + total (in_both opposite other) ss) % 2 ^ 64 ≡ 0
  unfolding total
  both_cancel other [] = refl
  both_cancel other (s ∷ ss) =
      two_zeros _ (total (in_both plain other) ss) _ (total (in_both opposite other) ss) (go (holds s other)) (both_cancel other ss)
    where
      go : (t : Bool) → (cond t (plain s) 0 + cond t (opposite s) 0) % 2 ^ 64 ≡ 0
      go true = negated_cancels k (parts_of q s)
      go false = refl

  sum_lacking : (b : Bool) (other ss : List Shingle)
      → sum_at k (all_signed q (lacking b other ss)) ≡ total (in_one (λ (s : Shingle). sum_at k (signed_parts q (signed b s))) other) ss
  unfolding total all_signed lacking sum_at
  sum_lacking b other [] = refl
  sum_lacking b other (s ∷ ss) = go (holds s other) (sum_lacking b other ss)
    where
      go : (t : Bool) → sum_at k (all_signed q (lacking b other ss)) ≡ total (in_one (λ (s : Shingle). sum_at k (signed_parts q (signed b s))) other) ss
          → sum_at k (all_signed q (cond t (lacking b other ss) (signed b s ∷ lacking b other ss)))
          ≡ cond t 0 (sum_at k (signed_parts q (signed b s))) + total (in_one (λ (s : Shingle). sum_at k (signed_parts q (signed b s))) other) ss
      go true ih = omega (arith, ih)
      go false ih = sum_append k (signed_parts q (signed b s)) (all_signed q (lacking b other ss)) ∙ ap (λ (n : ℕ). sum_at k (signed_parts q (signed b s)) + n) ih

  signed_append : (a b : List Signed) → all_signed q (a ++ b) ≡ all_signed q a ++ all_signed q b
  unfolding all_signed
  signed_append [] b = refl
  signed_append (z ∷ a) b = ap (λ (l : List Part). signed_parts q z ++ l) (signed_append a b) ∙ sym (append_assoc (signed_parts q z) (all_signed q a) (all_signed q b))

  sum_difference : (theirs own : List Shingle)
      → sum_at k (all_signed q (true_difference theirs own)) ≡ total (in_one plain own) theirs + total (in_one opposite theirs) own
  unfolding true_difference signed_parts
  sum_difference theirs own =
      ap (sum_at k) (signed_append (lacking false own theirs) (lacking true theirs own))
      ∙ (sum_append k (all_signed q (lacking false own theirs)) (all_signed q (lacking true theirs own))
      ∙ (ap (λ (n : ℕ). n + sum_at k (all_signed q (lacking true theirs own))) (sum_lacking false own theirs)
      ∙ ap (λ (n : ℕ). total (in_one plain own) theirs + n) (sum_lacking true theirs own)))

  same_row : (theirs own : List Shingle) → no_shingle_twice theirs ≡ true → no_shingle_twice own ≡ true
      → sum_at k (all_parts q theirs ++ negated (all_parts q own)) % 2 ^ 64 ≡ sum_at k (all_signed q (true_difference theirs own)) % 2 ^ 64
  same_row theirs own r p =
      let back : total opposite own ≡ total (in_both opposite own) theirs + total (in_one opposite theirs) own =
      total_split opposite theirs own ∙ ap (λ (n : ℕ). n + total (in_one opposite theirs) own) (both_alike opposite own theirs p r) in
      ap (λ (n : ℕ). n % 2 ^ 64) (
      sum_append k (all_parts q theirs) (negated (all_parts q own))
      ∙ (ap (λ (n : ℕ). n + sum_at k (negated (all_parts q own))) (sum_all theirs ∙ total_split plain own theirs)
      ∙ ap (λ (n : ℕ). total (in_both plain own) theirs + total (in_one plain own) theirs + n) (sum_negated own ∙ back)))
      ∙ (drop_zero (total (in_both plain own) theirs) (total (in_one plain own) theirs) (total (in_both opposite own) theirs) (total (in_one opposite theirs) own)
      (both_cancel own theirs)
      ∙ ap (λ (n : ℕ). n % 2 ^ 64) (sym (sum_difference theirs own)))

-- "subtract own cells from the sender's": of two lists that have no shingle twice, what is left are the cells of the true difference.
pub difference : (q : ℕ) (theirs own : List Shingle) → no_shingle_twice theirs ≡ true → no_shingle_twice own ≡ true
    → difference_of (cells_of q theirs) (cells_of q own) ≡ signed_cells q (true_difference theirs own)
unfolding cells_of signed_cells
difference q theirs own r p =
    subtract (q * 15) (all_parts q theirs) (all_parts q own)
    ∙ same_sums (q * 15) (all_parts q theirs ++ negated (all_parts q own)) (all_signed q (true_difference theirs own)) (λ k. same_row q k theirs own r p)

-- Adding to the rows is adding summands.
pub plus-sums : (n : ℕ) (ps qs : List Part) → plus (sums n ps) qs ≡ sums n (ps ++ qs)
unfolding plus
plus-sums n ps qs =
    ext_get_or 0 _ _ (length-along _ 0 _ ∙ (length-sums n ps ∙ sym (length-sums n (ps ++ qs))))
    (λ j h. row j (omega (arith, length-along (length (sums n ps)) 0 (λ (k : ℕ). (get_or (sums n ps) k 0 + sum_at k qs) % 2 ^ 64), length-sums n ps)))
  where
    row : (j : ℕ) → j < n → get_or (along (length (sums n ps)) 0 (λ (k : ℕ). (get_or (sums n ps) k 0 + sum_at k qs) % 2 ^ 64)) j 0 ≡ get_or (sums n (ps ++ qs)) j 0
    row j h =
        get_d_along (length (sums n ps)) 0 j (λ (k : ℕ). (get_or (sums n ps) k 0 + sum_at k qs) % 2 ^ 64) (omega (arith, length-sums n ps))
        ∙ (ap (λ (k : ℕ). (get_or (sums n ps) k 0 + sum_at k qs) % 2 ^ 64) {x = 0 + j} {y = j} (omega arith)
        ∙ (ap (λ (a : ℕ). (a + sum_at j qs) % 2 ^ 64) (sum_row n j ps h)
        ∙ (mod-add-mod (sum_at j ps) (2 ^ 64) (sum_at j qs)
        ∙ sym (sum_row n j (ps ++ qs) h ∙ ap (λ (m : ℕ). m % 2 ^ 64) (sum_append j ps qs)))))

signed_cancels : (q k : ℕ) (b : Bool) (s : Shingle) → (sum_at k (signed_parts q (signed b s)) + sum_at k (signed_parts q (signed (not b) s))) % 2 ^ 64 ≡ 0
unfolding signed_parts
signed_cancels q k true s =
    ap (λ (m : ℕ). m % 2 ^ 64) {x = sum_at k (negated (parts_of q s)) + sum_at k (parts_of q s)} {y = sum_at k (parts_of q s) + sum_at k (negated (parts_of q s))} (omega arith)
    ∙ negated_cancels k (parts_of q s)
signed_cancels q k false s = negated_cancels k (parts_of q s)

last : (a b c : ℕ) → a + b + c ≡ a + b + (c + 0)
last a b c = omega arith

-- Removing a shingle with its sign leaves the cells of the others.
pub remove_one : (q : ℕ) (z : Signed) (zs : List Signed) → without q z (signed_cells q (z ∷ zs)) ≡ signed_cells q zs
unfolding without signed_cells all_signed
remove_one q z zs =
    plus-sums (q * 15) (signed_parts q z ++ all_signed q zs) (signed_parts q (signed (not z.negative) z.shingle))
    ∙ same_sums (q * 15) _ (all_signed q zs) row
  where
    row : (k : ℕ) → sum_at k ((signed_parts q z ++ all_signed q zs) ++ signed_parts q (signed (not z.negative) z.shingle)) % 2 ^ 64 ≡ sum_at k (all_signed q zs) % 2 ^ 64
    row k =
        let back = signed_parts q (signed (not z.negative) z.shingle) in
        ap (λ (m : ℕ). m % 2 ^ 64) (
        sum_append k (signed_parts q z ++ all_signed q zs) back
        ∙ (ap (λ (m : ℕ). m + sum_at k back) (sum_append k (signed_parts q z) (all_signed q zs))
        ∙ last (sum_at k (signed_parts q z)) (sum_at k (all_signed q zs)) (sum_at k back)))
        ∙ (drop_zero (sum_at k (signed_parts q z)) (sum_at k (all_signed q zs)) (sum_at k back) 0 (signed_cancels q k z.negative z.shingle)
        ∙ ap (λ (m : ℕ). m % 2 ^ 64) {x = sum_at k (all_signed q zs) + 0} {y = sum_at k (all_signed q zs)} (omega arith))
