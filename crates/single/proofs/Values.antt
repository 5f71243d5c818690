-- A cell's sums and shingle as they are read, and what its tests show of the count.
use Rattle.std.proofs.Common.{◌≡◌, ℕ, ◌+◌, ◌*◌, ◌/◌, ◌%◌, ◌^◌, ◌<◌, ◌≤◌, Bool, true, ◌||◌, eqb, ltb, leb, List, get_or, sym, ap, ◌∙◌, arith, leb-true}
use Rattle.entries.specs.Entries.{entry}
use Rattle.shingle.specs.declared.Shingle.{Shingle}
use Rattle.shingle.specs.Table.{entry_of, shingle_of}
use Rattle.shingle.proofs.PairOrder.{and_true}
use Rattle.sketch.specs.Sums.{neg}
use Rattle.sketch.specs.Opening.{is_negative, value_in, shingle_in, fits, single}
use Rattle.sketch.proofs.Cells.{negative_only}

pub value_negative : (rows : List ℕ) (i m sum r : ℕ) (b : Bool) → sum ≡ get_or rows (i * 5 + m) 0 → b ≡ is_negative rows i → b ≡ true
    → r < 2 ^ 64 → (r + sum) % 2 ^ 64 ≡ 0 → r ≡ value_in rows i m
unfolding value_in
value_negative rows i m sum r b e is so h z = rw (sym is ∙ so) (negative_only r sum h z ∙ ap neg e)

-- The entry of a cell's shingle has the cell's tail.
pub entry_is : (rows : List ℕ) (i tail : ℕ) (s : Shingle) → s ≡ shingle_in rows i → tail ≡ value_in rows i 3
    → entry s.previous s.own tail ≡ entry_of (shingle_in rows i)
unfolding shingle_in
entry_is rows i tail s e f =
    let whole : tail ≡ value_in rows i 3 / 65536 * 65536 + value_in rows i 3 % 65536 = omega arith in
    λ t. entry (e t).previous (e t).own (whole t)

pub entry_back : (rows : List ℕ) (i : ℕ) → shingle_of (entry_of (shingle_in rows i)) ≡ shingle_in rows i
unfolding shingle_in
entry_back rows i =
    let v = value_in rows i 3 in
    let level : (v / 65536 * 65536 + v % 65536) / 65536 ≡ v / 65536 = omega arith in
    let count : (v / 65536 * 65536 + v % 65536) % 65536 ≡ v % 65536 = omega arith in
    λ t. record { previous = value_in rows i 1; own = value_in rows i 2; level = level t; count = count t }

-- What fits has a count.
module _ (levels tail tag : ℕ) (s : Shingle) where
  pub fits_count : fits levels tail tag s ≡ true → 1 ≤ s.count
  unfolding fits
  fits_count e =
      let p = and_true (ltb tail 4294967296) _ e in
      let q = and_true (leb s.level levels) _ p.1 in
      let r = and_true (leb 1 s.count) _ q.1 in
      leb-true 1 s.count r.0

module _ (q levels : ℕ) (rows : List ℕ) (i : ℕ) where
  -- A single cell's shingle has a count.
  pub single_count : single q levels rows i ≡ true → 1 ≤ (shingle_in rows i).count
  unfolding single
  single_count e =
      let p = and_true (eqb (get_or rows (i * 5) 0) 1 || is_negative rows i) _ e in
      let r = and_true (fits levels (value_in rows i 3) (value_in rows i 4) (shingle_in rows i)) _ p.1 in
      fits_count levels (value_in rows i 3) (value_in rows i 4) (shingle_in rows i) r.0
