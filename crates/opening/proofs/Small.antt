-- An answer of opening is small: 64 bits hold it.
use Rattle.std.proofs.Common.{Bool, true, false, cond, List, ◌≡◌, ℕ, ◌+◌, ◌*◌, ◌^◌, ◌&&◌, ◌<◌, ◌≤◌, length, refl, arith}
use native.Mathlib.Nat.{suc-ne-zero}
use lib.Dec.{leb, eqb}
use borrow.Author.Tests.{eqb-true}
use Rattle.tree.specs.Questions.{within, ask}
use Rattle.tree.proofs.Questions.{passed}
use Rattle.shingle.specs.Table.{shingles_in}
use Rattle.sketch.specs.Opening.{taken_of, opens}
use Rattle.single.specs.Peeling.{rows_in}
use Rattle.opening.specs.Deciding.{open_refusal}
use Rattle.opening.specs.Opened.{opened_list, Opened}
use Rattle.opening.proofs.Opened.{list_few}

low : (a b c d : Bool) → ask a 3 (ask b 5 (ask c 7 (ask d 14 0))) ≤ 14
unfolding ask
low true true true true = omega arith
low true true true false = omega arith
low true true false d = omega arith
low true false c d = omega arith
low false b c d = omega arith

pub answer_small : (levels width : ℕ) (theirs own before after : List ℕ) (r : ℕ) → Opened levels width theirs own before after r → r < 2 ^ 63
unfolding open_refusal opened_list opens
answer_small levels width theirs own before after r opened = go (eqb (open_refusal levels width theirs own before) 0) refl opened.answer
  where
    go : (t : Bool) → eqb (open_refusal levels width theirs own before) 0 ≡ t
        → r ≡ cond t (2 ^ 32 + length (opened_list levels width theirs own before)) (open_refusal levels width theirs own before) → r < 2 ^ 63
    go true t e =
        let zero = eqb-true (open_refusal levels width theirs own before) 0 t in
        let three = passed _ 3 _ (suc-ne-zero 2) zero in
        let five = passed _ 5 _ (suc-ne-zero 4) three.1 in
        let seven = passed _ 7 _ (suc-ne-zero 6) five.1 in
        let fourteen = passed _ 14 _ (suc-ne-zero 13) seven.1 in
        omega (arith, e, list_few (shingles_in before) (taken_of width levels (rows_in width theirs) (rows_in width own)) fourteen.0)
    go false t e = omega (
      arith,
      e,
      low (within 1 4 levels) (within 1 64 width)
          (leb (width * 120) (length theirs) && (leb (width * 120) (length own) && leb 98304 (length before)))
          (opens width levels (rows_in width theirs) (rows_in width own) (shingles_in before)),
    )
