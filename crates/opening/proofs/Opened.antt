-- What an opened sketch gives to those who write the new list: the sketch opens by the definition, the new list is what is taken
-- turned into a list, and there is room for it.
use mathlib.Core.Bool.{true, false}
use mathlib.Core.List.{List}
use mathlib.Core.Path.{◌≡◌, refl, sym, ap, ap₂, ◌∙◌}
use Prim.Native.Nat.{ℕ, ◌*◌, ◌≤◌}
use native.Mathlib.Nat.{suc-ne-zero}
use native.Mathlib.Omega.{arith}
use borrow.Author.Tests.{leb-true, le-leb, ne_eqb}
use lib.Dec.{leb, eqb}
use lib.ListN.{length}
use Rattle.tree.proofs.Questions.{passed}
use Rattle.shingle.specs.declared.Shingle.{Shingle}
use Rattle.shingle.specs.Table.{shingles_in}
use Rattle.shingle.proofs.PairOrder.{and_true}
use Rattle.sketch.specs.Opening.{Peeled, positives, negatives, shingles_of, all_zero, no_shingle_twice, all_held, none_held, renewed, new_list, taken_of, opens_to, opens}
use Rattle.single.specs.Peeling.{rows_in, list_table}
use Rattle.opening.specs.Deciding.{open_refusal, Decided}
use Rattle.opening.specs.Renewing.{list_of, renew_answer, renew_table, Renewed}
use Rattle.opening.specs.Opened.{opened_list, Opened}

-- The new list of an opened sketch has at most 4,096 shingles.
pub list_few : (list : List Shingle) (p : Peeled) → opens_to list p ≡ true → length (new_list list p.taken) ≤ 4096
unfolding opens_to
list_few list p e =
    let zs = p.taken in
    let empty = and_true (all_zero p.left) _ e in
    let once = and_true (no_shingle_twice (shingles_of zs)) _ empty.1 in
    let inside = and_true (all_held list (negatives zs)) _ once.1 in
    let outside = and_true (none_held list (positives zs)) _ inside.1 in
    leb-true _ 4096 (and_true (leb (length (new_list list zs)) 4096) _ outside.1).0

module _ (levels width : ℕ) (theirs own shingles : List ℕ) (r : ℕ) (new gone : List ℕ) (d : Decided levels width theirs own shingles r new gone)
    (accepted : r ≡ 0) where
  questions : (98304 ≤ length shingles) × (opens width levels (rows_in width theirs) (rows_in width own) (shingles_in shingles) ≡ true)
  unfolding open_refusal
  questions =
      let three = passed _ 3 _ (suc-ne-zero 2) (sym d.answer ∙ accepted) in
      let five = passed _ 5 _ (suc-ne-zero 4) three.1 in
      let seven = passed _ 7 _ (suc-ne-zero 6) five.1 in
      let fourteen = passed _ 14 _ (suc-ne-zero 13) seven.1 in
      let tables = and_true (leb (width * 120) (length theirs)) _ seven.0 in
      (leb-true 98304 _ (and_true (leb (width * 120) (length own)) _ tables.1).1, fourteen.0)

  pub sketch_opens : opens width levels (rows_in width theirs) (rows_in width own) (shingles_in shingles) ≡ true
  sketch_opens = questions.1

  pub list_is : list_of new gone shingles ≡ new_list (shingles_in shingles) (taken_of width levels (rows_in width theirs) (rows_in width own)).taken
  unfolding list_of new_list
  list_is = ap₂ (λ (x y : List Shingle). renewed (shingles_in shingles) y x) (d.positive accepted) (d.negative accepted)

  pub list_fits : length (list_of new gone shingles) * 24 ≤ length shingles
  unfolding opens
  list_fits =
      let few = list_few (shingles_in shingles) (taken_of width levels (rows_in width theirs) (rows_in width own)) sketch_opens in
      omega (arith, few, ap length list_is, questions.0)

  -- The table that is then written, and its answer.
  pub opened : (after : List ℕ) (answer : ℕ) → Renewed new gone shingles after answer → Opened levels width theirs own shingles after answer
  unfolding renew_answer renew_table opened_list list_table
  opened after answer n =
      let zero : open_refusal levels width theirs own shingles ≡ 0 = sym d.answer ∙ accepted in
      let fits = le-leb (length (list_of new gone shingles) * 24) (length shingles) list_fits in
      let turned : length (list_of new gone shingles) * 24 ≡ 24 * length (list_of new gone shingles) = omega arith in
      record {
        answer = n.answer ∙ rw (fits, zero, ← list_is) refl;
        table = n.table ∙ rw (fits, turned, zero, ← list_is) refl;
      }

-- A refused sketch changes nothing.
pub refused : (levels width : ℕ) (theirs own shingles : List ℕ) (r : ℕ) → r ≡ open_refusal levels width theirs own shingles
    → (r ≡ 0 → ⊥) → Opened levels width theirs own shingles shingles r
refused levels width theirs own shingles r is some =
    let no : eqb (open_refusal levels width theirs own shingles) 0 ≡ false = ne_eqb _ 0 (λ e. some (is ∙ e)) in
    record { answer = rw no is; table = rw no refl }
