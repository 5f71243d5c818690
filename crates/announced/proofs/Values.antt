-- A parsed opening has as many values as its q asks for, and in the cell table they are its rows.
use mathlib.Core.Bool.{Bool, true, false, cond}
use mathlib.Core.List.{List}
use mathlib.Core.Option.{Option, none, some}
use mathlib.Core.Path.{◌≡◌, refl, sym, ap, ◌∙◌, subst}
use Prim.Native.Nat.{ℕ, ◌+◌, ◌*◌, ◌%◌, ◌≤◌, ◌<◌}
use native.Mathlib.Omega.{arith}
use lib.Dec.{eqb}
use lib.ListN.{length, get_or}
use lib.Seq.{ext_get_or}
use Rattle.rows.specs.Rows.{words_of}
use Rattle.sketch.proofs.Sums.{length-along, get_d_along}
use Rattle.single.specs.Peeling.{rows_in}
use Rattle.message.specs.Words.{link_words, is_end_word}
use Rattle.message.specs.Fields.{Field, read, head, values}
use Rattle.message.specs.Messages.{Msg, opening_query, node_query, opening, composition, literal, no_node, cell_values, finish, body_of, parse_words, parse}
use Rattle.message.specs.Parts.{cells_in}
use Rattle.message.proofs.Fields.{length_values}
use Rattle.message.proofs.Parts.{cell_read}
use Rattle.announced.specs.Cells.{cell_at, value_count, cell_table}
use Rattle.announced.proofs.Tables.{table_row}

-- "cells as many as its q"
abbrev Sized : Msg → Type 0
Sized (opening_query n) = Unit {0}
Sized (node_query n l i) = Unit {0}
Sized (opening n rule w p L M q len root cells) = length cells ≡ cell_values q
Sized (composition n l i x refs) = Unit {0}
Sized (literal n l i bytes) = Unit {0}
Sized (no_node n l i) = Unit {0}

-- Whatever a reading comes to, if it comes to a message.
abbrev SizedIn : Option Msg → Type 0
SizedIn none = Unit {0}
SizedIn (some m) = Sized m

record Sizes (o : Option Msg) : Type 0 where
  sized : SizedIn o

-- It holds of nothing, and goes through each field to what is read last.
sized_none : Sizes none
sized_none = record { sized = tt }

sized_if : (t : Bool) (x y : Option Msg) → Sizes x → Sizes y → Sizes (cond t x y)
sized_if true x y h k = h
sized_if false x y h k = k

sized_read : {A : Type 0} (F : Field A) (ws : List ℕ) (next : A → List ℕ → Option Msg)
    → Sizes (next (F.of ws) (F.after ws)) → Sizes (read F ws next)
unfolding read
sized_read F ws next h = sized_if (F.is ws) _ none h sized_none

sized_finish : (count : ℕ) (m : Msg) (ws : List ℕ) → Sized m → Sizes (finish count m ws)
unfolding finish
sized_finish count m ws h = sized_if (is_end_word count ws) (some m) none (record { sized = h }) sized_none

sized_cells : (count n rule w p L M q len root : ℕ) (ws : List ℕ)
    → Sizes (read (values (cell_values q)) ws λ cells rest. finish count (opening n rule w p L M q len root cells) rest)
unfolding values
sized_cells count n rule w p L M q len root ws =
    sized_read (values (cell_values q)) ws _ (sized_finish count _ _ (length_values (cell_values q) ws))

sized_body : (count n t : ℕ) (ws : List ℕ) → Sizes (body_of count n t ws)
unfolding body_of
sized_body count n t ws =
    sized_if (eqb t 1) _ _ (sized_finish _ _ _ tt)
    (sized_if (eqb t 2) _ _ (sized_read _ _ _ (sized_read _ _ _ (sized_finish _ _ _ tt)))
    (sized_if (eqb t 3) _ _
    (sized_read _ _ _ (sized_read _ _ _ (sized_read _ _ _ (sized_read _ _ _ (sized_read _ _ _ (sized_read _ _ _ (sized_read _ _ _
    (sized_read _ _ _ (sized_cells _ _ _ _ _ _ _ _ _ _ _)))))))))
    (sized_if (eqb t 4) _ _ (sized_read _ _ _ (sized_read _ _ _ (sized_read _ _ _ (sized_read _ _ _ (sized_finish _ _ _ tt)))))
    (sized_if (eqb t 5) _ _ (sized_read _ _ _ (sized_read _ _ _ (sized_read _ _ _ (sized_finish _ _ _ tt))))
    (sized_if (eqb t 6) _ _ (sized_read _ _ _ (sized_read _ _ _ (sized_finish _ _ _ tt))) sized_none)))))

sized_parse : (s : List ℕ) → Sizes (parse s)
unfolding parse parse_words
sized_parse s = sized_if (eqb (length s % 4) 0) _ none (sized_read head (link_words s) _ (sized_body _ _ _ _)) sized_none

-- The values of a parsed opening, one by one, are the rows of its cell table.
module _ (message : List ℕ) (n rule w p L M q size root : ℕ) (cells : List ℕ)
    (is : parse message ≡ some (opening n rule w p L M q size root cells)) where
  cells_many : length cells ≡ q * 15
  unfolding cell_values
  cells_many = (subst Sizes is (sized_parse message)).sized ∙ omega arith

  cell_is : (k : ℕ) → k < length cells → cell_at message k ≡ get_or cells k 0
  unfolding cells_in cell_at
  cell_is k h = (cell_read message 11 k (cell_at message k) refl).read (opening n rule w p L M q size root cells) is refl h

  row_is : q ≤ 64 → (k : ℕ) → k < q * 15 → get_or (rows_in q (cell_table message q)) k 0 ≡ get_or cells k 0
  unfolding rows_in value_count
  row_is low k h =
      let at : ℕ → ℕ = λ (j : ℕ). get_or (words_of (cell_table message q)) j 0 in
      get_d_along (q * 15) 0 k at h
      ∙ (ap at {x = 0 + k} {y = k} (omega arith)
      ∙ (table_row message q k (omega arith) ∙ cell_is k (omega (arith, cells_many))))

  rows_many : length (rows_in q (cell_table message q)) ≡ q * 15
  unfolding rows_in
  rows_many = length-along (q * 15) 0 _

  pub rows_are : q ≤ 64 → rows_in q (cell_table message q) ≡ cells
  rows_are low = ext_get_or 0 _ _ (rows_many ∙ sym cells_many) (λ k h. row_is low k (omega (arith, rows_many)))
