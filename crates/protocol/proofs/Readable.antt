-- Whatever bytes a sender's tables hold, a reply that it writes is within its fields, so that what is read of it is what was written.
use mathlib.Core.Bool.{Bool, true, false, cond, ◌&&◌}
use mathlib.Core.List.{List, [], ◌∷◌}
use mathlib.Core.Option.{some}
use mathlib.Core.Path.{◌≡◌, subst}
use Prim.Native.Nat.{ℕ, zero, suc, ◌+◌, ◌*◌, ◌/◌, ◌^◌, ◌<◌}
use native.Mathlib.Omega.{arith}
use lib.Dec.{eqb, ltb}
use lib.ListN.{length, get_or, drop, length-append, length-take, length-drop}
use Rattle.rows.specs.Rows.{words_of}
use Rattle.tree.specs.declared.Settings.{Settings}
use Rattle.tree.proofs.Questions.{granted}
use Rattle.node_table.specs.Entries.{id_at}
use Rattle.shingle.specs.declared.Shingle.{Shingle}
use Rattle.shingle.specs.Table.{shingles_in}
use Rattle.shingle.proofs.PairOrder.{and_true}
use Rattle.sketch.specs.Sums.{along}
use Rattle.sketch.proofs.Sums.{length-along}
use Rattle.single.specs.Peeling.{rows_in}
use Rattle.setup.proofs.Questions.{Lent as Passed, lent as lent_passed}
use Rattle.message.specs.Words.{plain}
use Rattle.message.specs.Fields.{one, value, values, values_to}
use Rattle.message.specs.Fields.{Every as Throughout}
use Rattle.message.specs.Messages.{Msg, opening_query, node_query, opening, composition, literal, no_node, cell_values, headed, words_then, size_of, Parts, Valid}
use Rattle.protocol.specs.Lent.{Lent, refused_by}
use Rattle.node_table.specs.declared.Entry.{Entry}
use Rattle.node_table.specs.Nodes.{inside, entries_in, from_first}
use Rattle.protocol.specs.Nodes.{block_in}
use Rattle.protocol.specs.Sender.{child_ids, composable, referable, node_reply, opening_reply, reply_to}
use Rattle.protocol.specs.Calls.{Every}
use Rattle.protocol.proofs.Cases.{chosen, same_message, no_message}
use Rattle.protocol.proofs.Valid.{length_values, all_take, every_drop, Printable, valid_none, valid_literal, valid_composition}

abbrev pub Byte : ℕ → Type 0
Byte b = b < 256

-- A row of bytes is a 64-bit number.
pub row_small : (t : List ℕ) → Every Byte t → (k : ℕ) → get_or (words_of t) k 0 < 2 ^ 64
unfolding words_of Every
row_small [] h k = omega arith
row_small (a ∷ []) h k = omega arith
row_small (a ∷ b ∷ []) h k = omega arith
row_small (a ∷ b ∷ c ∷ []) h k = omega arith
row_small (a ∷ b ∷ c ∷ d ∷ []) h k = omega arith
row_small (a ∷ b ∷ c ∷ d ∷ e ∷ []) h k = omega arith
row_small (a ∷ b ∷ c ∷ d ∷ e ∷ f ∷ []) h k = omega arith
row_small (a ∷ b ∷ c ∷ d ∷ e ∷ f ∷ g ∷ []) h k = omega arith
row_small (a ∷ b ∷ c ∷ d ∷ e ∷ f ∷ g ∷ i ∷ rest) h zero =
    omega (arith, h.0, h.1.0, h.1.1.0, h.1.1.1.0, h.1.1.1.1.0, h.1.1.1.1.1.0, h.1.1.1.1.1.1.0, h.1.1.1.1.1.1.1.0)
row_small (a ∷ b ∷ c ∷ d ∷ e ∷ f ∷ g ∷ i ∷ rest) h (suc k) = row_small rest h.1.1.1.1.1.1.1.1 k

pub id_small : (t : List ℕ) → Every Byte t → (k : ℕ) → id_at t k < 2 ^ 64
unfolding id_at
id_small t h k = go (ltb k (length t / 16))
  where
    go : (b : Bool) → cond b (get_or (words_of t) (k * 2) 0) 0 < 2 ^ 64
    go true = row_small t h (k * 2)
    go false = omega arith

along_small : (n i : ℕ) (f : ℕ → ℕ) → ((k : ℕ) → f k < 2 ^ 64) → Throughout (λ x. x < 2 ^ 64) (along n i f)
unfolding along
along_small zero i f h = tt
along_small (suc n) i f h = (h i, along_small n (suc i) f h)

module _ (σ : Settings) (m : Lent) (asked : refused_by σ m ≡ 0) where
  passed : Passed σ (length m.string) (length m.nodes) (length m.shingles) (length m.cells)
  passed = (lent_passed σ (length m.string) (length m.nodes) (length m.shingles) (length m.cells) true asked).1

  pub opening_valid : (n : ℕ) → n < 2 ^ 24 → id_at m.nodes 0 < 2 ^ 64 → Every Byte m.cells → Valid (opening_reply σ m n)
  unfolding opening_reply Parts size_of words_then headed one value values plain cell_values rows_in
  opening_valid n small root cells =
      let g = granted σ (length m.string) passed.settings in
      let rows = along (σ.width * 15) 0 (λ (k : ℕ). get_or (words_of m.cells) k 0) in
      let many : length rows ≡ σ.width * 15 = length-along (σ.width * 15) 0 _ in
      let a = length-append (values_to rows) [] in
      let b = length_values rows in
      record {
        size = omega (arith, many, a, b, passed.width_high);
        parts = (
          small,
          omega arith,
          omega (arith, g.0.window_high),
          omega (arith, g.0.fan_out_high),
          omega (arith, g.0.levels_high),
          omega (arith, g.0.nominal_high),
          omega (arith, passed.width_high),
          omega (arith, g.1),
          omega (arith, root),
          (omega (arith, many), along_small (σ.width * 15) 0 _ (row_small m.cells cells)),
        );
      }

  module _ (string : Every Byte m.string) where
    block_printable : (e : Entry) → Printable 65536 (block_in m.string e)
    unfolding block_in
    block_printable e =
        let g = granted σ (length m.string) passed.settings in
        let a = length-take e.size (drop e.start m.string) in
        let b = length-drop e.start m.string in
        record { bytes_fit = all_take Byte e.size (drop e.start m.string) (every_drop Byte e.start m.string string); short = omega (arith, a, b, g.1) }

    node_valid : (list : List Shingle) (n l i : ℕ) (es : List Entry) → Valid (node_query n l i) → Valid (node_reply σ m.string list n l i es)
    unfolding node_reply
    node_valid list n l i [] v = valid_none n l i v
    node_valid list n l i (e ∷ es) v =
        let ids = child_ids (length m.string) l es in
        chosen Valid (composable σ l ids && referable list (l + 1) ids) _ _
        (λ t. let both = and_true (composable σ l ids) _ t in valid_composition σ list n l i ids v both.0 both.1)
        (λ t. valid_literal n l i _ v (block_printable e))

    -- Any reply: what is lent for reading are bytes, and the query is one that was read.
    pub every_reply_valid : Every Byte m.nodes → Every Byte m.cells → (query x : Msg) → Valid query → reply_to σ m query ≡ some x → Valid x
    unfolding reply_to Parts
    every_reply_valid nodes cells (opening_query n) x v e = subst Valid (same_message e) (opening_valid n v.parts (id_small m.nodes nodes 0) cells)
    every_reply_valid nodes cells (node_query n l i) x v e =
        subst Valid (same_message e)
        (node_valid (shingles_in m.shingles) n l i (from_first (λ e. inside (length m.string) e && (eqb e.level l && eqb e.id i)) (entries_in m.nodes)) v)
    every_reply_valid nodes cells (opening n rule w p L M q size root rows) x v e = absurd (no_message e)
    every_reply_valid nodes cells (composition n l i y refs) x v e = absurd (no_message e)
    every_reply_valid nodes cells (literal n l i bytes) x v e = absurd (no_message e)
    every_reply_valid nodes cells (no_node n l i) x v e = absurd (no_message e)
