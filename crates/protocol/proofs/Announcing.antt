-- A sender's own opening announces its string, whatever settings its state then holds: document 01 asks an unaltered state of genuine
-- messages only.
use mathlib.Core.Bool.{true}
use mathlib.Core.List.{List, [], ◌∷◌}
use mathlib.Core.Option.{some}
use mathlib.Core.Path.{◌≡◌, ap, ◌∙◌}
use Prim.Native.Nat.{ℕ, zero, suc, ◌-◌, ◌^◌, ◌<◌}
use native.Mathlib.Omega.{arith}
use lib.ListN.{length, replicate}
use Rattle.rows.specs.Rows.{bytes_of}
use Rattle.fnv.specs.Fnv.{id_of_block}
use Rattle.fnv.proofs.Fnv.{block_id_small}
use Rattle.partition.specs.Cuts.{rule_number}
use Rattle.tree.specs.declared.Settings.{Settings}
use Rattle.node_table.specs.Entries.{id_at}
use Rattle.sketch.specs.Sums.{row_bytes}
use Rattle.single.specs.Peeling.{rows_in}
use Rattle.setup.specs.Tables.{cell_front, setup_table}
use Rattle.setup.proofs.Accepted.{first_id}
use Rattle.message.specs.Messages.{opening, encode}
use Rattle.message.proofs.Messages.{parse-encode}
use Rattle.protocol.specs.Lent.{Lent, refused_by}
use Rattle.protocol.specs.Sender.{opening_reply}
use Rattle.protocol.specs.Calls.{Every}
use Rattle.protocol.specs.Demand.{SetupAccepts, left_by_setup, Announces}
use Rattle.protocol.proofs.Members.{every_append}
use Rattle.protocol.proofs.Memory.{made}
use Rattle.protocol.proofs.Readable.{Byte, opening_valid}

-- The tables that a setup leaves are bytes.
eight_bytes : (x : ℕ) → Every Byte (bytes_of x)
unfolding bytes_of Every
eight_bytes x = (omega arith, (omega arith, (omega arith, (omega arith, (omega arith, (omega arith, (omega arith, (omega arith, tt))))))))

rows_bytes : (xs : List ℕ) → Every Byte (row_bytes xs)
unfolding row_bytes
rows_bytes [] = unfold Every in tt
rows_bytes (x ∷ xs) = every_append Byte (bytes_of x) (row_bytes xs) (eight_bytes x) (rows_bytes xs)

zero_bytes : (n : ℕ) → Every Byte (replicate n 0)
unfolding Every
zero_bytes zero = tt
zero_bytes (suc n) = (omega arith, zero_bytes n)

module _ (σ τ : Settings) (m : Lent) (n : ℕ) (set-up : SetupAccepts σ m) (asked : refused_by τ (left_by_setup σ m) ≡ 0) (small : n < 2 ^ 24) where
  abbrev left : Lent
  left = left_by_setup σ m

  cell_bytes : Every Byte left.cells
  unfolding setup_table cell_front
  cell_bytes = every_append Byte (cell_front σ m.string) (replicate (length m.cells - length (cell_front σ m.string)) 0) (rows_bytes _) (zero_bytes (length m.cells - length (cell_front σ m.string)))

  root_is : id_at left.nodes 0 ≡ id_of_block m.string
  root_is = first_id σ m.string m.nodes left.nodes m.shingles left.shingles m.cells left.cells true _ (made σ m set-up) set-up

  -- "A sender's own opening is one written over the string its accepted setup took, with the tables as that setup left them."
  pub own_opening_announces : Announces m.string (encode (opening_reply τ left n))
  own_opening_announces =
      let root : id_at left.nodes 0 < 2 ^ 64 = omega (arith, root_is, block_id_small m.string) in
      record {
        session = n;
        rule = rule_number;
        settings = τ;
        cells = rows_in τ.width left.cells;
        is = parse-encode (opening_reply τ left n) (opening_valid τ left asked n small root cell_bytes) ∙ ap some announced;
      }
    where
      announced : opening_reply τ left n
          ≡ opening n rule_number τ.window τ.fan_out τ.levels τ.nominal τ.width (length m.string) (id_of_block m.string) (rows_in τ.width left.cells)
      announced =
          unfold opening_reply in
          ap (λ (root : ℕ). opening n rule_number τ.window τ.fan_out τ.levels τ.nominal τ.width (length m.string) root (rows_in τ.width left.cells)) root_is
