-- Laws of writing nodes one after the other: entries are 16 bytes, what is written twice in a row is written at once,
-- and writing goes on until the table is full.
use mathlib.Core.List.{List, [], ◌∷◌, ◌++◌, map, map-append, append-nil}
use mathlib.Core.Path.{◌≡◌, refl, sym, ap, ◌∙◌}
use Prim.Native.Nat.{ℕ, ◌+◌, ◌*◌, ◌≤◌, ◌<◌}
use native.Mathlib.Omega.{arith}
use native.Mathlib.Decide.{dec_le}
use lib.ListN.{length, length-append, length-map}
use Rattle.rows.specs.Rows.{put}
use Rattle.rows.proofs.Put.{put-put}
use Rattle.node_table.specs.Entries.{entry_bytes, put_of}
use Rattle.node_table.specs.Nodes.{entries_bytes}
use Rattle.node_table.proofs.Entries.{put_room}
use Rattle.node_table.proofs.Nodes.{length_entries, entries_append}
use Rattle.tree.specs.Places.{Placed}
use Rattle.tree.specs.Table.{entry_of, entries_of}
use Rattle.std.specs.Prelude.{Option, None, Some}
use Rattle.tree.specs.Wrote.{Wrote}

pub length_nodes : (ns : List Placed) → length (entries_of ns) ≡ length ns * 16
length_nodes ns = length_entries (map entry_of ns) ∙ ap (λ (n : ℕ). n * 16) (length-map ns entry_of)

nodes_append : (ns ms : List Placed) → entries_of (ns ++ ms) ≡ entries_of ns ++ entries_of ms
nodes_append ns ms = ap entries_bytes (map-append entry_of ns ms) ∙ entries_append (map entry_of ns) (map entry_of ms)

pub wrote_entry : (before after : List ℕ) (u : ℕ) (n : Placed) → length before ≡ 65536 → u < 4096 → after ≡ put_of before u (entry_of n)
    → Wrote before after u (n ∷ []) (Some (u + 1))
unfolding entries_bytes
wrote_entry before after u n room h e =
    record {
      fit = λ k. (refl, e ∙ (put_room before u (entry_of n) (omega arith) ∙ ap (put before (u * 16)) (sym (append-nil (entry_bytes (entry_of n))))));
      full = λ k. absurd (omega arith);
    }

pub wrote_none : (t : List ℕ) (u : ℕ) (n : Placed) → u ≡ 4096 → Wrote t t u (n ∷ []) None
wrote_none t u n e = record { fit = λ k. absurd (omega arith); full = λ k. refl }

-- Nodes that fitted.
module _ (t₀ t₁ : List ℕ) (u : ℕ) (ns : List Placed) (v : ℕ) (first : Wrote t₀ t₁ u ns (Some v)) where
  pub fits : u + length ns ≤ 4096
  fits = elim (dec_le (u + length ns) 4096) [ yes k ↦ k | no k ↦ let f = first.full (omega arith) in absurd (cc f) ]

  -- As many entries as there are then.
  pub filled : v ≡ u + length ns
  filled = let f = (first.fit fits).0 in cc f

  pub inside : v ≤ 4096
  inside = omega (arith, fits, filled)

  -- What is written after them.
  pub after : (t₂ : List ℕ) (ms : List Placed) (r : Option ℕ) → length t₀ ≡ 65536 → Wrote t₁ t₂ v ms r → Wrote t₀ t₂ u (ns ++ ms) r
  after t₂ ms r room second =
      let sized = length-append ns ms in
      let is = filled in
      let written = (first.fit fits).1 in
      record {
        fit = λ k.
            let more = second.fit (omega arith) in (
              more.0 ∙ ap (λ (n : ℕ). Some n) {x = v + length ms} {y = u + length (ns ++ ms)} (omega arith),
              more.1 ∙ (ap (λ (l : List ℕ). put l (v * 16) (entries_of ms)) written
                  ∙ (put-put t₀ (entries_of ns) (entries_of ms) (u * 16) (v * 16) (omega (arith, length_nodes ns)) (omega (arith, fits))
                  ∙ ap (λ (l : List ℕ). put t₀ (u * 16) l) (sym (nodes_append ns ms)))),
            );
        full = λ k. second.full (omega arith);
      }

-- Nodes that did not fit stay so, whatever comes after them.
pub stop : (t₀ t₁ : List ℕ) (u : ℕ) (ns ms : List Placed) → Wrote t₀ t₁ u ns None → Wrote t₀ t₁ u (ns ++ ms) None
stop t₀ t₁ u ns ms first =
    let sized = length-append ns ms in
    record { fit = λ k. let f = (first.fit (omega arith)).0 in absurd (cc f); full = λ k. refl }
