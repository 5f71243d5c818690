-- Both ways out of filling a shingle table are cases of the definition: the table too short, and filled.
use mathlib.Core.List.{List, ◌++◌, map}
use mathlib.Core.Path.{◌≡◌, sym, ap, ap₂, ◌∙◌}
use Prim.Native.Nat.{ℕ, ◌+◌, ◌*◌, ◌-◌, ◌^◌, ◌≤◌, ◌<◌}
use native.Mathlib.Omega.{arith}
use borrow.Author.Tests.{le-leb, lt-leb}
use lib.ListN.{length, get_or, take, drop, replicate, length-take, length-map}
use lib.Seq.{length-take-le, length_front, take-append-le}
use Rattle.rows.specs.Rows.{clear_from}
use Rattle.entries.specs.declared.Entry.{Entry}
use Rattle.entries.specs.Entries.{table_of, table_bytes}
use Rattle.entries.specs.Order.{precedes}
use Rattle.entries.proofs.Entries.{length_table, table_append, table_take, front_back}
use Rattle.sort.specs.Sort.{sort_of}
use Rattle.shingle.specs.declared.Shingle.{Shingle}
use Rattle.shingle.specs.Shingles.{Pair, pairs_of, shingles_of}
use Rattle.shingle.specs.Table.{entry_of, shingles_in, nodes_in, fill_answer, fill_table, Filled}
use Rattle.shingle.specs.Steps.{single, tallied, Written, Merged}
use Rattle.shingle.proofs.Counted.{tallied-counted}
use Rattle.shingle.proofs.Counts.{counts_counted}
use Rattle.shingle.proofs.Written.{written_list}

pub plus_fits : (n : ℕ) → n ≤ 4096 → 4294967296 + n < 2 ^ 64
plus_fits n h = omega arith

pub filled_short : (nodes t : List ℕ) → length t < 98304 → Filled nodes t t 7
unfolding fill_answer fill_table
filled_short nodes t h =
    record {
      answer = rw (lt-leb 98304 (length t) h);
      table = rw (lt-leb 98304 (length t) h);
      list = λ k. absurd (omega arith);
    }

-- The pairs lie inside the table.
pub fits : (nodes t t₁ : List ℕ) (n : ℕ) → Written nodes t t₁ n → 98304 ≤ length t → n * 24 ≤ length t₁
fits nodes t t₁ n w h = let few = w.few in let long = w.long in omega arith

pub few : (nodes t t₁ p : List ℕ) (n r : ℕ) → Written nodes t t₁ n
    → Merged (sort_of precedes (table_of (take (n * 24) t₁))) (take (n * 24) t₁) p r → r ≤ 4096
few nodes t t₁ p n r w m = let h = m.few in let k = w.few in omega (arith, length-take (n * 24) t₁)

module _ (nodes t t₁ p : List ℕ) (n r : ℕ) (room : 98304 ≤ length t) (w : Written nodes t t₁ n)
    (m : Merged (sort_of precedes (table_of (take (n * 24) t₁))) (take (n * 24) t₁) p r) where
  abbrev pairs : List Pair
  pairs = pairs_of (nodes_in nodes)

  abbrev shingles : List Shingle
  shingles = shingles_of (nodes_in nodes)

  inside : n * 24 ≤ length t₁
  inside = fits nodes t t₁ n w room

  part_long : length p ≡ n * 24
  part_long = m.long ∙ length-take-le (n * 24) t₁ inside

  part_fewer : r ≤ n
  part_fewer = let h = m.few in omega (arith, length-take-le (n * 24) t₁ inside)

  pairs_few : length pairs ≡ n
  pairs_few =
      sym (length-map pairs single) ∙ (ap length (sym w.pairs) ∙ length-take-le n (table_of t₁) (omega (arith, length_table t₁, inside)))

  merged_shingles : take r (table_of p) ≡ map entry_of shingles
  unfolding shingles_of
  merged_shingles =
      let few = w.few in
      m.stretches ∙ (ap (λ (l : List Entry). tallied (sort_of precedes l)) (table_take t₁ n inside ∙ w.pairs) ∙ tallied-counted pairs (omega (arith, pairs_few)))

  shingles_few : r ≡ length shingles
  shingles_few =
      sym (length-take-le r (table_of p) (omega (arith, length_table p, part_long, part_fewer)))
      ∙ (ap length merged_shingles ∙ length-map shingles entry_of)

  abbrev whole : List ℕ
  whole = p ++ drop (n * 24) t₁

  whole_long : length whole ≡ length t
  whole_long = length_front t₁ p (n * 24) m.long ∙ w.long

  whole_fits : r * 24 ≤ length whole
  whole_fits = omega (arith, whole_long, inside, part_fewer, w.long)

  first_entries : take r (table_of whole) ≡ map entry_of shingles
  first_entries =
      ap (take r) (table_append p (drop (n * 24) t₁) (omega (arith, part_long)))
      ∙ (take-append-le r (table_of p) (table_of (drop (n * 24) t₁)) (omega (arith, length_table p, part_long, part_fewer)) ∙ merged_shingles)

  front : ((i : ℕ) → get_or whole i 0 < 256) → take (r * 24) whole ≡ table_bytes (map entry_of shingles)
  front small = front_back whole r whole_fits small ∙ ap table_bytes first_entries

  read_back : (zeros : ℕ) → shingles_in (take (r * 24) whole ++ replicate zeros 0) ≡ shingles
  unfolding shingles_of
  read_back zeros =
      written_list (take (r * 24) whole) zeros (length pairs) shingles (omega (arith, length-take-le (r * 24) whole whole_fits))
      (table_take whole r whole_fits ∙ first_entries) (omega (arith, pairs_few, w.few)) (counts_counted pairs)

module _ (nodes t t₁ p after : List ℕ) (n r answer : ℕ) (room : 98304 ≤ length t) (w : Written nodes t t₁ n)
    (m : Merged (sort_of precedes (table_of (take (n * 24) t₁))) (take (n * 24) t₁) p r) where
  pub filled : ((i : ℕ) → get_or (p ++ drop (n * 24) t₁) i 0 < 256) → after ≡ clear_from (p ++ drop (n * 24) t₁) (r * 24)
      → answer ≡ 4294967296 + r → Filled nodes t after answer
  unfolding fill_answer fill_table clear_from
  filled small cleared said =
      let count = shingles_few nodes t t₁ p n r room w m in
      let long = whole_long nodes t t₁ p n r room w m in
      let ss = shingles_of (nodes_in nodes) in
      let zeros : length (p ++ drop (n * 24) t₁) - r * 24 ≡ length t - 24 * length ss = omega arith in
      record {
        answer = said ∙ (ap (λ (k : ℕ). 4294967296 + k) count ∙ rw (le-leb 98304 (length t) room));
        table = cleared ∙ (ap₂ (λ (a : List ℕ) (k : ℕ). a ++ replicate k 0) (front nodes t t₁ p n r room w m small) zeros
            ∙ rw (le-leb 98304 (length t) room));
        list = λ h. ap shingles_in cleared ∙ read_back nodes t t₁ p n r room w m (length (p ++ drop (n * 24) t₁) - r * 24);
      }
