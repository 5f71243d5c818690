-- Both ways out of writing the new list are cases of the definition: no room in the table, and written.
use mathlib.Core.Bool.{Bool, true, false, cond}
use mathlib.Core.List.{List, [], ◌∷◌, ◌++◌, map, map-append}
use mathlib.Core.Path.{◌≡◌, sym, ap, ap₂, ◌∙◌}
use Prim.Native.Nat.{ℕ, suc, ◌+◌, ◌*◌, ◌-◌, ◌/◌, ◌^◌, ◌≤◌, ◌<◌}
use native.Mathlib.Omega.{arith}
use borrow.Author.Tests.{le-leb, lt-leb}
use lib.ListN.{length, get_or, take, drop, replicate, length-append}
use lib.Seq.{length-take-le, length_front, take_at}
use Rattle.rows.specs.Rows.{clear_from}
use Rattle.entries.specs.declared.Entry.{Entry}
use Rattle.entries.specs.Entries.{table_of, table_bytes}
use Rattle.entries.specs.Order.{precedes}
use Rattle.entries.proofs.Entries.{length_table, table_append, table_take, front_back}
use Rattle.sort.specs.Sort.{sort_of, Sorted}
use Rattle.sort.proofs.Ordered.{sort_length}
use Rattle.shingle.specs.declared.Shingle.{Shingle}
use Rattle.shingle.specs.Table.{entry_of, shingles_in, holds}
use Rattle.shingle.proofs.Written.{written_list}
use Rattle.sketch.specs.Opening.{kept, before, renewed}
use Rattle.pairs.proofs.Reading.{list_long}
use Rattle.opening.specs.Renewing.{list_of, renew_answer, renew_table, Renewed}
use Rattle.opening.specs.Steps.{Kept, Appended}
use Rattle.opening.proofs.Sorting.{sort_entries, counts_sort, counts_all}

kept_few : (gone ss : List Shingle) → length (kept gone ss) ≤ length ss
unfolding kept
kept_few gone [] = omega arith
kept_few gone (s ∷ ss) = go (holds s gone) (kept_few gone ss)
  where
    go : (t : Bool) → length (kept gone ss) ≤ length ss → length (cond t (kept gone ss) (s ∷ kept gone ss)) ≤ suc (length ss)
    go true h = omega arith
    go false h = omega arith

-- The new list has as many shingles as are kept and new.
pub renewed-length : (own gone new : List Shingle) → length (renewed own gone new) ≡ length (kept gone own) + length new
unfolding renewed
renewed-length own gone new = sort_length before (kept gone own ++ new) ∙ length-append (kept gone own) new

module _ (new gone t : List ℕ) (old more : ℕ) (counted : old ≡ length (kept (shingles_in gone) (shingles_in t)))
    (sized : more ≡ length (shingles_in new)) where
  pub number_fits : length new < 2 ^ 64 → length t < 2 ^ 64 → old + more < 2 ^ 64
  number_fits h k =
      omega (arith, kept_few (shingles_in gone) (shingles_in t), list_long t, list_long new)

  number : length (list_of new gone t) ≡ old + more
  unfolding list_of
  number = renewed-length (shingles_in t) (shingles_in gone) (shingles_in new) ∙ sym (ap₂ (λ (a b : ℕ). a + b) counted sized)

  pub no_room : length t / 24 < old + more → Renewed new gone t t 7
  unfolding renew_answer renew_table
  no_room h =
      let list = list_of new gone t in
      let short : length t < length list * 24 = omega (arith, number) in
      record {
        answer = rw (lt-leb (length list * 24) (length t) short);
        table = rw (lt-leb (length list * 24) (length t) short);
        list = λ k. absurd (omega arith);
      }

  pub append_fits : (t₁ : List ℕ) → old + more ≤ length t / 24 → Kept gone t t₁ → (old + length (shingles_in new)) * 24 ≤ length t₁
  append_fits t₁ h k = let long = k.long in omega arith

  pub sort_fits : (t₁ t₂ : List ℕ) → old + more ≤ length t / 24 → Kept gone t t₁ → Appended new old t₁ t₂ → (old + more) * 24 ≤ length t₂
  sort_fits t₁ t₂ h k a = let long = k.long in let again = a.long in omega arith

  module _ (t₁ t₂ p : List ℕ) (room : old + more ≤ length t / 24) (k : Kept gone t t₁) (a : Appended new old t₁ t₂)
      (s : Sorted (take ((old + more) * 24) t₂) p) (same : length p ≡ length (take ((old + more) * 24) t₂)) where
    abbrev n : ℕ
    n = old + more

    abbrev all : List Shingle
    all = kept (shingles_in gone) (shingles_in t) ++ shingles_in new

    inside : n * 24 ≤ length t₂
    inside = sort_fits t₁ t₂ room k a

    together : take n (table_of t₂) ≡ map entry_of all
    together =
        let first : take old (table_of t₁) ≡ map entry_of (kept (shingles_in gone) (shingles_in t)) =
        ap (λ (m : ℕ). take m (table_of t₁)) counted ∙ k.front in
        ap (λ (m : ℕ). take (old + m) (table_of t₂)) sized
        ∙ (a.front ∙ (ap (λ (l : List Entry). l ++ map entry_of (shingles_in new)) first
        ∙ sym (map-append entry_of (kept (shingles_in gone) (shingles_in t)) (shingles_in new))))

    part_long : length p ≡ n * 24
    part_long = same ∙ length-take-le (n * 24) t₂ inside

    part : table_of p ≡ map entry_of (list_of new gone t)
    unfolding list_of renewed
    part =
        s.entries ∙ (ap (sort_of precedes) (table_take t₂ n inside ∙ together) ∙ sort_entries all (counts_all new gone t))

    abbrev whole : List ℕ
    whole = p ++ drop (n * 24) t₂

    whole_long : length whole ≡ length t
    whole_long = length_front t₂ p (n * 24) same ∙ (a.long ∙ k.long)

    first_entries : take n (table_of whole) ≡ map entry_of (list_of new gone t)
    first_entries =
        ap (take n) (table_append p (drop (n * 24) t₂) (omega (arith, part_long)))
        ∙ (take_at (table_of p) (table_of (drop (n * 24) t₂)) n (omega (arith, length_table p, part_long)) ∙ part)

    whole_fits : n * 24 ≤ length whole
    whole_fits = omega (arith, whole_long)

    front : ((i : ℕ) → get_or whole i 0 < 256) → take (n * 24) whole ≡ table_bytes (map entry_of (list_of new gone t))
    front small = front_back whole n whole_fits small ∙ ap table_bytes first_entries

    read_back : (zeros : ℕ) → shingles_in (take (n * 24) whole ++ replicate zeros 0) ≡ list_of new gone t
    unfolding list_of renewed
    read_back zeros =
        written_list (take (n * 24) whole) zeros 65535 (list_of new gone t) (omega (arith, length-take-le (n * 24) whole whole_fits))
        (table_take whole n whole_fits ∙ first_entries) (omega arith) (counts_sort (counts_all new gone t))

    pub written : (after : List ℕ) (answer : ℕ) → ((i : ℕ) → get_or whole i 0 < 256) → after ≡ clear_from whole (n * 24) → answer ≡ 4294967296 + n
        → Renewed new gone t after answer
    unfolding renew_answer renew_table clear_from
    written after answer small cleared said =
        let list = list_of new gone t in
        let fits : length list * 24 ≤ length t = omega (arith, number) in
        let zeros : length whole - n * 24 ≡ length t - length list * 24 = omega (arith, number, whole_long) in
        record {
          answer = said ∙ (ap (λ (m : ℕ). 4294967296 + m) (sym number) ∙ rw (le-leb (length list * 24) (length t) fits));
          table = cleared ∙ (ap₂ (λ (l : List ℕ) (m : ℕ). l ++ replicate m 0) (front small) zeros ∙ rw (le-leb (length list * 24) (length t) fits));
          list = λ h. ap shingles_in cleared ∙ read_back (length whole - n * 24);
        }
