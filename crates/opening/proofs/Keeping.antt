-- Moving what is kept to a table's front, and another list after it: what is written and what is still to be read are together all.
use mathlib.Core.Bool.{true, false}
use mathlib.Core.List.{List, [], ◌∷◌, ◌++◌, map, append_assoc, append-nil}
use mathlib.Core.Path.{◌≡◌, refl, sym, ap, ◌∙◌}
use Prim.Native.Nat.{ℕ, ◌+◌, ◌*◌, ◌/◌, ◌%◌, ◌≤◌, ◌<◌}
use native.Mathlib.Nat.{add-zero}
use native.Mathlib.Numerals.{add-one}
use native.Mathlib.Omega.{arith}
use lib.ListN.{length, get_or, take, drop, drop_of_length-le}
use lib.Seq.{drop-drop, get_or-drop, take-suc-set, drop-set-lt}
use Rattle.entries.specs.declared.Entry.{Entry}
use Rattle.entries.specs.Entries.{blank, table_of, Put}
use Rattle.entries.proofs.Entries.{length_table, put_length}
use Rattle.shingle.specs.declared.Shingle.{Shingle}
use Rattle.shingle.specs.Table.{entry_of, shingle_of, shingles_in, holds}
use Rattle.sketch.specs.Opening.{kept}
use Rattle.pairs.proofs.Reading.{here, list_long}
use Rattle.opening.specs.Steps.{Kept, Appended}

pub record Counting (gone own : List Shingle) (n found k : ℕ) : Type 0 where
  pub size : n ≡ length own
  pub low : found ≤ k
  pub high : k ≤ n
  pub all : found + length (kept gone (drop k own)) ≡ length (kept gone own)

pub counting_start : (gone own : List Shingle) (n : ℕ) → n ≡ length own → Counting gone own n 0 0
counting_start gone own n e = record { size = e; low = omega arith; high = omega arith; all = omega arith }

pub counting_end : (gone own : List Shingle) (n found k : ℕ) → Counting gone own n found k → n ≤ k → found ≡ length (kept gone own)
unfolding kept
counting_end gone own n found k c h =
    let size = c.size in
    omega (arith, rw (drop_of_length-le own {i = k} (omega arith)) at c.all)

module _ (gone own : List Shingle) (n found k : ℕ) (c : Counting gone own n found k) (h : k < n) (s : Shingle)
    (at : drop k own ≡ s ∷ drop (k + 1) own) where
  pub skipped : holds s gone ≡ true → kept gone (drop k own) ≡ kept gone (drop (k + 1) own)
  unfolding kept
  skipped e = rw (at, e)

  pub taken : holds s gone ≡ false → kept gone (drop k own) ≡ s ∷ kept gone (drop (k + 1) own)
  unfolding kept
  taken e = rw (at, e)

  pub counting_gone : holds s gone ≡ true → Counting gone own n found (k + 1)
  counting_gone e =
      let low = c.low in
      record { size = c.size; low = omega arith; high = omega arith; all = rw (skipped e) at c.all }

  pub counting_kept : holds s gone ≡ false → Counting gone own n (found + 1) (k + 1)
  counting_kept e =
      let low = c.low in
      record { size = c.size; low = omega arith; high = omega arith; all = omega (arith, rw (taken e) at c.all) }

-- An entry that is read as a shingle and written again.
pub entry_again : (e : Entry) → entry_of (shingle_of e) ≡ e
entry_again e =
    let tail : e.tail / 65536 * 65536 + e.tail % 65536 ≡ e.tail = omega arith in
    λ i. record { previous = e.previous; own = e.own; tail = tail i }

pub record Keeping (gone t₀ t : List ℕ) (n w r : ℕ) : Type 0 where
  pub count : Counting (shingles_in gone) (shingles_in t₀) n w r
  pub long : length t ≡ length t₀
  pub ahead : drop r (table_of t) ≡ drop r (table_of t₀)
  pub front : take w (table_of t) ++ map entry_of (kept (shingles_in gone) (drop r (shingles_in t₀))) ≡ map entry_of (kept (shingles_in gone) (shingles_in t₀))

pub keeping_start : (gone t : List ℕ) (n : ℕ) → n ≡ length (shingles_in t) → Keeping gone t t n 0 0
keeping_start gone t n e =
    record { count = counting_start (shingles_in gone) (shingles_in t) n e; long = refl; ahead = refl; front = refl }

pub keeping_end : (gone t₀ t : List ℕ) (n w r : ℕ) → Keeping gone t₀ t n w r → n ≤ r → Kept gone t₀ t
unfolding kept
keeping_end gone t₀ t n w r c h =
    let size = c.count.size in
    let none : drop r (shingles_in t₀) ≡ [] = drop_of_length-le (shingles_in t₀) {i = r} (omega arith) in
    record {
      long = c.long;
      front = ap (λ (k : ℕ). take k (table_of t)) (sym (counting_end _ _ _ _ _ c.count h))
          ∙ (sym (append-nil (take w (table_of t))) ∙ rw none at c.front);
    }

module _ (gone t₀ t : List ℕ) (n w r : ℕ) (c : Keeping gone t₀ t n w r) (h : r < n) (e : Entry) (is : e ≡ get_or (table_of t) r blank)
    (s : Shingle) (read : s ≡ shingle_of e) where
  same_entry : get_or (table_of t) r blank ≡ get_or (table_of t₀) r blank
  same_entry =
      simp add-zero at (sym (get_or-drop r (table_of t) 0 blank) ∙ (ap (λ (l : List Entry). get_or l 0 blank) c.ahead ∙ get_or-drop r (table_of t₀) 0 blank))

  this : drop r (shingles_in t₀) ≡ s ∷ drop (r + 1) (shingles_in t₀)
  this = here t₀ r s (read ∙ ap shingle_of (is ∙ same_entry)) (let size = c.count.size in omega arith)

  entries_long : r < length (table_of t)
  entries_long = let size = c.count.size in let long = c.long in omega (arith, length_table t, list_long t₀)

  drop_next : (l : List Entry) → drop (r + 1) l ≡ drop 1 (drop r l)
  drop_next l = sym (drop-drop 1 r l)

  pub keeping_gone : holds s (shingles_in gone) ≡ true → Keeping gone t₀ t n w (r + 1)
  keeping_gone f =
      record {
        count = counting_gone _ _ _ _ _ c.count h s this f;
        long = c.long;
        ahead = drop_next (table_of t) ∙ (ap (drop 1) c.ahead ∙ sym (drop_next (table_of t₀)));
        front = rw (skipped _ _ _ _ _ c.count h s this f) at c.front;
      }

  pub keeping_next : (t' : List ℕ) → Put t t' w e → holds s (shingles_in gone) ≡ false → Keeping gone t₀ t' n (w + 1) (r + 1)
  keeping_next t' p f =
      let low = c.count.low in
      let rest = map entry_of (kept (shingles_in gone) (drop (r + 1) (shingles_in t₀))) in
      let front : take (w + 1) (table_of t') ≡ take w (table_of t) ++ (e ∷ []) =
      ap (take (w + 1)) p.entries ∙ rw (add-one w) (take-suc-set (table_of t) w e (omega (arith, entries_long))) in
      let mine : map entry_of (kept (shingles_in gone) (drop r (shingles_in t₀))) ≡ e ∷ rest =
      ap (map entry_of) (taken _ _ _ _ _ c.count h s this f) ∙ ap (λ (x : Entry). x ∷ rest) (ap entry_of read ∙ entry_again e) in
      record {
        count = counting_kept _ _ _ _ _ c.count h s this f;
        long = put_length t t' w e p ∙ c.long;
        ahead = ap (drop (r + 1)) p.entries ∙ (drop-set-lt (r + 1) (table_of t) w e (omega arith)
            ∙ (drop_next (table_of t) ∙ (ap (drop 1) c.ahead ∙ sym (drop_next (table_of t₀)))));
        front = ap (λ (l : List Entry). l ++ rest) front
            ∙ (append_assoc (take w (table_of t)) (e ∷ []) rest ∙ (ap (λ (l : List Entry). take w (table_of t) ++ l) (sym mine) ∙ c.front));
      }

pub record Appending (new t₀ t : List ℕ) (from n k : ℕ) : Type 0 where
  pub size : n ≡ length (shingles_in new)
  pub high : k ≤ n
  pub room : (from + n) * 24 ≤ length t₀
  pub long : length t ≡ length t₀
  pub front : take (from + k) (table_of t) ++ map entry_of (drop k (shingles_in new)) ≡ take from (table_of t₀) ++ map entry_of (shingles_in new)

pub appending_start : (new t : List ℕ) (from n : ℕ) → n ≡ length (shingles_in new) → (from + length (shingles_in new)) * 24 ≤ length t
    → Appending new t t from n 0
appending_start new t from n e room =
    record { size = e; high = omega arith; room = omega arith; long = refl; front = simp add-zero }

pub appending_end : (new t₀ t : List ℕ) (from n k : ℕ) → Appending new t₀ t from n k → n ≤ k → Appended new from t₀ t
appending_end new t₀ t from n k c h =
    let size = c.size in
    let high = c.high in
    let whole : from + length (shingles_in new) ≡ from + k = omega arith in
    record {
      long = c.long;
      front = ap (λ (m : ℕ). take m (table_of t)) whole
          ∙ (sym (append-nil (take (from + k) (table_of t))) ∙ rw (drop_of_length-le (shingles_in new) {i = k} (omega arith)) at c.front);
    }

pub appending_next : (new t₀ t t' : List ℕ) (from n k : ℕ) → Appending new t₀ t from n k → k < n → (e : Entry) → e ≡ get_or (table_of new) k blank
    → Put t t' (from + k) e → Appending new t₀ t' from n (k + 1)
appending_next new t₀ t t' from n k c h e is p =
    let size = c.size in
    let room = c.room in
    let long = c.long in
    let rest = map entry_of (drop (k + 1) (shingles_in new)) in
    let next : from + (k + 1) ≡ from + k + 1 = omega arith in
    let front : take (from + (k + 1)) (table_of t') ≡ take (from + k) (table_of t) ++ (e ∷ []) =
    ap (λ (m : ℕ). take m (table_of t')) next ∙ (ap (take (from + k + 1)) p.entries
    ∙ rw (add-one (from + k)) (take-suc-set (table_of t) (from + k) e (omega (arith, length_table t)))) in
    let mine : map entry_of (drop k (shingles_in new)) ≡ e ∷ rest =
    ap (map entry_of) (here new k (shingle_of e) (ap shingle_of is) (omega arith)) ∙ ap (λ (x : Entry). x ∷ rest) (entry_again e) in
    record {
      size = c.size;
      high = omega arith;
      room = c.room;
      long = put_length t t' (from + k) e p ∙ c.long;
      front = ap (λ (l : List Entry). l ++ rest) front
          ∙ (append_assoc (take (from + k) (table_of t)) (e ∷ []) rest
          ∙ (ap (λ (l : List Entry). take (from + k) (table_of t) ++ l) (sym mine) ∙ c.front));
    }
