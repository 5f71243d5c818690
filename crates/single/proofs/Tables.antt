-- A table of 192 entries that lists n shingles and is blank after them: one more shingle is written and read back.
use Rattle.std.proofs.Common.{◌≡◌, ℕ, zero, suc, ◌+◌, ◌-◌, ◌*◌, ◌/◌, ◌%◌, ◌<◌, ◌≤◌, Bool, true, false, cond, eqb, List, [], ◌∷◌, ◌++◌, map, length, get_or, take, drop, set, replicate, sym, refl, ap, ◌∙◌, append_assoc, append-nil, arith, length-append, get_or-set_other, take_at, drop_at, eq-eqb, ne_eqb, le-leb}
use native.Mathlib.Decide.{dec_lt}
use lib.ListN.{length-replicate, replicate-append-replicate}
use lib.Seq.{drop-append-add}
use Rattle.rows.specs.Rows.{words_of, bytes_of}
use Rattle.rows.proofs.Rows.{zero_rows}
use Rattle.entries.specs.declared.Entry.{Entry}
use Rattle.entries.specs.Entries.{blank, entries_of, table_of, entry_bytes, table_bytes, put_of, Put}
use Rattle.entries.proofs.Entries.{length_table, get_rows, get_none, put_length}
use Rattle.shingle.specs.declared.Shingle.{Shingle}
use Rattle.shingle.specs.Table.{entry_of, shingle_of, shingles_from, shingles_in}
use Rattle.shingle.proofs.Counts.{none}
use Rattle.shingle.proofs.Written.{written_list}
use Rattle.single.specs.Peeling.{list_table}
use Rattle.single.specs.Steps.{Cleared}

-- A table for 192 shingles that lists n of them, has their bytes and is blank after them.
pub record Holds (t : List ℕ) (n : ℕ) : Type 0 where
  pub long : length t ≡ 4608
  pub bytes : t ≡ list_table 4608 (shingles_in t)
  pub size : length (shingles_in t) ≡ n
  pub after : (k : ℕ) → n ≤ k → get_or (table_of t) k blank ≡ blank

-- A table of zeros lists none.
zero_list : (n : ℕ) → shingles_in (replicate n 0) ≡ []
unfolding words_of entries_of
zero_list n = written_list [] n 0 [] refl refl (omega arith) none

zero_entries : (n k : ℕ) → get_or (table_of (replicate n 0)) k blank ≡ blank
zero_entries n k =
    elim (dec_lt k (length (replicate {A = ℕ} n 0) / 24)) [
      | yes h ↦ sym (get_rows (replicate n 0) k 0 0 0 h (sym (zero_rows n (k * 3))) (sym (zero_rows n (k * 3 + 1))) (sym (zero_rows n (k * 3 + 2))))
      | no h ↦ sym (get_none (replicate n 0) k (omega arith))
    ]

zero_table : (n : ℕ) → replicate n 0 ≡ list_table n []
unfolding list_table table_bytes
zero_table n = ap (λ (m : ℕ). replicate {A = ℕ} m 0) {x = n} {y = n - 24 * 0} (omega arith)

zeros_list : (n : ℕ) (t : List ℕ) → t ≡ replicate n 0 → n ≡ 4608 → (shingles_in t ≡ []) × Holds t 0
zeros_list n t e long =
    let empty : shingles_in t ≡ [] = ap shingles_in e ∙ zero_list n in (
      empty,
      record {
        long = ap length e ∙ (length-replicate {A = ℕ} n 0 ∙ long);
        bytes = e ∙ (zero_table n ∙ (ap (λ (m : ℕ). list_table m []) long ∙ ap (list_table 4608) (sym empty)));
        size = ap length empty;
        after = λ k h. ap (λ (l : List ℕ). get_or (table_of l) k blank) e ∙ zero_entries n k;
      },
    )

pub cleared_list : (t : List ℕ) → Cleared t → (shingles_in t ≡ []) × Holds t 0
cleared_list t c = zeros_list 4608 t c.zeros refl

-- An entry written where the list ends.
from_blank : (l : List Entry) → get_or l 0 blank ≡ blank → shingles_from l ≡ []
unfolding shingles_from
from_blank [] e = refl
from_blank (x ∷ l) e = rw (eq-eqb (x.tail % 65536) 0 (ap (λ (y : Entry). y.tail % 65536) e))

put_last : (l : List Entry) (e : Entry) (n : ℕ) → length (shingles_from l) ≡ n → n < length l → ((k : ℕ) → n ≤ k → get_or l k blank ≡ blank)
    → 1 ≤ e.tail % 65536 → shingles_from (set l n e) ≡ shingles_from l ++ (shingle_of e ∷ [])
unfolding shingles_from
put_last [] e n size h after c = absurd (omega arith)
put_last (x ∷ l) e n size h after c = go (eqb (x.tail % 65536) 0) refl n size h after (λ m a b d. put_last l e m a b d c)
  where
    go : (t : Bool) → eqb (x.tail % 65536) 0 ≡ t → (n : ℕ) → length (cond t [] (shingle_of x ∷ shingles_from l)) ≡ n → n < suc (length l)
        → ((k : ℕ) → n ≤ k → get_or (x ∷ l) k blank ≡ blank)
        → ((m : ℕ) → length (shingles_from l) ≡ m → m < length l → ((k : ℕ) → m ≤ k → get_or l k blank ≡ blank)
        → shingles_from (set l m e) ≡ shingles_from l ++ (shingle_of e ∷ []))
        → shingles_from (set (x ∷ l) n e) ≡ cond t [] (shingle_of x ∷ shingles_from l) ++ (shingle_of e ∷ [])
    go true f zero size h after rest =
        rw (ne_eqb (e.tail % 65536) 0 (λ z. omega arith)) (ap (λ (a : List Shingle). shingle_of e ∷ a) (from_blank l (after 1 (omega arith))))
    go true f (suc m) size h after rest = absurd (omega arith)
    go false f zero size h after rest = absurd (omega arith)
    go false f (suc m) size h after rest =
        rw f (ap (λ (a : List Shingle). shingle_of x ∷ a) (rest m (omega arith) (omega arith) (λ k i. after (suc k) (omega arith))))

-- The bytes of entries.
length_bytes : (x : ℕ) → length (bytes_of x) ≡ 8
unfolding bytes_of
length_bytes x = refl

length_entry : (e : Entry) → length (entry_bytes e) ≡ 24
unfolding entry_bytes
length_entry e = simp (length-append, length_bytes)

length_all : (ss : List Shingle) → length (table_bytes (map entry_of ss)) ≡ length ss * 24
unfolding table_bytes
length_all [] = refl
length_all (s ∷ ss) =
    length-append (entry_bytes (entry_of s)) (table_bytes (map entry_of ss)) ∙ omega (arith, length_entry (entry_of s), length_all ss)

bytes_last : (ss : List Shingle) (s : Shingle) → table_bytes (map entry_of (ss ++ (s ∷ []))) ≡ table_bytes (map entry_of ss) ++ entry_bytes (entry_of s)
unfolding table_bytes
bytes_last [] s = append-nil (entry_bytes (entry_of s))
bytes_last (x ∷ ss) s =
    ap (λ (l : List ℕ). entry_bytes (entry_of x) ++ l) (bytes_last ss s)
    ∙ sym (append_assoc (entry_bytes (entry_of x)) (table_bytes (map entry_of ss)) (entry_bytes (entry_of s)))

fewer_zeros : (n : ℕ) → 24 ≤ n → drop 24 (replicate {A = ℕ} n 0) ≡ replicate (n - 24) 0
fewer_zeros n h =
    ap (drop 24) (ap (λ (m : ℕ). replicate {A = ℕ} m 0) {x = n} {y = 24 + (n - 24)} (omega arith) ∙ sym (replicate-append-replicate 24 (n - 24) 0))
    ∙ drop_at (replicate 24 0) (replicate (n - 24) 0) 24 (length-replicate {A = ℕ} 24 0)

table_more : (room n : ℕ) (t t' : List ℕ) (ss : List Shingle) (s : Shingle) → length t ≡ room → length ss ≡ n → n * 24 + 24 ≤ room
    → t ≡ list_table room ss → t' ≡ put_of t n (entry_of s) → t' ≡ list_table room (ss ++ (s ∷ []))
unfolding list_table put_of
table_more room n t t' ss s long size fits e p =
    let a = table_bytes (map entry_of ss) in
    let x = entry_bytes (entry_of s) in
    let z = room - 24 * length ss in
    let la : length a ≡ n * 24 = length_all ss ∙ ap (λ (m : ℕ). m * 24) size in
    let front : take (n * 24) t ≡ a = ap (take (n * 24)) e ∙ take_at a (replicate z 0) (n * 24) la in
    let back : drop (n * 24 + 24) t ≡ replicate (z - 24) 0 =
    ap (drop (n * 24 + 24)) e
    ∙ (ap (λ (m : ℕ). drop (m + 24) (a ++ replicate z 0)) (sym la) ∙ (drop-append-add a (replicate z 0) 24 ∙ fewer_zeros z (omega arith))) in
    let less : z - 24 ≡ room - 24 * length (ss ++ (s ∷ [])) = omega (arith, length-append ss (s ∷ [])) in
    p
    ∙ (rw (le-leb (n * 24 + 24) (length t) (omega arith), front, back)
    (sym (append_assoc a x (replicate (z - 24) 0))
    ∙ (ap (λ (l : List ℕ). l ++ replicate (z - 24) 0) (sym (bytes_last ss s))
    ∙ ap (λ (m : ℕ). table_bytes (map entry_of (ss ++ (s ∷ []))) ++ replicate {A = ℕ} m 0) less)))

entry_again : (e : Entry) → e ≡ entry_of (shingle_of e)
entry_again e =
    let whole : e.tail ≡ e.tail / 65536 * 65536 + e.tail % 65536 = omega arith in
    λ i. record { previous = e.previous; own = e.own; tail = whole i }

pub list_more : (t t' : List ℕ) (n : ℕ) (e : Entry) → n < 192 → Holds t n → Put t t' n e → 1 ≤ e.tail % 65536
    → (shingles_in t' ≡ shingles_in t ++ (shingle_of e ∷ [])) × Holds t' (n + 1)
unfolding shingles_in
list_more t t' n e room l p c =
    let written : shingles_in t' ≡ shingles_in t ++ (shingle_of e ∷ []) =
    ap shingles_from p.entries ∙ put_last (table_of t) e n l.size (omega (arith, length_table t, l.long)) l.after c in (
      written,
      record {
        long = put_length t t' n e p ∙ l.long;
        bytes = table_more 4608 n t t' (shingles_in t) (shingle_of e) l.long l.size (omega arith) l.bytes
            (p.bytes ∙ ap (put_of t n) (entry_again e))
            ∙ ap (list_table 4608) (sym written);
        size = ap length written ∙ (length-append (shingles_in t) (shingle_of e ∷ []) ∙ ap (λ (m : ℕ). m + 1) l.size);
        after = λ k h.
            ap (λ (a : List Entry). get_or a k blank) p.entries
            ∙ (get_or-set_other (table_of t) n k e blank (λ i. omega arith) ∙ l.after k (omega arith));
      },
    )
