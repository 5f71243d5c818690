-- References looked up one by one, and their pairs put into the columns of a table.
use Rattle.std.proofs.Common.{None, Some}
use mathlib.Core.Bool.{Bool, true, false, ◌&&◌}
use mathlib.Core.List.{List, [], ◌∷◌, ◌++◌, map, map-append}
use mathlib.Core.Path.{◌≡◌, refl, sym, ap, ◌∙◌}
use Prim.Native.Nat.{ℕ, zero, suc, ◌+◌, ◌-◌, ◌≤◌, ◌<◌}
use native.Mathlib.Omega.{arith}
use borrow.Author.Tests.{eq-eqb, ne_eqb, le-leb, lt-leb, lt-ltb, le-ltb}
use lib.Dec.{leb, eqb}
use lib.ListN.{length, get_or, set, replicate, length-append, length-map}
use lib.Seq.{set_at, append_snoc}
use Rattle.shingle.specs.declared.Shingle.{Shingle}
use Rattle.shingle.specs.Table.{shingle_in_table, shingles_in}
use Rattle.shingle.proofs.Reading.{listed_at}
use Rattle.trail.proofs.Tally.{both_true}
use Rattle.message.specs.Words.{link_words, Ref, reference_word}
use Rattle.message.specs.Parts.{ReferenceRead}
use Rattle.protocol.specs.Receiver.{named, is_named, all_named, previouses, owns, counts}
use Rattle.composition.specs.Composition.{refs_from, refs_in}
use Rattle.composition.specs.Table.{ref, Named, padded, Columns, Filled}

-- A list of references in two parts.
refs_split : (ws : List ℕ) (m k n at : ℕ) → m ≡ k + n → refs_from ws m at ≡ refs_from ws k at ++ refs_from ws n (at + k)
unfolding refs_from
refs_split ws m zero n at e =
    let same : m ≡ n = omega arith in
    let here : at ≡ at + 0 = omega arith in
    λ i. refs_from ws (same i) (here i)
refs_split ws zero (suc k) n at e = absurd (omega arith)
refs_split ws (suc m) (suc k) n at e =
    ap (λ (l : List Ref). reference_word.of (get_or ws at 0) ∷ l)
    (refs_split ws m k n (at + 1) (omega arith)
    ∙ ap (λ (j : ℕ). refs_from ws k (at + 1) ++ refs_from ws n j) {x = at + 1 + k} {y = at + suc k} (omega arith))

length_from : (ws : List ℕ) (n at : ℕ) → length (refs_from ws n at) ≡ n
unfolding refs_from
length_from ws zero at = refl
length_from ws (suc n) at = ap suc (length_from ws n (at + 1))

pub length_refs : (message : List ℕ) (at count : ℕ) → length (refs_in message at count) ≡ count
unfolding refs_in
length_refs message at count = length_from (link_words message) count at

-- The references up to reference k, it, and those after it.
refs_around : (message : List ℕ) (at count k n : ℕ) (r : Ref) → count ≡ k + suc n → ReferenceRead message at k r
    → refs_in message at count ≡ refs_in message at k ++ r ∷ refs_from (link_words message) n (at + k + 1)
unfolding refs_in refs_from
refs_around message at count k n r e read =
    refs_split (link_words message) count k (suc n) at e
    ∙ ap (λ (x : Ref). refs_from (link_words message) k at ++ x ∷ refs_from (link_words message) n (at + k + 1)) (sym read.stands)

module _ (list : List Shingle) (level : ℕ) where
  named_so_far : (refs : List Ref) (r : Ref) → all_named list level refs ≡ true → is_named list level r ≡ true
      → all_named list level (refs ++ r ∷ []) ≡ true
  unfolding all_named
  named_so_far [] r e f = rw f
  named_so_far (x ∷ refs) r e f =
      let both = both_true (is_named list level x) (all_named list level refs) e in
      rw both.0 (named_so_far refs r both.1 f)

  unnamed_among : (refs : List Ref) (r : Ref) (more : List Ref) → is_named list level r ≡ false → all_named list level (refs ++ r ∷ more) ≡ false
  unfolding all_named
  unnamed_among [] r more f = rw f
  unnamed_among (x ∷ refs) r more f = go (is_named list level x) (unnamed_among refs r more f)
    where
      go : (a : Bool) → all_named list level (refs ++ r ∷ more) ≡ false → (a && all_named list level (refs ++ r ∷ more)) ≡ false
      go true h = h
      go false h = refl

-- Each way out of looking a reference up.
module _ (shingles : List ℕ) (size level index count : ℕ) (long : size ≡ length (shingles_in shingles)) where
  abbrev list : List Shingle
  list = shingles_in shingles

  pub index_beyond : size ≤ index → is_named list level (ref index count) ≡ false
  unfolding is_named
  index_beyond h = rw (le-ltb index (length list) (omega arith))

  module _ (h : index < size) (s : Shingle) (is : s ≡ shingle_in_table shingles index) where
    here : named list (ref index count) ≡ s
    here = listed_at shingles index (omega arith) ∙ sym is

    test : is_named list level (ref index count) ≡ (eqb s.level level && leb count s.count)
    unfolding is_named
    test = rw (here, lt-ltb index (length list) (omega arith))

    pub level_other : (s.level ≡ level → ⊥) → is_named list level (ref index count) ≡ false
    level_other f = test ∙ rw (ne_eqb s.level level f)

    module _ (f : s.level ≡ level) where
      pub count_above : s.count < count → is_named list level (ref index count) ≡ false
      count_above g = test ∙ rw (eq-eqb s.level level f, lt-leb count s.count g)

      pub found : count ≤ s.count → Named list level (ref index count) (Some s)
      found g = (test ∙ rw (eq-eqb s.level level f, le-leb count s.count g), sym here)

-- One number more in a column.
column_more : (f : Ref → ℕ) (column : List ℕ) (refs : List Ref) (r : Ref) (x k : ℕ) → length refs ≡ k → k < 32
    → column ≡ padded (map f refs) → x ≡ f r → set column k x ≡ padded (map f (refs ++ r ∷ []))
unfolding padded
column_more f column refs r x k e h is same =
    let size : length (map f refs) ≡ k = length-map refs f ∙ e in
    let left : 32 - length (map f refs) ≡ suc (32 - (k + 1)) = omega arith in
    let long : length (map f refs ++ f r ∷ []) ≡ k + 1 = length-append (map f refs) (f r ∷ []) ∙ ap (λ (n : ℕ). n + 1) size in
    ap (λ (l : List ℕ). set l k x) (is ∙ ap (λ (n : ℕ). map f refs ++ replicate n 0) left)
    ∙ (set_at (map f refs) 0 (replicate (32 - (k + 1)) 0) x k size
    ∙ (ap (λ (y : ℕ). map f refs ++ y ∷ replicate (32 - (k + 1)) 0) same
    ∙ (sym (append_snoc (map f refs) (f r) (replicate (32 - (k + 1)) 0))
    ∙ sym (rw (map-append f refs (r ∷ []), long)))))

-- The first k references are as they should be, and their pairs are in the columns.
pub record Filling (list : List Shingle) (level : ℕ) (message : List ℕ) (at count k : ℕ) (previous own times : List ℕ) : Type 0 where
  pub fits : k ≤ count
  pub named_all : all_named list level (refs_in message at k) ≡ true
  pub columns : Columns list (refs_in message at k) previous own times

pub fill_start : (list : List Shingle) (level : ℕ) (message : List ℕ) (at count : ℕ)
    → Filling list level message at count 0 (replicate 32 0) (replicate 32 0) (replicate 32 0)
unfolding refs_in refs_from all_named padded
fill_start list level message at count =
    record { fits = omega arith; named_all = refl; columns = record { previous_is = refl; own_is = refl; count_is = refl } }

module _ (list : List Shingle) (level : ℕ) (message : List ℕ) (at count k : ℕ) (previous own times : List ℕ)
    (c : Filling list level message at count k previous own times) where
  module _ (h : k < count) (r : Ref) (read : ReferenceRead message at k r) where
    pub fill_stop : Named list level r None → all_named list level (refs_in message at count) ≡ false
    fill_stop unnamed =
        let n = count - (k + 1) in
        let parts : refs_in message at count ≡ refs_in message at k ++ r ∷ refs_from (link_words message) n (at + k + 1) =
        refs_around message at count k n r (omega arith) read in
        ap (all_named list level) parts
        ∙ unnamed_among list level (refs_in message at k) r (refs_from (link_words message) n (at + k + 1)) unnamed

    pub fill_next : (s : Shingle) → Named list level r (Some s) → count ≤ 32
        → Filling list level message at count (k + 1) (set previous k s.previous) (set own k s.own) (set times k r.count)
    fill_next s look few =
        let long : length (refs_in message at k) ≡ k = length_refs message at k in
        let more : refs_in message at (k + 1) ≡ refs_in message at k ++ r ∷ [] =
        unfold refs_from in refs_around message at (k + 1) k 0 r (omega arith) read in
        record {
          fits = omega arith;
          named_all = ap (all_named list level) more ∙ named_so_far list level (refs_in message at k) r c.named_all look.0;
          columns =
              record {
                previous_is =
                    column_more (λ (x : Ref). (named list x).previous) previous (refs_in message at k) r s.previous k long (omega arith)
                    c.columns.previous_is (ap (λ (x : Shingle). x.previous) look.1)
                    ∙ ap (λ (l : List Ref). padded (previouses list l)) (sym more);
                own_is =
                    column_more (λ (x : Ref). (named list x).own) own (refs_in message at k) r s.own k long (omega arith) c.columns.own_is
                    (ap (λ (x : Shingle). x.own) look.1)
                    ∙ ap (λ (l : List Ref). padded (owns list l)) (sym more);
                count_is =
                    column_more (λ (x : Ref). x.count) times (refs_in message at k) r r.count k long (omega arith) c.columns.count_is refl
                    ∙ ap (λ (l : List Ref). padded (counts l)) (sym more);
              };
        }

  pub fill_end : count ≤ k
      → Filled list level (refs_in message at count) (Some (record { previous = previous; own = own; count = times }))
  fill_end h =
      let fits = c.fits in
      let done : refs_in message at k ≡ refs_in message at count = ap (refs_in message at) {x = k} {y = count} (omega arith) in
      (ap (all_named list level) (sym done) ∙ c.named_all, rw (← done) c.columns)
