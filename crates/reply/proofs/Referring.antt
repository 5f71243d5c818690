-- Counting a pair among those of some children, and referring to each shingle whose pair stands there: the start, one turn, the end.
use mathlib.Core.Bool.{Bool, true, false, cond, ◌&&◌, and_assoc, and-false}
use mathlib.Core.List.{List, [], ◌∷◌, ◌++◌, append-nil}
use mathlib.Core.Path.{◌≡◌, refl, sym, ap, ◌∙◌}
use Prim.Native.Nat.{ℕ, zero, suc, ◌+◌, ◌≤◌, ◌<◌}
use native.Mathlib.Numerals.{add-one}
use native.Mathlib.Omega.{arith}
use borrow.Author.Tests.{lt-ltb, le-ltb}
use lib.Dec.{ltb}
use lib.ListN.{length, get_or, take, drop, set, replicate, length-set, length-append, length-replicate, drop_of_length-le}
use lib.Seq.{drop-cons, take-suc-set, append_snoc, length-take-le}
use Rattle.entries.specs.Entries.{blank}
use Rattle.shingle.specs.declared.Shingle.{Shingle}
use Rattle.shingle.specs.Shingles.{Pair, pair, pair_of}
use Rattle.shingle.specs.Rising.{same_pair, how_many}
use Rattle.shingle.specs.Children.{pairs_along}
use Rattle.shingle.specs.Table.{shingle_of, shingle_in_table, shingles_in}
use Rattle.shingle.proofs.Reading.{listed_at}
use Rattle.message.specs.Words.{Ref}
use Rattle.message_writer.specs.Writing.{paired}
use Rattle.protocol.specs.Sender.{refer, refs_from, refs_of, indexed}
use Rattle.reply.specs.Parts.{Referrals}

-- The pairs counted and those still to come are all.
pub record Counting (k : Pair) (l : ℕ) (ids : List ℕ) (sum previous i : ℕ) : Type 0 where
  pub bound : sum ≤ i
  pub within : i ≤ length ids
  pub rest : sum + how_many k (pairs_along l previous (drop i ids)) ≡ how_many k (pairs_along l 0 ids)

pub count_start : (k : Pair) (l : ℕ) (ids : List ℕ) → Counting k l ids 0 0 0
count_start k l ids = record { bound = omega arith; within = omega arith; rest = omega arith }

counted : (t : Bool) (m : ℕ) → cond t (suc m) m ≡ cond t 1 0 + m
counted true m = omega arith
counted false m = omega arith

at_most_one : (t : Bool) (once : ℕ) → once ≡ cond t 1 0 → once ≤ 1
at_most_one true once e = omega arith
at_most_one false once e = omega arith

first : (k : Pair) (l : ℕ) (ids : List ℕ) (previous i own : ℕ) → i < length ids → own ≡ get_or ids i 0
    → how_many k (pairs_along l previous (drop i ids))
    ≡ cond (same_pair k (pair l previous own)) (suc (how_many k (pairs_along l own (drop (i + 1) ids)))) (how_many k (pairs_along l own (drop (i + 1) ids)))
unfolding how_many pairs_along
first k l ids previous i own h e = rw (drop-cons ids i 0 h, ← e, add-one i)

pub once_few : (k p : Pair) (once : ℕ) → once ≡ cond (same_pair k p) 1 0 → once ≤ 1
once_few k p once e = at_most_one (same_pair k p) once e

pub count_next : (k : Pair) (l : ℕ) (ids : List ℕ) (sum previous i own once : ℕ) → i < length ids → own ≡ get_or ids i 0
    → once ≡ cond (same_pair k (pair l previous own)) 1 0 → Counting k l ids sum previous i → Counting k l ids (sum + once) own (i + 1)
count_next k l ids sum previous i own once h e o c =
    let few = once_few k (pair l previous own) once o in
    let bound = c.bound in
    let rest = c.rest in
    let one = first k l ids previous i own h e in
    let many = counted (same_pair k (pair l previous own)) (how_many k (pairs_along l own (drop (i + 1) ids))) in
    record { bound = omega arith; within = omega arith; rest = omega (arith, one, many, rest, o) }

pub count_end : (k : Pair) (l : ℕ) (ids : List ℕ) (sum previous i : ℕ) → length ids ≤ i
    → Counting k l ids sum previous i → sum ≡ how_many k (pairs_along l 0 ids)
unfolding how_many pairs_along
count_end k l ids sum previous i h c = let rest = rw (drop_of_length-le ids {i = i} h) at c.rest in omega (arith, rest)

-- The references collected and those still to come are all.
pub record Referring (list : List Shingle) (l : ℕ) (ids : List ℕ) (k count : ℕ) (indexes counts : List ℕ) : Type 0 where
  pub indexes_room : length indexes ≡ 32
  pub counts_room : length counts ≡ 32
  pub fits : count ≤ 32
  pub within : k ≤ length list
  pub low : indexed (paired (take count indexes) (take count counts)) ≡ true
  pub rest : paired (take count indexes) (take count counts) ++ refs_from k (drop k list) l ids ≡ refs_of list l ids

pub refer_start : (list : List Shingle) (l : ℕ) (ids : List ℕ) → Referring list l ids 0 0 (replicate 32 0) (replicate 32 0)
unfolding refs_of paired indexed
refer_start list l ids =
    let room = length-replicate {A = ℕ} 32 0 in
    record { indexes_room = room; counts_room = room; fits = omega arith; within = omega arith; low = refl; rest = refl }

paired_snoc : (xs ys : List ℕ) (x y : ℕ) → length xs ≡ length ys
    → paired (xs ++ x ∷ []) (ys ++ y ∷ []) ≡ paired xs ys ++ record { index = x; count = y } ∷ []
unfolding paired
paired_snoc [] [] x y e = refl
paired_snoc [] (b ∷ ys) x y e = absurd (omega arith)
paired_snoc (a ∷ xs) [] x y e = absurd (omega arith)
paired_snoc (a ∷ xs) (b ∷ ys) x y e = ap (λ (r : List Ref). record { index = a; count = b } ∷ r) (paired_snoc xs ys x y (omega arith))

length-paired : (xs ys : List ℕ) → length xs ≡ length ys → length (paired xs ys) ≡ length xs
unfolding paired
length-paired [] ys e = refl
length-paired (a ∷ xs) [] e = absurd (omega arith)
length-paired (a ∷ xs) (b ∷ ys) e = ap suc (length-paired xs ys (omega arith))

indexed-append : (xs ys : List Ref) → indexed (xs ++ ys) ≡ (indexed xs && indexed ys)
unfolding indexed
indexed-append [] ys = refl
indexed-append (x ∷ xs) ys = ap (λ (t : Bool). ltb x.index 4096 && t) (indexed-append xs ys) ∙ sym (and_assoc (ltb x.index 4096) (indexed xs) (indexed ys))

referred : (i often : ℕ) (refs : List Ref) → (often ≡ 0 → ⊥) → refer i often refs ≡ record { index = i; count = often } ∷ refs
unfolding refer
referred i zero refs h = absurd (h refl)
referred i (suc more) refs h = refl

unreferred : (i often : ℕ) (refs : List Ref) → often ≡ 0 → refer i often refs ≡ refs
unfolding refer
unreferred i often refs h = rw h

one_shingle : (list : List Shingle) (l : ℕ) (ids : List ℕ) (k often : ℕ) (s : Shingle) → k < length list → s ≡ get_or list k (shingle_of blank)
    → often ≡ how_many (pair_of s) (pairs_along l 0 ids) → refs_from k (drop k list) l ids ≡ refer k often (refs_from (k + 1) (drop (k + 1) list) l ids)
unfolding refs_from
one_shingle list l ids k often s h e o = rw (drop-cons list k (shingle_of blank) h, ← e, ← o, add-one k)

pub refer_end : (list : List Shingle) (l : ℕ) (ids : List ℕ) (k count : ℕ) (indexes counts : List ℕ) → length list ≤ k
    → Referring list l ids k count indexes counts → Referrals (refs_of list l ids) (record { count = count; indexes = indexes; counts = counts })
unfolding refs_from
refer_end list l ids k count indexes counts h c =
    let all : paired (take count indexes) (take count counts) ≡ refs_of list l ids =
    sym (append-nil (paired (take count indexes) (take count counts))) ∙ (rw (drop_of_length-le list {i = k} h) at c.rest) in
    record { indexes_room = c.indexes_room; counts_room = c.counts_room; few = c.fits; refs_are = all; low = ap indexed (sym all) ∙ c.low }

module _ (table : List ℕ) (l : ℕ) (ids : List ℕ) (k count : ℕ) (indexes counts : List ℕ) (h : k < length (shingles_in table))
    (c : Referring (shingles_in table) l ids k count indexes counts) (s : Shingle) (is : s ≡ shingle_in_table table k) (often : ℕ)
    (o : often ≡ how_many (pair_of s) (pairs_along l 0 ids)) where
  here : refs_from k (drop k (shingles_in table)) l ids ≡ refer k often (refs_from (k + 1) (drop (k + 1) (shingles_in table)) l ids)
  here = one_shingle (shingles_in table) l ids k often s h (is ∙ sym (listed_at table k h)) o

  pub refer_pass : often ≡ 0 → Referring (shingles_in table) l ids (k + 1) count indexes counts
  refer_pass z =
      record {
        indexes_room = c.indexes_room;
        counts_room = c.counts_room;
        fits = c.fits;
        within = omega arith;
        low = c.low;
        rest = ap (λ (r : List Ref). paired (take count indexes) (take count counts) ++ r) (sym (here ∙ unreferred k often _ z)) ∙ c.rest;
      }

  narrow_one : (often : ℕ) → k ≤ 4095 → indexed (record { index = k; count = often } ∷ []) ≡ true
  unfolding indexed
  narrow_one often narrow = rw (lt-ltb k 4096 (omega (arith, narrow))) refl

  module _ (some : often ≡ 0 → ⊥) where
    one : refs_from k (drop k (shingles_in table)) l ids ≡ record { index = k; count = often } ∷ refs_from (k + 1) (drop (k + 1) (shingles_in table)) l ids
    one = here ∙ referred k often _ some

    pub refer_more : (count ≡ 32 → ⊥) → k ≤ 4095 → Referring (shingles_in table) l ids (k + 1) (count + 1) (set indexes count k) (set counts count often)
    refer_more f narrow =
        let fits = c.fits in
        let roomy = c.indexes_room in
        let roomier = c.counts_room in
        let rest = refs_from (k + 1) (drop (k + 1) (shingles_in table)) l ids in
        let xs = take count indexes in
        let ys = take count counts in
        let same : length xs ≡ length ys = length-take-le count indexes (omega arith) ∙ sym (length-take-le count counts (omega arith)) in
        let more : paired (take (count + 1) (set indexes count k)) (take (count + 1) (set counts count often)) ≡ paired xs ys ++ record { index = k; count = often } ∷ [] =
        ap (λ (m : ℕ). paired (take m (set indexes count k)) (take m (set counts count often))) (add-one count)
        ∙ (ap (λ (zs : List ℕ). paired zs (take (suc count) (set counts count often))) (take-suc-set indexes count k (omega arith))
        ∙ (ap (paired (xs ++ k ∷ [])) (take-suc-set counts count often (omega arith)) ∙ paired_snoc xs ys k often same)) in
        record {
          indexes_room = length-set indexes count k ∙ roomy;
          counts_room = length-set counts count often ∙ roomier;
          fits = omega arith;
          within = omega arith;
          low = ap indexed more ∙ (indexed-append (paired xs ys) (record { index = k; count = often } ∷ []) ∙ rw c.low (narrow_one often narrow));
          rest =
              ap (λ (zs : List Ref). zs ++ rest) more
              ∙ (append_snoc (paired xs ys) (record { index = k; count = often }) rest
              ∙ (ap (λ (zs : List Ref). paired xs ys ++ zs) (sym one) ∙ c.rest));
        }

    all_is : refs_of (shingles_in table) l ids
        ≡ paired (take count indexes) (take count counts) ++ record { index = k; count = often } ∷ refs_from (k + 1) (drop (k + 1) (shingles_in table)) l ids
    all_is = sym c.rest ∙ ap (λ (zs : List Ref). paired (take count indexes) (take count counts) ++ zs) one

    abbrev Refused : Type 0
    Refused = (ltb (length (refs_of (shingles_in table) l ids)) 33 && indexed (refs_of (shingles_in table) l ids)) ≡ false

    pub refer_full : count ≡ 32 → Refused
    refer_full f =
        let roomy = c.indexes_room in
        let roomier = c.counts_room in
        let rest = refs_from (k + 1) (drop (k + 1) (shingles_in table)) l ids in
        let xs = take count indexes in
        let ys = take count counts in
        let size : length xs ≡ count = length-take-le count indexes (omega arith) in
        let same : length xs ≡ length ys = size ∙ sym (length-take-le count counts (omega arith)) in
        let long : length (refs_of (shingles_in table) l ids) ≡ count + suc (length rest) =
        ap length all_is
        ∙ (length-append (paired xs ys) (record { index = k; count = often } ∷ rest)
        ∙ ap (λ (m : ℕ). m + suc (length rest)) (length-paired xs ys same ∙ size)) in
        rw (le-ltb (length (refs_of (shingles_in table) l ids)) 33 (omega (arith, long, f))) refl

    -- An index that its field does not hold.
    pub refer_far : 4095 < k → Refused
    unfolding indexed
    refer_far far =
        let front = paired (take count indexes) (take count counts) in
        let rest = refs_from (k + 1) (drop (k + 1) (shingles_in table)) l ids in
        let wide : indexed (refs_of (shingles_in table) l ids) ≡ false =
        ap indexed all_is ∙ (indexed-append front (record { index = k; count = often } ∷ rest) ∙ rw (c.low, le-ltb k 4096 (omega (arith, far))) refl) in
        rw wide (and-false (ltb (length (refs_of (shingles_in table) l ids)) 33))
