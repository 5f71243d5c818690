-- In a list that is in order, a pair that comes twice stands side by side; and putting a list in order loses none.
use mathlib.Core.Bool.{true, false, not}
use mathlib.Core.List.{List, [], ◌∷◌, map}
use mathlib.Core.Path.{◌≡◌, refl, sym, ap, ap₂, ◌∙◌}
use Prim.Native.Nat.{ℕ, zero, suc, ◌+◌, ◌-◌, ◌/◌, ◌≤◌, ◌<◌}
use native.Mathlib.Decide.{dec_lt}
use native.Mathlib.Numerals.{towards_suc}
use native.Mathlib.Omega.{arith}
use lib.ListN.{length, get_or, length-map}
use Rattle.entries.specs.declared.Entry.{Entry}
use Rattle.entries.specs.Entries.{blank}
use Rattle.entries.specs.Order.{precedes}
use Rattle.entries.proofs.Linear.{both}
use Rattle.entries.proofs.Order.{Keys, ahead, alike, behind, keys, entries_linear}
use Rattle.sort.specs.Shell.{InOrder}
use Rattle.sort.specs.Sort.{sort_of}
use Rattle.sort.proofs.Ordered.{ordered_sort, neighbours_ordered}
use Rattle.shingle.specs.declared.Shingle.{Shingle}
use Rattle.shingle.specs.Shingles.{Pair, pair, pair_of, lower}
use Rattle.shingle.specs.Table.{shingle_of}
use Rattle.shingle.specs.Rising.{Over, Rising, none, more, same_pair}
use Rattle.shingle.proofs.PairOrder.{pairs_linear, same_equal}
use Rattle.sketch.specs.Opening.{pair_in, no_pair_twice}
use Rattle.sketch.proofs.NewList.{and_not}
use Rattle.pairs.specs.Places.{entries_at, shingles_at, Passed}
use Rattle.pairs.proofs.Twice.{rising_none, twice_sort}
use Rattle.pairs.proofs.Alike.{sort_shingles}
use Rattle.pairs.proofs.At.{length_at, at_get}

-- The pair of place p of a list.
abbrev pair_at : List Shingle → ℕ → Pair
pair_at ss p = pair_of (get_or ss p (shingle_of blank))

-- A list of which each pair is lower than the next rises.
over_lower : {k j : Pair} {ss : List Shingle} → lower k j ≡ true → Over j ss → Over k ss
over_lower e none = none
over_lower {k} {j} e (more {s = s} f o) = more (pairs_linear.transitive k j (pair_of s) e f) (over_lower e o)

first_over : {k : Pair} {ss : List Shingle} → (0 < length ss → lower k (pair_at ss 0) ≡ true) → Rising ss → Over k ss
first_over h none = none
first_over h (more o r) = let e = h (omega arith) in more e (over_lower e o)

neighbours_rise : (ss : List Shingle) → ((p : ℕ) → p + 1 < length ss → lower (pair_at ss p) (pair_at ss (p + 1)) ≡ true) → Rising ss
neighbours_rise [] h = none
neighbours_rise (s ∷ ss) h =
    let rest = neighbours_rise ss (λ p k. simp towards_suc (simp towards_suc at (h (suc p) (omega arith)))) in
    more (first_over (λ k. h 0 (omega arith)) rest) rest

-- A list with one pair side by side has it twice.
twice_at : (ss : List Shingle) (p : ℕ) → suc p < length ss → same_pair (pair_at ss p) (pair_at ss (suc p)) ≡ true → no_pair_twice ss ≡ false
unfolding no_pair_twice pair_in
twice_at [] p h e = absurd (omega arith)
twice_at (s ∷ []) p h e = absurd (omega arith)
twice_at (s ∷ x ∷ ss) zero h e = rw e
twice_at (s ∷ x ∷ ss) (suc p) h e = rw (twice_at (x ∷ ss) p (omega arith) e) (and_not (not (pair_in s (x ∷ ss))))

-- Of two in order that do not have one pair, the first has the lower one.
apart_keys : (a b : Entry) → Keys (a.tail / 65536) a.previous a.own (b.tail / 65536) b.previous b.own
    → precedes b a ≡ false → same_pair (pair_of (shingle_of a)) (pair_of (shingle_of b)) ≡ false
    → lower (pair_of (shingle_of a)) (pair_of (shingle_of b)) ≡ true
unfolding precedes lower
apart_keys a b (ahead e f) o n = e _
apart_keys a b (alike e f g) o n = absurd (both (same_equal (pair_of (shingle_of a)) (pair_of (shingle_of b)) (λ i. pair (e i) (f i) (g i))) n)
apart_keys a b (behind e f) o n = absurd (both (e _) o)

shingle_get : (es : List Entry) (p : ℕ) → get_or (map shingle_of es) p (shingle_of blank) ≡ shingle_of (get_or es p blank)
shingle_get [] p = refl
shingle_get (e ∷ es) zero = refl
shingle_get (e ∷ es) (suc p) = shingle_get es p

shingle_at : (es : List Entry) (ps : List ℕ) (p : ℕ) → p < length ps
    → get_or (shingles_at es ps) p (shingle_of blank) ≡ shingle_of (get_or es (get_or ps p 0) blank)
shingle_at es ps p h = shingle_get (entries_at es ps) p ∙ ap shingle_of (at_get es ps p h)

length_shingles : (es : List Entry) (ps : List ℕ) → length (shingles_at es ps) ≡ length ps
length_shingles es ps = length-map (entries_at es ps) shingle_of ∙ length_at es ps

-- Of the first k of n, each has a lower pair than the next.
pub record Differing (es : List Entry) (ps : List ℕ) (n k : ℕ) : Type 0 where
  pub size : n ≡ length ps
  pub low : 1 ≤ k
  pub each : (p : ℕ) → p + 1 < k → lower (pair_at (shingles_at es ps) p) (pair_at (shingles_at es ps) (p + 1)) ≡ true

pub differing_start : (es : List Entry) (ps : List ℕ) (n : ℕ) → n ≡ length ps → Differing es ps n 1
differing_start es ps n e = record { size = e; low = omega arith; each = λ p h. absurd (omega arith) }

pub differing_end : (es : List Entry) (ps : List ℕ) (n k : ℕ) → Differing es ps n k → n ≤ k → true ≡ no_pair_twice (shingles_at es ps)
differing_end es ps n k c h =
    let size = c.size in
    sym (rising_none (neighbours_rise (shingles_at es ps) (λ p i. c.each p (omega (arith, length_shingles es ps)))))

module _ (es : List Entry) (ps : List ℕ) (n k : ℕ) (c : Differing es ps n k) (h : k < n) (a b : Entry)
    (one : a ≡ get_or es (get_or ps (k - 1) 0) blank) (two : b ≡ get_or es (get_or ps k 0) blank) where
  first_is : pair_at (shingles_at es ps) (k - 1) ≡ pair_of (shingle_of a)
  first_is = let size = c.size in ap pair_of (shingle_at es ps (k - 1) (omega arith) ∙ ap shingle_of (sym one))

  second_is : pair_at (shingles_at es ps) k ≡ pair_of (shingle_of b)
  second_is = let size = c.size in ap pair_of (shingle_at es ps k (omega arith) ∙ ap shingle_of (sym two))

  pub differing_stop : same_pair (pair_of (shingle_of a)) (pair_of (shingle_of b)) ≡ true → false ≡ no_pair_twice (shingles_at es ps)
  differing_stop e =
      let size = c.size in
      let low = c.low in
      let next : suc (k - 1) ≡ k = omega arith in
      let same : same_pair (pair_at (shingles_at es ps) (k - 1)) (pair_at (shingles_at es ps) (suc (k - 1))) ≡ true =
      ap₂ same_pair first_is (ap (pair_at (shingles_at es ps)) next ∙ second_is) ∙ e in
      sym (twice_at (shingles_at es ps) (k - 1) (omega (arith, length_shingles es ps)) same)

  pub differing_next : InOrder 1 (length ps) (entries_at es ps) → same_pair (pair_of (shingle_of a)) (pair_of (shingle_of b)) ≡ false
      → Differing es ps n (k + 1)
  differing_next o e =
      let size = c.size in
      let low = c.low in
      let first : get_or (entries_at es ps) (k - 1) blank ≡ a = at_get es ps (k - 1) (omega arith) ∙ sym one in
      let second : get_or (entries_at es ps) (k - 1 + 1) blank ≡ b =
      ap (λ (p : ℕ). get_or (entries_at es ps) p blank) {x = k - 1 + 1} {y = k} (omega arith) ∙ (at_get es ps k (omega arith) ∙ sym two) in
      let order : precedes b a ≡ false = ap₂ precedes (sym second) (sym first) ∙ o.apart (k - 1) (omega arith) in
      record {
        size = c.size;
        low = omega arith;
        each = λ p i.
            elim (dec_lt (p + 1) k) [
              | yes j ↦ c.each p j
              | no j ↦
                  ap₂ lower (ap (pair_at (shingles_at es ps)) {x = p} {y = k - 1} (omega arith) ∙ first_is)
                  (ap (pair_at (shingles_at es ps)) {x = p + 1} {y = k} (omega arith) ∙ second_is)
                  ∙ apart_keys a b (keys _ _ _ _ _ _) order e
            ];
      }

-- Places that were put in order have a pair twice exactly where they had one before.
pub twice_arranged : (es : List Entry) (before after : List ℕ) → Passed es 1 (length before) before after
    → no_pair_twice (shingles_at es after) ≡ no_pair_twice (shingles_at es before)
twice_arranged es p p' c =
    let long = c.arranged.long in
    let entries : entries_at es p' ≡ sort_of precedes (entries_at es p) =
    ordered_sort precedes entries_linear (entries_at es p) (entries_at es p')
    (neighbours_ordered precedes entries_linear blank (entries_at es p') (λ q h. c.ordered.apart q (omega (arith, length_at es p'))))
    c.arranged.entries in
    ap (λ (l : List Entry). no_pair_twice (map shingle_of l)) entries
    ∙ (ap no_pair_twice (sym (sort_shingles (entries_at es p))) ∙ twice_sort (shingles_at es p))
