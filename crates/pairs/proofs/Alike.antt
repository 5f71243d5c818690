-- Entries and the shingles they hold have one order.
use mathlib.Core.List.{List, map}
use mathlib.Core.Path.{◌≡◌, sym, ◌∙◌}
use Prim.Native.Nat.{ℕ, ◌/◌, ◌%◌}
use native.Mathlib.Omega.{arith}
use native.Mathlib.Decide.{dec_lt}
use borrow.Author.Tests.{lt-ltb, le-ltb}
use lib.Dec.{ltb}
use Rattle.entries.specs.declared.Entry.{Entry}
use Rattle.entries.specs.Order.{precedes}
use Rattle.entries.proofs.Order.{Keys, ahead, alike, behind, keys, earlier_alike}
use Rattle.sort.specs.Sort.{sort_of}
use Rattle.sort.proofs.Ordered.{sort_map}
use Rattle.shingle.specs.Table.{shingle_of}
use Rattle.sketch.specs.Opening.{before}

-- Of entries of one level, the tails are ordered as the counts.
counts_tails : (x y : ℕ) → x / 65536 ≡ y / 65536 → ltb (x % 65536) (y % 65536) ≡ ltb x y
counts_tails x y e =
    elim (dec_lt x y) [
      | yes h ↦ lt-ltb (x % 65536) (y % 65536) (omega arith) ∙ sym (lt-ltb x y h)
      | no h ↦ le-ltb (x % 65536) (y % 65536) (omega arith) ∙ sym (le-ltb x y (omega arith))
    ]

before_keys : (a b : Entry) → Keys (a.tail / 65536) a.previous a.own (b.tail / 65536) b.previous b.own
    → before (shingle_of a) (shingle_of b) ≡ precedes a b
unfolding before precedes
before_keys a b (ahead e f) = e _ ∙ sym (e _)
before_keys a b (alike e f g) =
    earlier_alike _ _ _ _ _ _ _ e f g ∙ (counts_tails a.tail b.tail e ∙ sym (earlier_alike _ _ _ _ _ _ _ e f g))
before_keys a b (behind e f) = f _ ∙ sym (f _)

before-precedes : (a b : Entry) → before (shingle_of a) (shingle_of b) ≡ precedes a b
before-precedes a b = before_keys a b (keys _ _ _ _ _ _)

-- The shingles of entries, sorted, are the shingles of the entries sorted.
pub sort_shingles : (es : List Entry) → sort_of before (map shingle_of es) ≡ map shingle_of (sort_of precedes es)
sort_shingles es = sort_map precedes before shingle_of before-precedes es
