-- The table of starred cases, checked by computing both sides of each, and from that the equation of each.
use mathlib.Core.Bool.{Bool, true, false, ◌&&◌, false≢true, and-eq-true_iff}
use mathlib.Core.List.{List, [], ◌∷◌, flatten}
use mathlib.Core.Path.{◌≡◌, refl}
use Prim.Native.Nat.{ℕ, zero, suc}
use borrow.Author.Tests.{eqb-true}
use lib.Dec.{eqb}
use Rattle.fnv.specs.Fnv.{hash_onward, next_hash}
use Rattle.spread.specs.Spreading.{spread_of}
use Rattle.partition.specs.Cuts.{number_from, window_at, value_at, lowest, candidate, cons_if, passing, spaced, cuts_of}
use Rattle.partition.specs.Blocks.{blocks_from, blocks_of}
use Rattle.tree.specs.Tree.{children_of, in_turn, tree_of, nodes_of}
use Rattle.trail.specs.Trails.{single, without, tally, pairs_of, total, insert, rising, over, branches, trails_from, trails_over}
use Rattle.message.specs.Words.{with_kind, head_word, reference_word, word_of_bytes, end_word}
use Rattle.message.specs.Fields.{one, text_to}
use Rattle.message.specs.Messages.{headed, words_then, size_of, encode_words}
use Rattle.cases.specs.Cases.{Case, values_from, extents, counted, cases, case_at}

unfoldable pub same : List ℕ → List ℕ → Bool
same [] [] = true
same [] (y ∷ ys) = false
same (x ∷ xs) [] = false
same (x ∷ xs) (y ∷ ys) = eqb x y && same xs ys

unfoldable pub all : List Case → Bool
all [] = true
all (c ∷ cs) = same c.got c.want && all cs

pub checked : all cases ≡ true
unfolding all same cases values_from extents counted flatten number_from spread_of hash_onward next_hash window_at value_at lowest candidate cons_if passing spaced cuts_of blocks_from blocks_of children_of in_turn tree_of nodes_of single without tally pairs_of total insert rising over branches trails_from trails_over with_kind head_word reference_word word_of_bytes end_word one text_to headed words_then size_of encode_words
checked = refl

same_equal : (xs ys : List ℕ) → same xs ys ≡ true → xs ≡ ys
unfolding same
same_equal [] [] e = refl
same_equal [] (y ∷ ys) e = absurd (false≢true e)
same_equal (x ∷ xs) [] e = absurd (false≢true e)
same_equal (x ∷ xs) (y ∷ ys) e =
    let tests = (and-eq-true_iff (eqb x y) (same xs ys)).0 e in
    let first = eqb-true x y tests.0 in
    let rest = same_equal xs ys tests.1 in
    cc

all_equal : (table : List Case) → all table ≡ true → (k : ℕ) → (case_at table k).got ≡ (case_at table k).want
unfolding all
all_equal [] e k = refl
all_equal (c ∷ table) e zero = same_equal c.got c.want ((and-eq-true_iff (same c.got c.want) (all table)).0 e).0
all_equal (c ∷ table) e (suc k) = all_equal table ((and-eq-true_iff (same c.got c.want) (all table)).0 e).1 k

-- Each case of the table: what the definition gives is what the document says.
pub each : (k : ℕ) → (case_at cases k).got ≡ (case_at cases k).want
each = all_equal cases checked
