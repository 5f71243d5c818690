-- A list that names no pair twice is referred to at most once for each child, and one of at most 4,096 within the field of an index.
use mathlib.Core.Bool.{Bool, true, false, cond}
use mathlib.Core.List.{List, [], ◌∷◌}
use mathlib.Core.Path.{◌≡◌, refl, ap, subst}
use Prim.Native.Nat.{ℕ, zero, suc, ◌+◌, ◌≤◌}
use native.Mathlib.Omega.{arith}
use lib.ListN.{length}
use borrow.Author.Tests.{lt-ltb}
use Rattle.entries.proofs.Linear.{both}
use Rattle.shingle.specs.declared.Shingle.{Shingle}
use Rattle.shingle.specs.Shingles.{Pair, pair_of, lower}
use Rattle.shingle.specs.Rising.{Over, Rising, none, more, same_pair, how_many}
use Rattle.shingle.specs.Children.{pairs_along}
use Rattle.shingle.proofs.PairOrder.{pairs_linear, same_true}
use Rattle.sort.specs.Shell.{total}
use Rattle.message.specs.Words.{Ref}
use Rattle.protocol.specs.Sender.{refer, refs_from, refs_of, indexed, referable}

-- 1 unless n is 0.
abbrev positive : ℕ → ℕ
positive zero = 0
positive (suc n) = 1

-- One for each shingle whose pair stands among these pairs, and one for each whose pair is p.
abbrev standing : List Pair → Shingle → ℕ
standing ps s = positive (how_many (pair_of s) ps)

abbrev equal : Pair → Shingle → ℕ
equal p s = cond (same_pair (pair_of s) p) 1 0

refs_standing : (l : ℕ) (ids : List ℕ) (i : ℕ) (ss : List Shingle) → length (refs_from i ss l ids) ≡ total (standing (pairs_along l 0 ids)) ss
unfolding total refs_from
refs_standing l ids i [] = refl
refs_standing l ids i (s ∷ ss) = go (how_many (pair_of s) (pairs_along l 0 ids)) (refs_from (suc i) ss l ids) (refs_standing l ids (suc i) ss)
  where
    go : (n : ℕ) (rest : List Ref) {sum : ℕ} → length rest ≡ sum → length (refer i n rest) ≡ positive n + sum
    go zero rest e = unfold refer in omega (arith, e)
    go (suc n) rest e = unfold refer in omega (arith, e)

none_standing : (ss : List Shingle) → total (standing []) ss ≡ 0
unfolding total how_many
none_standing [] = refl
none_standing (s ∷ ss) = let z = none_standing ss in omega (arith, z)

one_more : (p : Pair) (ps : List Pair) (ss : List Shingle) → total (standing (p ∷ ps)) ss ≤ total (equal p) ss + total (standing ps) ss
unfolding total how_many
one_more p ps [] = omega arith
one_more p ps (s ∷ ss) =
    go (same_pair (pair_of s) p) (how_many (pair_of s) ps) (total (standing (p ∷ ps)) ss) (total (equal p) ss) (total (standing ps) ss) (one_more p ps ss)
  where
    go : (t : Bool) (n a b c : ℕ) → a ≤ b + c → positive (cond t (suc n) n) + a ≤ cond t 1 0 + b + (positive n + c)
    go true n a b c h = omega (arith, h)
    go false n a b c h = omega (arith, h)

-- A pair stands in a rising list at most once.
over_apart : (p : Pair) (s : Shingle) → lower p (pair_of s) ≡ true → same_pair (pair_of s) p ≡ false
over_apart p s e = go (same_pair (pair_of s) p) refl
  where
    go : (t : Bool) → same_pair (pair_of s) p ≡ t → t ≡ false
    go true f = absurd (both (subst (λ (q : Pair). lower p q ≡ true) (same_true (pair_of s) p f) e) (pairs_linear.irreflexive p))
    go false f = refl

over_none : {p : Pair} {ss : List Shingle} → Over p ss → total (equal p) ss ≡ 0
unfolding total
over_none none = refl
over_none {p} (more {s = s} e o) = rw (over_apart p s e) (let z = over_none o in omega (arith, z))

at_most_once : (p : Pair) {ss : List Shingle} → Rising ss → total (equal p) ss ≤ 1
unfolding total
at_most_once p none = omega arith
at_most_once p (more {s = s} {ss = ss} o r) = go (same_pair (pair_of s) p) refl (at_most_once p r)
  where
    go : (t : Bool) → same_pair (pair_of s) p ≡ t → total (equal p) ss ≤ 1 → cond t 1 0 + total (equal p) ss ≤ 1
    go true e h = let z = over_none (subst (λ (q : Pair). Over q ss) (same_true (pair_of s) p e) o) in omega (arith, z)
    go false e h = omega (arith, h)

few_standing : (ps : List Pair) {ss : List Shingle} → Rising ss → total (standing ps) ss ≤ length ps
few_standing [] {ss} r = let z = none_standing ss in omega (arith, z)
few_standing (p ∷ ps) {ss} r =
    let more = one_more p ps ss in
    let once = at_most_once p r in
    let rest = few_standing ps r in
    omega (arith, more, once, rest)

pub length_along : (l v : ℕ) (ids : List ℕ) → length (pairs_along l v ids) ≡ length ids
unfolding pairs_along
length_along l v [] = refl
length_along l v (x ∷ ids) = ap suc (length_along l x ids)

-- Of a list with at most 4,096 shingles every index is within its field.
pub all_indexed : (l : ℕ) (ids : List ℕ) (i : ℕ) (ss : List Shingle) → i + length ss ≤ 4096 → indexed (refs_from i ss l ids) ≡ true
unfolding refs_from indexed
all_indexed l ids i [] h = refl
all_indexed l ids i (s ∷ ss) h = go (how_many (pair_of s) (pairs_along l 0 ids)) (all_indexed l ids (suc i) ss (omega (arith, h)))
  where
    go : (n : ℕ) → indexed (refs_from (suc i) ss l ids) ≡ true → indexed (refer i n (refs_from (suc i) ss l ids)) ≡ true
    go zero rest = unfold refer in rest
    go (suc n) rest = unfold refer indexed in rw (lt-ltb i 4096 (omega (arith, h))) rest

pub rising_referable : (list : List Shingle) (l : ℕ) (ids : List ℕ) → Rising list → length list ≤ 4096 → length ids ≤ 32 → referable list l ids ≡ true
unfolding referable refs_of
rising_referable list l ids r many h =
    let size = refs_standing l ids 0 list in
    let few = few_standing (pairs_along l 0 ids) r in
    let long = length_along l 0 ids in
    rw (lt-ltb (length (refs_from 0 list l ids)) 33 (omega (arith, size, few, long, h))) (all_indexed l ids 0 list (omega (arith, many)))
