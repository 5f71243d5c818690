-- Trails over a multiset of pairs, their order and their numbers: document 01, 'Trails'.
use Rattle.std.specs.Prelude.{Bool, true, false, cond, ◌&&◌, ◌||◌, List, [], ◌∷◌, ◌++◌, map, ℕ, zero, suc, ◌+◌, ◌-◌, min, eqb, ltb, length, get_or}

-- A multiset of pairs: how often the pair of a previous id and an own id occurs.
abbrev pub Multiset : Type 0
Multiset = ℕ → ℕ → ℕ

-- The pair (v, x), once.
unfoldable pub single : ℕ → ℕ → Multiset
single v x previous own = cond (eqb v previous && eqb x own) 1 0

-- The "pairs, starting from 0" of a sequence of ids; here starting from any id v.
unfoldable pub pairs_from : ℕ → List ℕ → Multiset
pairs_from v [] previous own = 0
pairs_from v (x ∷ xs) previous own = single v x previous own + pairs_from x xs previous own

-- The multiset with the pair (v, x) once less.
unfoldable pub without : ℕ → ℕ → Multiset → Multiset
without v x pairs previous own = pairs previous own - single v x previous own

-- How many pairs pass a test, counts added up, in a table with a column of previous ids, one of own ids and one of counts.
unfoldable pub tally : (ℕ → ℕ → Bool) → List ℕ → List ℕ → List ℕ → ℕ
tally test [] owns counts = 0
tally test (p ∷ ps) [] counts = 0
tally test (p ∷ ps) (o ∷ os) [] = 0
tally test (p ∷ ps) (o ∷ os) (c ∷ cs) = cond (test p o) c 0 + tally test ps os cs

-- The multiset that such a table gives. Rows may stand in any order, and rows with the same pair add up.
unfoldable pub pairs_of : List ℕ → List ℕ → List ℕ → Multiset
pairs_of previouses owns counts previous own = tally (λ p o. eqb p previous && eqb o own) previouses owns counts

-- The sum of the counts.
unfoldable pub total : List ℕ → ℕ
total [] = 0
total (c ∷ cs) = c + total cs

-- x at its place in a rising list, unless it is there.
unfoldable pub insert : ℕ → List ℕ → List ℕ
insert x [] = x ∷ []
insert x (y ∷ ys) = cond (ltb x y) (x ∷ y ∷ ys) (y ∷ cond (ltb y x) (insert x ys) ys)

-- The ids of a list in rising order, each once.
unfoldable pub rising : List ℕ → List ℕ
rising [] = []
rising (x ∷ xs) = insert x (rising xs)

-- The sequences that go on from v over the pair (v, x), if it is there; `rest` gives those from x on.
unfoldable pub over : (ℕ → Multiset → List (List ℕ)) → ℕ → ℕ → Multiset → Bool → List (List ℕ)
over rest v x pairs true = map (λ (xs : List ℕ). x ∷ xs) (rest x (without v x pairs))
over rest v x pairs false = []

-- The same for each x of a list of ids, one after the other.
unfoldable pub branches : (ℕ → Multiset → List (List ℕ)) → List ℕ → ℕ → Multiset → List (List ℕ)
branches rest [] v pairs = []
branches rest (x ∷ ids) v pairs = over rest v x pairs (ltb 0 (pairs v x)) ++ branches rest ids v pairs

-- The sequences of k ids that go on from v, each step over a pair that is still there: over a multiset of k pairs,
-- those "whose pairs, starting from" v, "are exactly it". `ids` holds the ids that can occur, rising, so the sequences rise.
unfoldable pub trails_from : ℕ → List ℕ → ℕ → Multiset → List (List ℕ)
trails_from zero ids v pairs = [] ∷ []
trails_from (suc k) ids v pairs = branches (λ x fewer. trails_from k ids x fewer) ids v pairs

-- "Trails are ordered by ids, first id first, unsigned." Sequences of the same length are compared.
unfoldable pub before : List ℕ → List ℕ → Bool
before [] ys = false
before (x ∷ xs) [] = false
before (x ∷ xs) (y ∷ ys) = ltb x y || (eqb x y && before xs ys)

-- How many of the listed sequences come before xs.
unfoldable pub count_before : List ℕ → List (List ℕ) → ℕ
count_before xs [] = 0
count_before xs (ys ∷ list) = cond (before ys xs) 1 0 + count_before xs list

-- All trails over the pairs of xs, in order.
unfoldable pub trails_like : List ℕ → List (List ℕ)
trails_like xs = trails_from (length xs) (rising xs) 0 (pairs_from 0 xs)

-- "The trail number is how many trails come before the true one", and numbering "answers 4,096 for every number above 4,095".
unfoldable pub trail_number : List ℕ → ℕ
trail_number xs = min 4096 (count_before xs (trails_like xs))

-- All trails over the multiset that a table gives, in order.
unfoldable pub trails_over : List ℕ → List ℕ → List ℕ → List (List ℕ)
trails_over previouses owns counts = trails_from (total counts) (rising owns) 0 (pairs_of previouses owns counts)

-- The trail of a number over the multiset that a table gives; no ids if there is none.
unfoldable pub order_of : List ℕ → List ℕ → List ℕ → ℕ → List ℕ
order_of previouses owns counts number = get_or (trails_over previouses owns counts) number []

-- Document 02, request 5: "The trail search now also says whether its trail is the only one": of an order over its own pairs, and over the
-- multiset that a table gives.
unfoldable pub only_trail : List ℕ → Bool
only_trail xs = eqb (length (trails_like xs)) 1

unfoldable pub only_over : List ℕ → List ℕ → List ℕ → Bool
only_over previouses owns counts = eqb (length (trails_over previouses owns counts)) 1
