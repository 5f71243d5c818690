-- What the parts of the search promise each other. No public contract cites these.
use Rattle.std.specs.Prelude.{Bool, cond, ◌&&◌, List, [], ◌∷◌, ◌++◌, map, ◌≡◌, ℕ, zero, suc, ◌+◌, ◌-◌, ◌/◌, ◌^◌, ◌<◌, ◌≤◌, eqb, leb, length, get_or, take, drop, replicate, bit_and, Option, IfSome, IsSomeAnd, Result, Ok, Err}
use Rattle.trail.specs.Trails.{Multiset, branches, trails_from, pairs_from, tally, total}

-- Those of a list that pass a test.
unfoldable pub keep : (ℕ → Bool) → List ℕ → List ℕ
keep test [] = []
keep test (x ∷ xs) = cond (test x) (x ∷ keep test xs) (keep test xs)

unfoldable pub within : ℕ → ℕ → ℕ → Bool
within low top x = leb low x && leb x top

-- The trails of k + 1 ids whose first id is at least low and at most top.
unfoldable pub trails_within : ℕ → ℕ → ℕ → List ℕ → ℕ → Multiset → List (List ℕ)
trails_within low top k ids v pairs = branches (λ x fewer. trails_from k ids x fewer) (keep (within low top) ids) v pairs

-- The trails of k ids whose first id, if they have one, is at most top.
unfoldable pub trails_up_to : ℕ → ℕ → List ℕ → ℕ → Multiset → List (List ℕ)
trails_up_to top zero ids v pairs = [] ∷ []
trails_up_to top (suc k) ids v pairs = trails_within 0 top k ids v pairs

-- The columns of a table have 32 places.
pub record Columns (previouses owns counts : List ℕ) : Type 0 where
  pub previous : length previouses ≡ 32
  pub own : length owns ≡ 32
  pub count : length counts ≡ 32

-- Row j is not used up, leaves v, and leads to an id from low to top.
pub record Leads (previouses owns counts : List ℕ) (v low top j : ℕ) : Type 0 where
  pub leaves : get_or previouses j 0 ≡ v
  pub unused : 0 < get_or counts j 0
  pub above : low ≤ get_or owns j 0
  pub below : get_or owns j 0 ≤ top

-- Of the first n rows that lead on so, the one that is found leads to the least id; there is none if none is found.
pub record Least (previouses owns counts : List ℕ) (v low top n : ℕ) (found : Option ℕ) : Type 0 where
  pub row : IfSome found (λ r. (r < 32) × Leads previouses owns counts v low top r)
  pub least : (j : ℕ) → j < n → Leads previouses owns counts v low top j → IsSomeAnd found (λ r. get_or owns r 0 ≤ get_or owns j 0)

-- Row r is the first from `from` on that leaves id; it is not below 32 if there is none.
pub record Following (previouses : List ℕ) (id from r : ℕ) : Type 0 where
  pub on : from ≤ r
  pub here : r < 32 → get_or previouses r 0 ≡ id
  pub none : (j : ℕ) → j < r → from ≤ j → j < 32 → get_or previouses j 0 ≡ id → ⊥

-- For each of the first n rows, the first row that leaves the id it leads to.
pub record Firsts (previouses owns firsts : List ℕ) (n : ℕ) : Type 0 where
  pub long : length firsts ≡ 32
  pub each : (i : ℕ) → i < n → Following previouses (get_or owns i 0) 0 (get_or firsts i 0)

-- For each of the first n rows, the next row that leaves the same id.
pub record Afters (previouses afters : List ℕ) (n : ℕ) : Type 0 where
  pub long : length afters ≡ 32
  pub each : (i : ℕ) → i < n → Following previouses (get_or previouses i 0) (i + 1) (get_or afters i 0)

-- The rows of a table are linked.
pub record Linked (previouses owns firsts afters : List ℕ) : Type 0 where
  pub first : Firsts previouses owns firsts 32
  pub after : Afters previouses afters 32

-- The ids that rows lead to.
unfoldable pub led : List ℕ → List ℕ → List ℕ
led owns rows = map (λ (i : ℕ). get_or owns i 0) rows

-- The search can start: the columns have 32 places, k pairs are unused, and k is at most 32.
pub record Ready (previouses owns counts : List ℕ) (k : ℕ) : Type 0 where
  pub columns : Columns previouses owns counts
  pub size : total counts ≡ k
  pub few : k ≤ 32

-- The sequence of a list that `skip` come before is there: its k ids stand in the last k of 32 places.
pub record Found (list : List (List ℕ)) (k skip : ℕ) (ids : List ℕ) : Type 0 where
  pub there : skip < length list
  pub same : drop (32 - k) ids ≡ get_or list skip []

-- What a search of a list answers: the rows that lead to that sequence; or it is not there, and so many are still to be skipped in what follows.
abbrev pub Answer : List (List ℕ) → ℕ → ℕ → List ℕ → Result (List ℕ) ℕ → Type 0
Answer list k skip owns (Ok rows) = Found list k skip (led owns rows)
Answer list k skip owns (Err left) = length list + left ≡ skip

-- The bit of row j among the marks.
abbrev pub mark : ℕ → ℕ → ℕ
mark marks j = bit_and (marks / 2 ^ j) 1

-- Row j is not used up and not marked.
pub record Missed (counts : List ℕ) (marks j : ℕ) : Type 0 where
  pub unused : 0 < get_or counts j 0
  pub unmarked : mark marks j ≡ 0

-- None of the first n rows that leave id is missed.
abbrev pub Clear : List ℕ → List ℕ → ℕ → ℕ → ℕ → Type 0
Clear previouses counts marks id n = (j : ℕ) → j < n → j < 32 → Missed counts marks j → get_or previouses j 0 ≡ id → ⊥

-- None of the first n rows that are marked and not used up leads to id.
abbrev pub Away : List ℕ → List ℕ → ℕ → ℕ → ℕ → Type 0
Away owns counts marks id n = (i : ℕ) → i < n → 0 < get_or counts i 0 → (mark marks i ≡ 0 → ⊥) → get_or owns i 0 ≡ id → ⊥

-- Of the first n rows, no missed one leaves v or an id that a marked one leads to.
abbrev pub Apart : List ℕ → List ℕ → List ℕ → ℕ → ℕ → ℕ → Type 0
Apart previouses owns counts marks v n =
    (j : ℕ) → j < n → Missed counts marks j → (get_or previouses j 0 ≡ v → ⊥) × Away owns counts marks (get_or previouses j 0) 32

-- No trail goes on from v over all of these pairs.
abbrev pub Lost : ℕ → Multiset → Type 0
Lost v pairs = (xs : List ℕ) → pairs_from v xs ≡ pairs → ⊥

-- Some id is left more often than it is entered, 0 more than once more.
pub record Unbalanced (previouses owns counts : List ℕ) : Type 0 where
  pub id : ℕ
  pub more : tally (λ p o. eqb p id) owns owns counts + cond (eqb 0 id) 1 0 < tally (λ p o. eqb p id) previouses previouses counts

-- A sequence of ids as a table: its pairs in order, each counted once, and rows of zeros after them.
pub record Chained (xs previouses owns counts : List ℕ) : Type 0 where
  pub previous : previouses ≡ take (length xs) (0 ∷ xs) ++ replicate (32 - length xs) 0
  pub own : owns ≡ xs ++ replicate (32 - length xs) 0
  pub count : counts ≡ replicate (length xs) 1 ++ replicate (32 - length xs) 0

-- The sequence can be numbered over that table.
pub record Numberable (xs previouses owns counts : List ℕ) : Type 0 where
  pub few : length xs ≤ 32
  pub nonzero : (i : ℕ) → i < length xs → 0 < get_or xs i 0
  pub table : Chained xs previouses owns counts
