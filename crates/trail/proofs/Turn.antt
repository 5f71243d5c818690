-- The turns of the search, over plain lists and numbers: each need of its proof is one of these laws.
use mathlib.Core.List.{List, [], ◌∷◌, ◌++◌, map}
use mathlib.Core.Path.{◌≡◌, refl, sym, ap, subst, ◌∙◌}
use Prim.Native.Nat.{ℕ, zero, suc, ◌+◌, ◌-◌, ◌<◌, ◌≤◌}
use native.Mathlib.Omega.{arith}
use native.Mathlib.Numerals.{add-one}
use lib.ListN.{length, get_or, set}
use borrow.Author.Tests.{le-leb}
use Rattle.trail.specs.Trails.{Multiset, pairs_from, without, pairs_of, total, rising, branches, trails_from}
use Rattle.std.specs.Prelude.{Option, Some, None, Result}
use Rattle.trail.specs.Search.{keep, within, trails_within, trails_up_to, Columns, Leads, Least, Ready, Found, Answer, Lost, led}
use Rattle.trail.proofs.Every.{Every, none, also, weaken, no_member}
use Rattle.trail.proofs.Ids.{rising_up, every_rising}
use Rattle.trail.proofs.Tally.{total-set, PairRow, pair_row, row_pair, without_row, Sized, sized_without}
use Rattle.trail.proofs.Trails.{step_back, every_branch, sound}
use Rattle.trail.proofs.Weigh.{owns_cover}
use Rattle.trail.proofs.Linking.{led_long, led-set}
use Rattle.trail.proofs.Search.{no_branch, next_branch, branch_found, rest_found, rest_past}

-- A search that goes on with the ids from low on, `left` trails still to be skipped, answers the whole search.
pub record Onward (top k : ℕ) (ids : List ℕ) (v : ℕ) (pairs : Multiset) (skip left low : ℕ) : Type 0 where
  pub found : (places : List ℕ) → Found (trails_within low top (k - 1) ids v pairs) k left places → Found (trails_up_to top k ids v pairs) k skip places
  pub past : (less : ℕ) → length (trails_within low top (k - 1) ids v pairs) + less ≡ left → length (trails_up_to top k ids v pairs) + less ≡ skip

module _ (top : ℕ) (ids : List ℕ) (v : ℕ) (pairs : Multiset) where
  pub leaf_answer : (k skip : ℕ) (owns : List ℕ) (r : Result (List ℕ) ℕ) → k ≡ 0 → Answer ([] ∷ []) 0 skip owns r → Answer (trails_up_to top k ids v pairs) k skip owns r
  unfolding trails_up_to
  leaf_answer k skip owns r e a = rw e a

  pub onward_start : (k skip : ℕ) → (k ≡ 0 → ⊥) → Onward top k ids v pairs skip skip 0
  onward_start zero skip h = absurd (h refl)
  onward_start (suc k) skip h =
      let e : trails_within 0 top (suc k - 1) ids v pairs ≡ trails_up_to top (suc k) ids v pairs = same in
      record {
        found = λ places f. subst (λ (list : List (List ℕ)). Found list (suc k) skip places) e f;
        past = λ less p. subst (λ (list : List (List ℕ)). length list + less ≡ skip) e p;
      }
    where
      less : suc k - 1 ≡ k
      less = omega arith

      same : trails_within 0 top (suc k - 1) ids v pairs ≡ trails_up_to top (suc k) ids v pairs
      same = unfold trails_up_to in ap (λ (n : ℕ). trails_within 0 top n ids v pairs) less

  -- Nothing is left to try.
  pub onward_none : (k skip left low : ℕ) → Onward top k ids v pairs skip left low →
      trails_within low top (k - 1) ids v pairs ≡ [] → length (trails_up_to top k ids v pairs) + left ≡ skip
  onward_none k skip left low o e = o.past left (rw e (omega arith))

-- No trail goes on: nothing to skip.
pub lost_answer : (ps os cs : List ℕ) (top v k skip : ℕ) → Ready ps os cs k → Lost v (pairs_of ps os cs) →
    (k ≡ 0 → ⊥) → length (trails_up_to top k (rising os) v (pairs_of ps os cs)) + skip ≡ skip
lost_answer ps os cs top v zero skip r l z = absurd (z refl)
lost_answer ps os cs top v (suc k) skip r l z = rw (no_member l all) (omega arith)
  where
    pairs : Multiset
    pairs = pairs_of ps os cs

    sized : Sized (suc k) pairs
    sized = record { previouses = ps; owns = os; counts = cs; long = (r.columns.previous ∙ sym r.columns.count, r.columns.own ∙ sym r.columns.count); gives = refl; size = r.size }

    all : Every (λ xs. pairs_from v xs ≡ pairs) (trails_up_to top (suc k) (rising os) v pairs)
    all = unfold trails_up_to trails_within in every_branch (λ x fewer. trails_from k (rising os) x fewer) (keep (within 0 top) (rising os)) v pairs
        (λ x h. weaken (λ xs e. step_back v x xs pairs h e) (sound k (rising os) x (without v x pairs) (sized_without v x sized h)))

module _ (ps os cs : List ℕ) (long : Columns ps os cs) where
  -- A pair that leads on from v stands in a row.
  leading : (v low top y : ℕ) → low ≤ y → y ≤ top → 0 < pairs_of ps os cs v y → (j : ℕ) × (j < 32) × Leads ps os cs v low top j × (get_or os j 0 ≡ y)
  leading v low top y hl ht h =
      let r : PairRow ps os cs v y = pair_row ps os cs v y h in
      let c = long.count in
      let b = r.low.2 in
      let e : get_or os r.at 0 ≡ y = r.own in
      (r.at, omega arith, record { leaves = r.previous; unused = r.left; above = omega arith; below = omega arith }, e)

  pub least_none : (v low top k : ℕ) → Least ps os cs v low top 32 None → trails_within low top k (rising os) v (pairs_of ps os cs) ≡ []
  unfolding trails_within
  least_none v low top k m = no_branch (λ x fewer. trails_from k (rising os) x fewer) low top (rising os) v (pairs_of ps os cs)
      (λ y hl ht p. let l = leading v low top y hl ht p in m.least l.0 l.1 l.2)

  -- First the trails over the least id, then those of greater ids.
  least_first : (v low top k r : ℕ) → Least ps os cs v low top 32 (Some r) →
      trails_within low top k (rising os) v (pairs_of ps os cs)
      ≡ map (λ (xs : List ℕ). get_or os r 0 ∷ xs) (trails_from k (rising os) (get_or os r 0) (pairs_of ps os (set cs r (get_or cs r 0 - 1)))) ++ trails_within (get_or os r 0 + 1) top k (rising os) v (pairs_of ps os cs)
  unfolding trails_within
  least_first v low top k r m =
      let h = m.row.0 in
      let l : Leads ps os cs v low top r = m.row.1 in
      let hp : r < length ps = rw long.previous h in
      let ho : r < length os = rw long.own h in
      let hc : r < length cs = rw long.count h in
      let p = row_pair ps os cs r hp ho hc in
      let u = l.unused in
      let here : 0 < pairs_of ps os cs v (get_or os r 0) = subst (λ (z : ℕ). 0 < pairs_of ps os cs z (get_or os r 0)) l.leaves (omega arith) in
      rw (add-one (get_or os r 0))
      (next_branch (λ x fewer. trails_from k (rising os) x fewer) low top (get_or os r 0) v (pairs_of ps os cs) (rising_up os) (owns_cover ps os cs v (get_or os r 0) here) l.above l.below here
      (λ y hl ht q. let g = leading v low top y hl ht q in let e : get_or os g.0 0 ≡ y = g.3 in let z = m.least g.0 g.1 g.2 in omega arith)
      ∙ ap (λ (pairs : Multiset). map (λ (xs : List ℕ). get_or os r 0 ∷ xs) (trails_from k (rising os) (get_or os r 0) pairs) ++ branches (λ x fewer. trails_from k (rising os) x fewer) (keep (within (suc (get_or os r 0)) top) (rising os)) v (pairs_of ps os cs))
      (sym (without_row ps os cs r hp ho hc u ∙ ap (λ (z : ℕ). without z (get_or os r 0) (pairs_of ps os cs)) l.leaves)))

pub ready : {ps os cs : List ℕ} {k : ℕ} → length ps ≡ 32 → length os ≡ 32 → length cs ≡ 32 → total cs ≡ k → k ≤ 32 → Ready ps os cs k
ready p o c s f = record { columns = record { previous = p; own = o; count = c }; size = s; few = f }

-- A pair of row r is used.
pub total_spent : (cs : List ℕ) (k r : ℕ) → total cs ≡ k → r < length cs → 0 < get_or cs r 0 → total (set cs r (get_or cs r 0 - 1)) ≡ k - 1
total_spent cs k r s h u = let t = total-set cs r (get_or cs r 0 - 1) h in omega arith

every_below : (os : List ℕ) (n : ℕ) → ((i : ℕ) → get_or os i 0 ≤ n) → Every (λ y. y ≤ n) os
every_below [] n h = none
every_below (o ∷ os) n h = also (h 0) (every_below os n (λ i. h (suc i)))

keep_all : (top : ℕ) {ids : List ℕ} → Every (λ y. y ≤ top) ids → keep (within 0 top) ids ≡ ids
unfolding keep within
keep_all top none = refl
keep_all top (also {x = y} h r) = rw (le-leb 0 y (omega arith), le-leb y top h, keep_all top r)

pub up_to_all : (os : List ℕ) (top k v : ℕ) (pairs : Multiset) → ((i : ℕ) → get_or os i 0 ≤ top) → trails_up_to top k (rising os) v pairs ≡ trails_from k (rising os) v pairs
unfolding trails_up_to trails_within trails_from
up_to_all os top zero v pairs h = refl
up_to_all os top (suc k) v pairs h = rw (keep_all top (every_rising (every_below os top h)))

module _ (ps os cs : List ℕ) (top last v k skip left low r : ℕ) (a : Ready ps os cs k) (z : k ≡ 0 → ⊥)
    (o : Onward top k (rising os) v (pairs_of ps os cs) skip left low) (m : Least ps os cs v low top 32 (Some r))
    (bound : (i : ℕ) → get_or os i 0 ≤ last) where
  -- What the search below answers for.
  abbrev below : List (List ℕ)
  below = trails_up_to last (k - 1) (rising os) (get_or os r 0) (pairs_of ps os (set cs r (get_or cs r 0 - 1)))

  -- The trails from low on.
  parts : trails_within low top (k - 1) (rising os) v (pairs_of ps os cs)
      ≡ map (λ (xs : List ℕ). get_or os r 0 ∷ xs) below ++ trails_within (get_or os r 0 + 1) top (k - 1) (rising os) v (pairs_of ps os cs)
  parts = rw (up_to_all os last (k - 1) (get_or os r 0) (pairs_of ps os (set cs r (get_or cs r 0 - 1))) bound) (least_first ps os cs a.columns v low top (k - 1) r m)

  more : suc (k - 1) ≡ k
  more = omega arith

  pub found_answer : (rows : List ℕ) → length rows ≡ 32 → Found below (k - 1) left (led os rows) →
      Found (trails_up_to top k (rising os) v (pairs_of ps os cs)) k skip (led os (set rows (32 - k) r))
  found_answer rows l b =
      let few = a.few in
      subst (λ (places : List ℕ). Found (trails_up_to top k (rising os) v (pairs_of ps os cs)) k skip places) (led-set os rows (32 - k) r)
      (o.found (set (led os rows) (32 - k) (get_or os r 0))
      (rw parts (subst (λ (n : ℕ). Found (map (λ (xs : List ℕ). get_or os r 0 ∷ xs) below ++ trails_within (get_or os r 0 + 1) top (k - 1) (rising os) v (pairs_of ps os cs)) n left (set (led os rows) (32 - n) (get_or os r 0))) more
      (branch_found (get_or os r 0) (k - 1) left _ _ (led os rows) (led_long os rows ∙ l) (omega arith) b))))

  pub past_onward : (less : ℕ) → length below + less ≡ left → Onward top k (rising os) v (pairs_of ps os cs) skip less (get_or os r 0 + 1)
  past_onward less p =
      record {
        found = λ places f. o.found places (rw parts (rest_found (get_or os r 0) k left less _ _ places p f));
        past = λ fewer q. o.past fewer (rw parts (rest_past (get_or os r 0) left less fewer _ _ p q));
      }

-- The loop of the search: the next row leads to the least id from some id `low` on, and so goes on.
pub record Turning (ps os cs : List ℕ) (top k v skip left : ℕ) (next : Option ℕ) : Type 0 where
  pub low : ℕ
  pub onward : Onward top k (rising os) v (pairs_of ps os cs) skip left low
  pub least : Least ps os cs v low top 32 next

pub turning_start : (ps os cs : List ℕ) (top k v skip : ℕ) (next : Option ℕ) → (k ≡ 0 → ⊥) → Least ps os cs v 0 top 32 next → Turning ps os cs top k v skip skip next
turning_start ps os cs top k v skip next z m = record { low = 0; onward = onward_start top (rising os) v (pairs_of ps os cs) k skip z; least = m }

-- How many ids there are from that of the next row to top, which falls from turn to turn.
unfoldable pub room : List ℕ → ℕ → Option ℕ → ℕ
room os top None = 0
room os top (Some r) = top + 1 - get_or os r 0

pub room_less : (ps os cs : List ℕ) (v top r : ℕ) (next then : Option ℕ) → next ≡ Some r → get_or os r 0 ≤ top → Least ps os cs v (get_or os r 0 + 1) top 32 then → room os top then < room os top next
unfolding room
room_less ps os cs v top r next None e b m = rw e (omega arith)
room_less ps os cs v top r next (Some s) e b m = let u = m.row.1.above in let w = m.row.1.below in rw e (omega arith)
