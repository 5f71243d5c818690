-- Numbering over the table of a sequence's own pairs: after d steps, what is counted so far and what is still to be counted make the whole number.
use mathlib.Core.List.{List, [], ◌∷◌, Memᴰ}
use mathlib.Core.Path.{◌≡◌, refl, sym, ap, subst, ◌∙◌}
use Prim.Native.Nat.{ℕ, suc, ◌+◌, ◌-◌, ◌<◌, ◌≤◌}
use native.Mathlib.Omega.{arith}
use native.Mathlib.Numerals.{add-one}
use lib.ListN.{length, get_or, set, take, drop, replicate, length-append, length-set, length-replicate, get_or-replicate, drop_of_length-le, get_or-append}
use lib.Seq.{drop-cons, length-take-le, get_or-take, get_or-set_other}
use Rattle.trail.specs.Trails.{Multiset, pairs_from, without, pairs_of, total, rising, trails_from, before, count_before, trails_like, trail_number}
use Rattle.trail.specs.Search.{trails_within, trails_up_to, Columns, Numberable}
use Rattle.trail.proofs.Ids.{Up, rising_up}
use Rattle.trail.proofs.Numbering.{branches_count}
use Rattle.trail.proofs.Tally.{total-set, without_row}
use Rattle.trail.proofs.Trails.{step_on, step_there, Covers}
use Rattle.trail.proofs.Weigh.{any_ids, owns_cover, ids_cover, pairs_chain, total_chain}

-- One step of the number.
count_step : (x : ℕ) (xs ids : List ℕ) (v m : ℕ) → Up ids → Memᴰ x ids → 0 < x →
    count_before (x ∷ xs) (trails_from (suc m) ids v (pairs_from v (x ∷ xs))) ≡ length (trails_up_to (x - 1) (suc m) ids v (pairs_from v (x ∷ xs))) + count_before xs (trails_from m ids x (pairs_from x xs))
unfolding trails_from trails_up_to trails_within
count_step x xs ids v m up mem p =
    branches_count (λ y fewer. trails_from m ids y fewer) x xs v (pairs_from v (x ∷ xs)) up mem p (step_there v x xs)
    ∙ ap (λ (pairs : Multiset). length (trails_up_to (x - 1) (suc m) ids v (pairs_from v (x ∷ xs))) + count_before xs (trails_from m ids x pairs)) (step_on v x xs)

module _ (xs ps os cs₀ : List ℕ) (n : Numberable xs ps os cs₀) where
  zeros : length (replicate {A = ℕ} (32 - length xs) 0) ≡ 32 - length xs
  zeros = length-replicate (32 - length xs) 0

  pub columns : Columns ps os cs₀
  columns =
      let few = n.few in
      record {
        previous = rw (n.table.previous, length-append (take (length xs) (0 ∷ xs)) (replicate (32 - length xs) 0), length-take-le (length xs) (0 ∷ xs) (omega arith), zeros) (omega arith);
        own = rw (n.table.own, length-append xs (replicate (32 - length xs) 0), zeros) (omega arith);
        count = rw (n.table.count, length-append (replicate {A = ℕ} (length xs) 1) (replicate (32 - length xs) 0), length-replicate {A = ℕ} (length xs) 1, zeros) (omega arith);
      }

  pub pairs_first : pairs_of ps os cs₀ ≡ pairs_from 0 xs
  pairs_first = rw (n.table.previous, n.table.own, n.table.count) (pairs_chain 0 xs (replicate (32 - length xs) 0) (replicate (32 - length xs) 0) (32 - length xs))

  pub total_first : total cs₀ ≡ length xs
  total_first = rw n.table.count (total_chain (length xs) (32 - length xs))

  previous_at : (d : ℕ) → d < length xs → get_or ps d 0 ≡ get_or (0 ∷ xs) d 0
  previous_at d h =
      let long : length (take (length xs) (0 ∷ xs)) ≡ length xs = length-take-le (length xs) (0 ∷ xs) (omega arith) in
      rw n.table.previous (get_or-append (take (length xs) (0 ∷ xs)) (replicate (32 - length xs) 0) 0 d (omega arith) ∙ get_or-take (length xs) (0 ∷ xs) d 0 h)

  own_at : (d : ℕ) → d < length xs → get_or os d 0 ≡ get_or xs d 0
  own_at d h = rw n.table.own (get_or-append xs (replicate (32 - length xs) 0) 0 d h)

  one_at : (d : ℕ) → d < length xs → get_or cs₀ d 0 ≡ 1
  one_at d h =
      let long : length (replicate {A = ℕ} (length xs) 1) ≡ length xs = length-replicate {A = ℕ} (length xs) 1 in
      rw n.table.count (get_or-append (replicate (length xs) 1) (replicate (32 - length xs) 0) 0 d (omega arith) ∙ get_or-replicate (length xs) d 1 0 h)

  -- The trails over the table are those over the sequence's pairs.
  alike : trails_from (length xs) (rising os) 0 (pairs_from 0 xs) ≡ trails_like xs
  unfolding trails_like
  alike =
      let c = columns in
      any_ids (rising os) (rising xs) 0
      (record { previouses = ps; owns = os; counts = cs₀; long = (c.previous ∙ sym c.count, c.own ∙ sym c.count); gives = pairs_first; size = total_first })
      (rising_up os) (subst (λ (pairs : Multiset). Covers (rising os) pairs) pairs_first (owns_cover ps os cs₀))
      (rising_up xs) (ids_cover 0 xs)

-- d steps are done: from v on the rest of the sequence is to be counted, over the counts that are left.
pub record Counting (xs ps os cs : List ℕ) (v skip d : ℕ) : Type 0 where
  pub bound : d ≤ length xs
  pub pairs : pairs_of ps os cs ≡ pairs_from v (drop d xs)
  pub size : total cs ≡ length xs - d
  pub long : length cs ≡ 32
  pub ones : (j : ℕ) → d ≤ j → j < length xs → get_or cs j 0 ≡ 1
  pub last : v ≡ get_or (0 ∷ xs) d 0
  pub cap : skip ≤ 4096
  pub count : (4096 - skip) + count_before (drop d xs) (trails_from (length xs - d) (rising os) v (pairs_from v (drop d xs))) ≡ count_before xs (trails_like xs)

pub count_start : {xs ps os cs₀ cs : List ℕ} → Numberable xs ps os cs₀ → cs ≡ cs₀ → Counting xs ps os cs 0 4096 0
count_start {xs} {ps} {os} {cs₀} n e =
    let all : length xs - 0 ≡ length xs = omega arith in
    subst (λ (cs : List ℕ). Counting xs ps os cs 0 4096 0) (sym e)
    (record {
      bound = omega arith;
      pairs = pairs_first xs ps os cs₀ n;
      size = total_first xs ps os cs₀ n ∙ sym all;
      long = (columns xs ps os cs₀ n).count;
      ones = λ j l h. one_at xs ps os cs₀ n j h;
      last = refl;
      cap = omega arith;
      count = rw (all, alike xs ps os cs₀ n) (omega arith);
    })

module _ {xs ps os cs₀ cs : List ℕ} {v skip d : ℕ} (n : Numberable xs ps os cs₀) (c : Counting xs ps os cs v skip d) (h : d < length xs) where
  split : drop d xs ≡ get_or xs d 0 ∷ drop (d + 1) xs
  split = rw (add-one d) (drop-cons xs d 0 h)

  from_here : pairs_of ps os cs ≡ pairs_from v (get_or xs d 0 ∷ drop (d + 1) xs)
  from_here = c.pairs ∙ ap (pairs_from v) split

  -- The whole number, by the trails that start with a smaller id here.
  counted : (4096 - skip) + (length (trails_up_to (get_or xs d 0 - 1) (length xs - d) (rising os) v (pairs_of ps os cs))
      + count_before (drop (d + 1) xs) (trails_from (length xs - (d + 1)) (rising os) (get_or xs d 0) (pairs_from (get_or xs d 0) (drop (d + 1) xs)))) ≡ count_before xs (trails_like xs)
  counted =
      let more : length xs - d ≡ suc (length xs - (d + 1)) = omega arith in
      let mem : Memᴰ (get_or xs d 0) (rising os) = owns_cover ps os cs v (get_or xs d 0) (subst (λ (pairs : Multiset). 0 < pairs v (get_or xs d 0)) (sym from_here) (step_there v (get_or xs d 0) (drop (d + 1) xs))) in
      rw (from_here, more) (ap (λ (m : ℕ). (4096 - skip) + m) (sym (count_step (get_or xs d 0) (drop (d + 1) xs) (rising os) v (length xs - (d + 1)) (rising_up os) mem (n.nonzero d h)))
      ∙ (λ j. (4096 - skip) + count_before (sym split j) (trails_from (sym more j) (rising os) v (pairs_from v (sym split j)))) ∙ c.count)

  pub count_next : {left : ℕ} → length (trails_up_to (get_or xs d 0 - 1) (length xs - d) (rising os) v (pairs_of ps os cs)) + left ≡ skip →
      Counting xs ps os (set cs d 0) (get_or xs d 0) left (d + 1)
  count_next {left} p =
      let w = columns xs ps os cs₀ n in
      let few = n.few in
      let one : get_or cs d 0 ≡ 1 = c.ones d (omega arith) h in
      let less : 0 ≡ get_or cs d 0 - 1 = omega arith in
      let hp : d < length ps = rw w.previous (omega arith) in
      let ho : d < length os = rw w.own (omega arith) in
      let hc : d < length cs = rw c.long (omega arith) in
      let t = total-set cs d 0 hc in
      let s = c.size in
      let g = c.cap in
      let e = counted in
      record {
        bound = omega arith;
        pairs = ap (λ (m : ℕ). pairs_of ps os (set cs d m)) less ∙ without_row ps os cs d hp ho hc (omega arith)
            ∙ (λ j. without ((previous_at xs ps os cs₀ n d h ∙ sym c.last) j) (own_at xs ps os cs₀ n d h j) (from_here j)) ∙ step_on v (get_or xs d 0) (drop (d + 1) xs);
        size = omega arith;
        long = length-set cs d 0 ∙ c.long;
        ones = λ j l b. get_or-set_other cs d j 0 0 (λ q. omega arith) ∙ c.ones j (omega arith) b;
        last = rw (add-one d);
        cap = omega arith;
        count = omega arith;
      }

  pub count_over : skip < length (trails_up_to (get_or xs d 0 - 1) (length xs - d) (rising os) v (pairs_of ps os cs)) → 4096 ≡ trail_number xs
  unfolding trail_number
  count_over p =
      let g = c.cap in
      let e = counted in
      omega arith

pub count_end : {xs ps os cs : List ℕ} {v skip d : ℕ} → length xs ≤ d → Counting xs ps os cs v skip d → 4096 - skip ≡ trail_number xs
unfolding trail_number
count_end {xs} {ps} {os} {cs} {v} {skip} {d} h c =
    let none : drop d xs ≡ [] = drop_of_length-le xs {i = d} h in
    let zero_left : length xs - d ≡ 0 = omega arith in
    let e : (4096 - skip) + count_before [] (trails_from 0 (rising os) v (pairs_from v [])) ≡ count_before xs (trails_like xs) =
    (λ j. (4096 - skip) + count_before (sym none j) (trails_from (sym zero_left j) (rising os) v (pairs_from v (sym none j)))) ∙ c.count in
    let z : count_before [] (trails_from 0 (rising os) v (pairs_from v [])) ≡ 0 = empty-first (rising os) v (pairs_from v []) in
    omega arith
  where
    empty-first : (ids : List ℕ) (v : ℕ) (pairs : Multiset) → count_before [] (trails_from 0 ids v pairs) ≡ 0
    empty-first ids v pairs = unfold count_before trails_from before in refl
