-- A sequence and a table with the same pairs weigh the same, whatever is weighed; so a trail has as many ids as the counts add up to,
-- and the list of trails does not depend on which ids are tried.
use mathlib.Core.Bool.{Bool, true, false, cond, ◌&&◌}
use mathlib.Core.List.{List, [], ◌∷◌, ◌++◌, Memᴰ}
use mathlib.Core.Path.{◌≡◌, refl, sym, ap, fun_ext, subst, ◌∙◌}
use Prim.Native.Nat.{ℕ, zero, suc, ◌+◌, ◌-◌, ◌<◌}
use native.Mathlib.Omega.{arith}
use lib.Dec.{eqb}
use lib.ListN.{length, get_or, set, take, replicate}
use Rattle.trail.specs.Trails.{Multiset, single, pairs_from, without, tally, pairs_of, total, rising, trails_from}
use Rattle.trail.proofs.Every.{Every, every_member, Rising, empty, first}
use Rattle.trail.proofs.Ids.{Up, rising_has}
use Rattle.trail.proofs.Inverse.{asymmetric}
use Rattle.trail.proofs.Tally.{same_pair, tally-set, Row, some_row, PairRow, pair_row, row_pair, tally-total, without_row, Sized}
use Rattle.trail.proofs.Trails.{step_on, step_there, sound, complete, Covers, Before, trails_rise}

-- How many pairs of a sequence pass a test.
unfoldable pub passing : (ℕ → ℕ → Bool) → ℕ → List ℕ → ℕ
passing test v [] = 0
passing test v (x ∷ xs) = cond (test v x) 1 0 + passing test x xs

pairs_passing : (v : ℕ) (xs : List ℕ) (u w : ℕ) → passing (λ p o. eqb p u && eqb o w) v xs ≡ pairs_from v xs u w
unfolding passing pairs_from single
pairs_passing v [] u w = refl
pairs_passing v (x ∷ xs) u w = ap (λ (n : ℕ). cond (eqb v u && eqb x w) 1 0 + n) (pairs_passing x xs u w)

-- No pairs, nothing to weigh.
tally_none : (test : ℕ → ℕ → Bool) (ps os cs : List ℕ) → ((u w : ℕ) → pairs_of ps os cs u w ≡ 0) → tally test ps os cs ≡ 0
tally_none test ps os cs f = go (tally test ps os cs) refl
  where
    go : (n : ℕ) → tally test ps os cs ≡ n → n ≡ 0
    go zero e = refl
    go (suc n) e =
        let r : Row test ps os cs = some_row test ps os cs (omega arith) in
        let h = row_pair ps os cs r.at r.low.0 r.low.1 r.low.2 in
        let z = f (get_or ps r.at 0) (get_or os r.at 0) in
        let l = r.left in
        absurd (omega arith)

none_from : (v : ℕ) (pairs : Multiset) → pairs_from v [] ≡ pairs → (u w : ℕ) → pairs u w ≡ 0
unfolding pairs_from
none_from v pairs e u w = subst (λ (f : Multiset). f u w ≡ 0) e refl

weigh_step : (b : Bool) (m n t t' : ℕ) → 0 < n → m ≡ t' → t' + cond b n 0 ≡ t + cond b (n - 1) 0 → cond b 1 0 + m ≡ t
weigh_step true m n t t' l e h = omega arith
weigh_step false m n t t' l e h = omega arith

less_row : (test : ℕ → ℕ → Bool) (ps os cs : List ℕ) (i v x : ℕ) → i < length ps → i < length os → i < length cs → get_or ps i 0 ≡ v → get_or os i 0 ≡ x →
    tally test ps os (set cs i (get_or cs i 0 - 1)) + cond (test v x) (get_or cs i 0) 0 ≡ tally test ps os cs + cond (test v x) (get_or cs i 0 - 1) 0
less_row test ps os cs i v x hp ho hc e f = rw (← e, ← f) (tally-set test ps os cs i (get_or cs i 0 - 1) hp ho hc)

pub weigh : (test : ℕ → ℕ → Bool) (v : ℕ) (xs ps os cs : List ℕ) → pairs_from v xs ≡ pairs_of ps os cs → passing test v xs ≡ tally test ps os cs
unfolding passing
weigh test v [] ps os cs e = sym (tally_none test ps os cs (none_from v (pairs_of ps os cs) e))
weigh test v (x ∷ xs) ps os cs e =
    let r : PairRow ps os cs v x = pair_row ps os cs v x (subst (λ (f : Multiset). 0 < f v x) e (step_there v x xs)) in
    let rest : pairs_from x xs ≡ pairs_of ps os (set cs r.at (get_or cs r.at 0 - 1)) =
    sym (step_on v x xs) ∙ (λ j. without (sym r.previous j) (sym r.own j) (e j)) ∙ sym (without_row ps os cs r.at r.low.0 r.low.1 r.low.2 r.left) in
    weigh_step (test v x) _ (get_or cs r.at 0) _ _ r.left (weigh test x xs ps os (set cs r.at (get_or cs r.at 0 - 1)) rest)
    (less_row test ps os cs r.at v x r.low.0 r.low.1 r.low.2 r.previous r.own)

passing-length : (v : ℕ) (xs : List ℕ) → passing (λ p o. true) v xs ≡ length xs
unfolding passing
passing-length v [] = refl
passing-length v (x ∷ xs) = let h = passing-length x xs in omega arith

-- A sequence with the pairs of a multiset of k pairs has k ids.
pub trail_length : {k : ℕ} {pairs : Multiset} (v : ℕ) (xs : List ℕ) → Sized k pairs → pairs_from v xs ≡ pairs → length xs ≡ k
trail_length v xs s e =
    sym (passing-length v xs) ∙ weigh (λ p o. true) v xs s.previouses s.owns s.counts (e ∙ sym s.gives)
    ∙ tally-total s.previouses s.owns s.counts s.long.0 s.long.1 ∙ s.size

-- Two rising lists with the same members are one.
unique : {list other : List (List ℕ)} → Rising Before list → Rising Before other →
    ((xs : List ℕ) → Memᴰ xs list → Memᴰ xs other) → ((xs : List ℕ) → Memᴰ xs other → Memᴰ xs list) → list ≡ other
unique empty empty f g = refl
unique empty (first {x = ys} h s) f g = elim (g ys (Memᴰ.head refl)) [ ]
unique (first {x = xs} h r) empty f g = elim (f xs (Memᴰ.head refl)) [ ]
unique (first {x = xs} {xs = list} h r) (first {x = ys} {xs = other} i s) f g =
    let same : xs ≡ ys = heads (f xs (Memᴰ.head refl)) (g ys (Memᴰ.head refl)) in
    λ j. same j ∷ unique r s (λ zs m. tails xs same h m (f zs (Memᴰ.tail m))) (λ zs m. tails ys (sym same) i m (g zs (Memᴰ.tail m))) j
  where
    never : (zs ws : List ℕ) → Before zs ws → Before ws zs → ⊥
    never zs ws a b = let z : ◌≡◌ {A = Bool} true false = sym b ∙ asymmetric zs ws a in let n : ◌≡◌ {A = ℕ} 0 1 = cc in omega arith

    heads : Memᴰ xs (ys ∷ other) → Memᴰ ys (xs ∷ list) → xs ≡ ys
    heads (Memᴰ.head e) n = e
    heads (Memᴰ.tail m) (Memᴰ.head e) = sym e
    heads (Memᴰ.tail m) (Memᴰ.tail n) = absurd (never ys xs (every_member i m) (every_member h n))

    tails : (ws : List ℕ) {vs zs : List ℕ} {rest more : List (List ℕ)} → ws ≡ vs → Every (λ y. Before ws y) rest → Memᴰ zs rest → Memᴰ zs (vs ∷ more) → Memᴰ zs more
    tails ws e h m (Memᴰ.head q) = absurd (let b : Before ws ws = subst (λ (z : List ℕ). Before ws z) (q ∙ sym e) (every_member h m) in never ws ws b b)
    tails ws e h m (Memᴰ.tail n) = n

-- The list of trails is the same whichever ids are tried, as long as all are there that can be entered.
pub any_ids : {k : ℕ} {pairs : Multiset} (ids others : List ℕ) (v : ℕ) → Sized k pairs → Up ids → Covers ids pairs → Up others → Covers others pairs →
    trails_from k ids v pairs ≡ trails_from k others v pairs
any_ids {k} {pairs} ids others v s up c up' c' = unique (trails_rise k v pairs up) (trails_rise k v pairs up') (over ids others c') (over others ids c)
  where
    over : (from to : List ℕ) → Covers to pairs → (xs : List ℕ) → Memᴰ xs (trails_from k from v pairs) → Memᴰ xs (trails_from k to v pairs)
    over from to c xs m =
        let e : pairs_from v xs ≡ pairs = every_member (sound k from v pairs s) m in
        subst (λ (n : ℕ). Memᴰ xs (trails_from n to v pairs)) (trail_length v xs s e) (complete to v xs pairs c e)

member_at : (l : List ℕ) (i : ℕ) → i < length l → Memᴰ (get_or l i 0) l
member_at [] i h = absurd (omega arith)
member_at (x ∷ l) zero h = Memᴰ.head refl
member_at (x ∷ l) (suc i) h = Memᴰ.tail (member_at l i (omega arith))

-- The own ids of a table are all that are entered.
pub owns_cover : (ps os cs : List ℕ) → Covers (rising os) (pairs_of ps os cs)
owns_cover ps os cs u w h = let r = pair_row ps os cs u w h in rising_has (subst (λ (z : ℕ). Memᴰ z os) r.own (member_at os r.at r.low.1))

-- The ids of a sequence are all that its pairs enter.
ids_entered : (v : ℕ) (xs : List ℕ) (u w : ℕ) → 0 < pairs_from v xs u w → Memᴰ w xs
unfolding pairs_from single
ids_entered v [] u w h = absurd (omega arith)
ids_entered v (x ∷ xs) u w h = choose (eqb v u && eqb x w) refl h (ids_entered x xs u w)
  where
    choose : (b : Bool) → (eqb v u && eqb x w) ≡ b → 0 < cond b 1 0 + pairs_from x xs u w → (0 < pairs_from x xs u w → Memᴰ w xs) → Memᴰ w (x ∷ xs)
    choose true e h f = Memᴰ.head (sym (same_pair v u x w e).1)
    choose false e h f = Memᴰ.tail (f (omega arith))

pub ids_cover : (v : ℕ) (xs : List ℕ) → Covers (rising xs) (pairs_from v xs)
ids_cover v xs u w h = rising_has (ids_entered v xs u w h)

-- The pairs of a sequence as a table: its ids, those before them, each counted once; rows of count 0 may follow.
tally_zeros : (test : ℕ → ℕ → Bool) (ps os : List ℕ) (n : ℕ) → tally test ps os (replicate n 0) ≡ 0
unfolding tally
tally_zeros test [] os n = refl
tally_zeros test (p ∷ ps) [] n = refl
tally_zeros test (p ∷ ps) (o ∷ os) zero = refl
tally_zeros test (p ∷ ps) (o ∷ os) (suc n) = let h = tally_zeros test ps os n in choose (test p o) h
  where
    choose : (b : Bool) → tally test ps os (replicate n 0) ≡ 0 → cond b 0 0 + tally test ps os (replicate n 0) ≡ 0
    choose true h = omega arith
    choose false h = omega arith

tally_chain : (test : ℕ → ℕ → Bool) (v : ℕ) (xs ps os : List ℕ) (n : ℕ) →
    tally test (take (length xs) (v ∷ xs) ++ ps) (xs ++ os) (replicate (length xs) 1 ++ replicate n 0) ≡ passing test v xs
unfolding tally passing
tally_chain test v [] ps os n = tally_zeros test ps os n
tally_chain test v (x ∷ xs) ps os n = ap (λ (m : ℕ). cond (test v x) 1 0 + m) (tally_chain test x xs ps os n)

pub pairs_chain : (v : ℕ) (xs ps os : List ℕ) (n : ℕ) →
    pairs_of (take (length xs) (v ∷ xs) ++ ps) (xs ++ os) (replicate (length xs) 1 ++ replicate n 0) ≡ pairs_from v xs
unfolding pairs_of
pairs_chain v xs ps os n = fun_ext (λ u. fun_ext (λ w. tally_chain _ v xs ps os n ∙ pairs_passing v xs u w))

pub total_chain : (k n : ℕ) → total (replicate k 1 ++ replicate n 0) ≡ k
unfolding total
total_chain zero zero = refl
total_chain zero (suc n) = let h = total_chain zero n in omega arith
total_chain (suc k) n = let h = total_chain k n in omega arith
