-- Rows of zeros behind a table of pairs change none of its trails.
use mathlib.Core.Bool.{Bool, true, false, cond, ◌&&◌}
use mathlib.Core.List.{List, [], ◌∷◌, ◌++◌}
use mathlib.Core.Path.{◌≡◌, refl, fun_ext, subst, ◌∙◌}
use Prim.Native.Nat.{ℕ, zero, suc, ◌+◌, ◌-◌}
use native.Mathlib.Omega.{arith}
use lib.Dec.{eqb}
use lib.ListN.{length, replicate}
use Rattle.trail.specs.Trails.{Multiset, tally, pairs_of, total, rising, trails_from, trails_over}
use Rattle.trail.proofs.Ids.{rising_up}
use Rattle.trail.proofs.Tally.{Sized}
use Rattle.trail.proofs.Trails.{Covers}
use Rattle.trail.proofs.Weigh.{any_ids, owns_cover}
use Rattle.composition.specs.Table.{padded}

-- n rows of zeros.
abbrev zeros : ℕ → List ℕ
zeros n = replicate n 0

tally-zeros : (test : ℕ → ℕ → Bool) (n : ℕ) → tally test (zeros n) (zeros n) (zeros n) ≡ 0
unfolding tally
tally-zeros test zero = refl
tally-zeros test (suc n) = let h = tally-zeros test n in choose (test 0 0) h
  where
    choose : (b : Bool) → tally test (zeros n) (zeros n) (zeros n) ≡ 0 → cond b 0 0 + tally test (zeros n) (zeros n) (zeros n) ≡ 0
    choose true h = omega arith
    choose false h = omega arith

tally_behind : (test : ℕ → ℕ → Bool) (ps os cs : List ℕ) (n : ℕ) → length ps ≡ length cs → length os ≡ length cs
    → tally test (ps ++ zeros n) (os ++ zeros n) (cs ++ zeros n) ≡ tally test ps os cs
unfolding tally
tally_behind test [] [] [] n e f = tally-zeros test n
tally_behind test [] [] (c ∷ cs) n e f = absurd (omega arith)
tally_behind test [] (o ∷ os) [] n e f = absurd (omega arith)
tally_behind test [] (o ∷ os) (c ∷ cs) n e f = absurd (omega arith)
tally_behind test (p ∷ ps) [] [] n e f = absurd (omega arith)
tally_behind test (p ∷ ps) [] (c ∷ cs) n e f = absurd (omega arith)
tally_behind test (p ∷ ps) (o ∷ os) [] n e f = absurd (omega arith)
tally_behind test (p ∷ ps) (o ∷ os) (c ∷ cs) n e f = rw (tally_behind test ps os cs n (omega arith) (omega arith))

total_behind : (cs : List ℕ) (n : ℕ) → total (cs ++ zeros n) ≡ total cs
unfolding total
total_behind [] zero = refl
total_behind [] (suc n) = let h = total_behind [] n in omega arith
total_behind (c ∷ cs) n = rw (total_behind cs n)

module _ (ps os cs : List ℕ) (n : ℕ) (e : length ps ≡ length cs) (f : length os ≡ length cs) where
  pairs_behind : pairs_of (ps ++ zeros n) (os ++ zeros n) (cs ++ zeros n) ≡ pairs_of ps os cs
  unfolding pairs_of
  pairs_behind = fun_ext (λ u. fun_ext (λ w. tally_behind (λ p o. eqb p u && eqb o w) ps os cs n e f))

  trails_behind : trails_over (ps ++ zeros n) (os ++ zeros n) (cs ++ zeros n) ≡ trails_over ps os cs
  unfolding trails_over
  trails_behind =
      (λ i. trails_from (total_behind cs n i) (rising (os ++ zeros n)) 0 (pairs_behind i))
      ∙ any_ids (rising (os ++ zeros n)) (rising os) 0 sized (rising_up (os ++ zeros n))
      (subst (λ (pairs : Multiset). Covers (rising (os ++ zeros n)) pairs) pairs_behind (owns_cover (ps ++ zeros n) (os ++ zeros n) (cs ++ zeros n)))
      (rising_up os) (owns_cover ps os cs)
    where
      sized : Sized (total cs) (pairs_of ps os cs)
      sized = record { previouses = ps; owns = os; counts = cs; long = (e, f); gives = refl; size = refl }

-- Padded to 32 rows.
pub total-padded : (cs : List ℕ) → total (padded cs) ≡ total cs
unfolding padded
total-padded cs = total_behind cs (32 - length cs)

pub trails_padded : (ps os cs : List ℕ) → length ps ≡ length cs → length os ≡ length cs
    → trails_over (padded ps) (padded os) (padded cs) ≡ trails_over ps os cs
unfolding padded
trails_padded ps os cs e f = rw (e, f) (trails_behind ps os cs (32 - length cs) e f)
