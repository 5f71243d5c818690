-- A cut branch loses no trail: over a multiset that has one, no id leaves more often than it is entered (0 once more),
-- and a trail never leaves a set of ids that no unused pair leads out of.
use mathlib.Core.Bool.{Bool, true, false, cond, ◌&&◌}
use mathlib.Core.List.{List, [], ◌∷◌}
use mathlib.Core.Path.{◌≡◌, refl, sym, ap, subst, ◌∙◌}
use Prim.Native.Nat.{ℕ, ◌+◌, ◌<◌, ◌≤◌}
use native.Mathlib.Omega.{arith}
use lib.Dec.{eqb}
use lib.ListN.{length, get_or}
use borrow.Author.Tests.{eq-eqb, ne_eqb, eqb-true, eqb-false}
use Rattle.trail.specs.Trails.{Multiset, single, pairs_from, tally, pairs_of}
use Rattle.std.specs.Int.{from_bool}
use Rattle.std.specs.Prelude.{Option, Some, None, IfSome, is_some}
use Rattle.trail.specs.Search.{Columns, Following, Missed, Apart, Lost, Unbalanced}
use Rattle.trail.proofs.Tally.{same_pair, PairRow, pair_row, row_pair}
use Rattle.trail.proofs.Trails.{step_there}
use Rattle.trail.proofs.Weigh.{passing, weigh}

passing_balance : (u v : ℕ) (xs : List ℕ) → passing (λ p o. eqb p u) v xs ≤ passing (λ p o. eqb o u) v xs + cond (eqb v u) 1 0
unfolding passing
passing_balance u v [] = omega arith
passing_balance u v (x ∷ xs) = let h = passing_balance u x xs in omega arith

balance : (u v : ℕ) (xs ps os cs : List ℕ) → pairs_from v xs ≡ pairs_of ps os cs →
    tally (λ p o. eqb p u) ps os cs ≤ tally (λ p o. eqb o u) ps os cs + cond (eqb v u) 1 0
balance u v xs ps os cs e =
    let h = passing_balance u v xs in
    let p = weigh (λ p o. eqb p u) v xs ps os cs e in
    let o = weigh (λ p o. eqb o u) v xs ps os cs e in
    omega arith

-- A column weighed by itself.
tally_previous : (test : ℕ → Bool) (ps os cs : List ℕ) → length os ≡ length ps → tally (λ p o. test p) ps os cs ≡ tally (λ p o. test p) ps ps cs
unfolding tally
tally_previous test [] os cs e = refl
tally_previous test (p ∷ ps) [] cs e = absurd (omega arith)
tally_previous test (p ∷ ps) (o ∷ os) [] e = refl
tally_previous test (p ∷ ps) (o ∷ os) (c ∷ cs) e = ap (λ (n : ℕ). cond (test p) c 0 + n) (tally_previous test ps os cs (omega arith))

tally_own : (test : ℕ → Bool) (ps os cs : List ℕ) → length ps ≡ length os → tally (λ p o. test o) ps os cs ≡ tally (λ p o. test p) os os cs
unfolding tally
tally_own test [] [] cs e = refl
tally_own test [] (o ∷ os) cs e = absurd (omega arith)
tally_own test (p ∷ ps) [] cs e = refl
tally_own test (p ∷ ps) (o ∷ os) [] e = refl
tally_own test (p ∷ ps) (o ∷ os) (c ∷ cs) e = ap (λ (n : ℕ). cond (test o) c 0 + n) (tally_own test ps os cs (omega arith))

pub from_bool_le : (b : Bool) → from_bool b ≤ 1
from_bool_le true = omega arith
from_bool_le false = omega arith

-- What the test of the balance finds.
pub unbalanced : (ps os cs : List ℕ) (id leaving entering start : ℕ) → leaving ≡ tally (λ p o. eqb p id) ps ps cs → entering ≡ tally (λ p o. eqb p id) os os cs →
    start ≡ from_bool (eqb id 0) → entering + start < leaving → Unbalanced ps os cs
unbalanced ps os cs id leaving entering start l e s h = record { id = id; more = go (eqb id 0) refl s }
  where
    go : (b : Bool) → eqb id 0 ≡ b → start ≡ from_bool b → tally (λ p o. eqb p id) os os cs + cond (eqb 0 id) 1 0 < tally (λ p o. eqb p id) ps ps cs
    go true t f = rw (eq-eqb 0 id (sym (eqb-true id 0 t))) (omega arith)
    go false t f = rw (ne_eqb 0 id (λ q. eqb-false id 0 t (sym q))) (omega arith)

-- Then there is no trail.
pub unbalanced_none : (ps os cs : List ℕ) → Columns ps os cs → Unbalanced ps os cs → (xs : List ℕ) → pairs_from 0 xs ≡ pairs_of ps os cs → ⊥
unbalanced_none ps os cs long u xs e =
    let h = balance u.id 0 xs ps os cs e in
    let p = tally_previous (λ p. eqb p u.id) ps os cs (long.own ∙ sym long.previous) in
    let o = tally_own (λ p. eqb p u.id) ps os cs (long.previous ∙ sym long.own) in
    let m = u.more in
    omega arith

module _ (ps os cs : List ℕ) (marks : ℕ) (long : Columns ps os cs) where
  -- No missed row leaves u.
  abbrev Outside : ℕ → Type 0
  Outside u = (j : ℕ) → j < 32 → Missed cs marks j → get_or ps j 0 ≡ u → ⊥

  -- An unused pair leads from outside to outside.
  stays : (v₀ : ℕ) → Apart ps os cs marks v₀ 32 → (u w : ℕ) → 0 < pairs_of ps os cs u w → Outside u → Outside w
  stays v₀ a u w h out j l m e =
      let r : PairRow ps os cs u w = pair_row ps os cs u w h in
      let low : r.at < 32 = let n = r.low.2 in let c = long.count in omega arith in
      (a j l m).1 r.at low r.left (λ z. out r.at low (record { unused = r.left; unmarked = z }) r.previous) (r.own ∙ sym e)

  -- So every pair of the sequence leaves from outside.
  walks : (v₀ : ℕ) → Apart ps os cs marks v₀ 32 → (v : ℕ) (xs : List ℕ) → Outside v →
      ((u w : ℕ) → 0 < pairs_from v xs u w → 0 < pairs_of ps os cs u w) → (u w : ℕ) → 0 < pairs_from v xs u w → Outside u
  unfolding pairs_from single
  walks v₀ a v [] out f u w h = absurd (omega arith)
  walks v₀ a v (x ∷ xs) out f u w h = choose (eqb v u && eqb x w) refl h
      (walks v₀ a x xs (stays v₀ a v x (f v x (step_there v x xs)) out) (λ u w h. f u w (omega arith)) u w)
    where
      choose : (b : Bool) → (eqb v u && eqb x w) ≡ b → 0 < cond b 1 0 + pairs_from x xs u w → (0 < pairs_from x xs u w → Outside u) → Outside u
      choose true e h g = subst Outside (same_pair v u x w e).0 out
      choose false e h g = g (omega arith)

  -- A missed row that is apart from v is in no trail from v.
  pub shut_none : (v j : ℕ) → Apart ps os cs marks v 32 → j < 32 → Missed cs marks j → (xs : List ℕ) → pairs_from v xs ≡ pairs_of ps os cs → ⊥
  shut_none v j a l m xs e =
      let u = get_or ps j 0 in
      let w = get_or os j 0 in
      let n = row_pair ps os cs j (rw long.previous l) (rw long.own l) (rw long.count l) in
      let left = m.unused in
      let there : 0 < pairs_from v xs u w = subst (λ (f : Multiset). 0 < f u w) (sym e) (let z : 0 < pairs_of ps os cs u w = omega arith in z) in
      walks v a v xs (λ j l m e. (a j l m).0 e) (λ u w h. subst (λ (f : Multiset). 0 < f u w) e h) u w there j l m refl

  pub shut_lost : (v : ℕ) {from : ℕ} → Following ps v 0 from → (missed : Option ℕ) →
      IfSome missed (λ j. (j < 32) × Missed cs marks j × ((v : ℕ) → Following ps v 0 from → Apart ps os cs marks v 32)) → is_some missed ≡ true → Lost v (pairs_of ps os cs)
  shut_lost v f None m e = cc
  shut_lost v f (Some j) m e = shut_none v j (m.2 v f) m.0 m.1
