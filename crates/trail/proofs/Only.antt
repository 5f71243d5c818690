-- Whether a trail is the only one: what a search that skips one trail says of it, and that both ends judge alike.
use mathlib.Core.Bool.{true}
use mathlib.Core.List.{List}
use mathlib.Core.Path.{◌≡◌, sym, ap, ◌∙◌}
use Prim.Native.Nat.{ℕ, ◌<◌}
use native.Mathlib.Omega.{arith}
use borrow.Author.Tests.{eq-eqb, ne_eqb, eqb-true}
use lib.Dec.{eqb}
use lib.ListN.{length}
use Rattle.trail.specs.Trails.{pairs_from, pairs_of, trails_over, trail_number, only_trail, only_over}
use Rattle.std.specs.Prelude.{Result, Ok, Err, is_err}
use Rattle.trail.specs.Search.{Answer, Numberable}
use Rattle.trail.proofs.Orders.{same_trails, number_listed}
use Rattle.trail.proofs.Ranking.{columns, pairs_first}

module _ (ps os cs : List ℕ) where
  -- Where there is a trail, it has another exactly if a search that skips one finds one.
  pub another : (k : ℕ) (owns : List ℕ) (r : Result (List ℕ) ℕ) → 0 < length (trails_over ps os cs) →
      Answer (trails_over ps os cs) k 1 owns r → is_err r ≡ only_over ps os cs
  unfolding only_over
  another k owns (Ok rows) there f = let l = f.there in sym (ne_eqb (length (trails_over ps os cs)) 1 (λ e. omega arith))
  another k owns (Err left) there p = sym (eq-eqb (length (trails_over ps os cs)) 1 (omega arith))

  module _ (long : (length ps ≡ length cs) × (length os ≡ length cs)) (xs : List ℕ) (pairs : pairs_from 0 xs ≡ pairs_of ps os cs) where
    -- Over the pairs of an order and over any table that gives them there are the same trails: sender and receiver judge alike.
    pub only_alike : only_trail xs ≡ only_over ps os cs
    unfolding only_trail only_over
    only_alike = ap (λ (list : List (List ℕ)). eqb (length list) 1) (same_trails ps os cs long xs pairs)

    -- The only trail is the first: it needs no number.
    pub only_first : only_trail xs ≡ true → trail_number xs ≡ 0
    unfolding only_over
    only_first e =
        let one = eqb-true (length (trails_over ps os cs)) 1 (sym only_alike ∙ e) in
        omega (arith, one, number_listed ps os cs long xs pairs)

-- Over the table of an order's own pairs: its number is a trail's, and it is the only one exactly if the table has one trail.
module _ {xs ps os cs : List ℕ} (n : Numberable xs ps os cs) where
  long : (length ps ≡ length cs) × (length os ≡ length cs)
  long = let w = columns xs ps os cs n in (w.previous ∙ sym w.count, w.own ∙ sym w.count)

  pub own_number : trail_number xs < length (trails_over ps os cs)
  own_number = number_listed ps os cs long xs (sym (pairs_first xs ps os cs n))

  pub own_only : only_trail xs ≡ only_over ps os cs
  own_only = only_alike ps os cs long xs (sym (pairs_first xs ps os cs n))
