-- The scan for the row with the least id, one row further.
use mathlib.Core.Path.{◌≡◌, refl}
use mathlib.Core.List.{List}
use Prim.Native.Nat.{ℕ, ◌+◌, ◌<◌, ◌≤◌}
use native.Mathlib.Omega.{arith}
use native.Mathlib.Decide.{dec_lt}
use borrow.Author.Count.{below_more}
use lib.ListN.{get_or}
use Rattle.std.specs.Prelude.{Option, Some, None, IfSome}
use Rattle.trail.specs.Search.{Leads, Least}

-- Of the first n rows, of which there are 32, that lead on, row `best` leads to the least id, `limit`; where there is none, `limit` is top.
pub record Scanned (ps os cs : List ℕ) (v low top n : ℕ) (best : Option ℕ) (limit : ℕ) : Type 0 where
  pub row : IfSome best (λ r. (r < 32) × Leads ps os cs v low top r × (get_or os r 0 ≡ limit))
  pub fresh : best ≡ None → limit ≡ top
  pub least : (j : ℕ) → j < n → j < 32 → Leads ps os cs v low top j → (best ≡ None → ⊥) × (limit ≤ get_or os j 0)
  pub bound : limit ≤ top

module _ {ps os cs : List ℕ} {v low top : ℕ} where
  pub scan_start : Scanned ps os cs v low top 0 None top
  scan_start = record { row = tt; fresh = λ h. refl; least = λ j h g l. absurd (omega arith); bound = omega arith }

  pub scan_pass : {n limit : ℕ} {best : Option ℕ} → n < 32 → Scanned ps os cs v low top n best limit → Leads ps os cs v low limit n →
      Scanned ps os cs v low top (n + 1) (Some n) (get_or os n 0)
  scan_pass {n} {limit} {best} h s l =
      let b = s.bound in
      let u = l.below in
      let lead : Leads ps os cs v low top n = record { leaves = l.leaves; unused = l.unused; above = l.above; below = omega arith } in
      record {
        row = (h, lead, refl);
        fresh = λ e. cc;
        least = below_more _ n (λ j g k m. (λ e. cc, let z = (s.least j g k m).1 in omega arith)) (λ k m. (λ e. cc, omega arith));
        bound = omega arith;
      }

  pub scan_fail : {n limit : ℕ} {best : Option ℕ} → Scanned ps os cs v low top n best limit → (Leads ps os cs v low limit n → ⊥) →
      Scanned ps os cs v low top (n + 1) best limit
  scan_fail {n} {limit} {best} s f =
      record { row = s.row; fresh = s.fresh; least = below_more _ n s.least (λ k m. (some m, here m)); bound = s.bound }
    where
      closer : Leads ps os cs v low top n → get_or os n 0 ≤ limit → ⊥
      closer m g = f (record { leaves = m.leaves; unused = m.unused; above = m.above; below = g })

      some : Leads ps os cs v low top n → best ≡ None → ⊥
      some m h = closer m (let e = s.fresh h in let b = m.below in omega arith)

      here : Leads ps os cs v low top n → limit ≤ get_or os n 0
      here m = elim (dec_lt (get_or os n 0) limit) [ yes g ↦ absurd (closer m (omega arith)) | no g ↦ omega arith ]

  pub scan_done : {n limit : ℕ} (best : Option ℕ) → 32 ≤ n → Scanned ps os cs v low top n best limit → Least ps os cs v low top 32 best
  scan_done None g s = record { row = tt; least = λ j h l. (s.least j (omega arith) h l).0 refl }
  scan_done (Some r) g s =
      let m = s.row in
      let e = m.2 in
      record { row = (m.0, m.1); least = λ j h l. let z = (s.least j (omega arith) h l).1 in omega arith }
