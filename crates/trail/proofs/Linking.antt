-- Laws of linked rows: how a table of links is filled, and how a scan goes on from link to link.
use mathlib.Core.Path.{◌≡◌, refl, sym, ap, subst, ◌∙◌}
use mathlib.Core.List.{List, [], ◌∷◌, ◌++◌}
use Prim.Native.Nat.{ℕ, zero, suc, ◌+◌, ◌-◌, ◌<◌, ◌≤◌}
use native.Mathlib.Omega.{arith}
use native.Mathlib.Decide.{dec_lt}
use borrow.Author.Count.{below_more}
use lib.ListN.{length, get_or, set, take, drop, replicate, length-set, length-map}
use lib.Seq.{get_or-set_same, get_or-set_other}
use Rattle.trail.specs.Search.{Following, Firsts, Afters, Missed, Clear, led}
use Rattle.std.specs.Prelude.{Option, None}
use Rattle.trail.proofs.Scan.{Scanned, scan_start}
use Rattle.trail.proofs.Fill.{fill_next}

-- One place more of a list is right.
filled : (P : ℕ → ℕ → Type 0) (l : List ℕ) (i x : ℕ) → length l ≡ 32 → i < 32 → ((j : ℕ) → j < i → P j (get_or l j 0)) → P i x → (j : ℕ) → j < i + 1 → P j (get_or (set l i x) j 0)
filled P l i x e h all here =
    below_more (λ j. P j (get_or (set l i x) j 0)) i (λ j g. subst (λ (y : ℕ). P j y) (sym (get_or-set_other l i j x 0 (λ q. omega arith))) (all j g))
    (subst (λ (y : ℕ). P i y) (sym (get_or-set_same l i x 0 (omega arith))) here)

pub firsts_more : (ps os fs : List ℕ) (i x : ℕ) → i < 32 → Firsts ps os fs i → Following ps (get_or os i 0) 0 x → Firsts ps os (set fs i x) (i + 1)
firsts_more ps os fs i x h f g = record { long = length-set fs i x ∙ f.long; each = filled (λ j y. Following ps (get_or os j 0) 0 y) fs i x f.long h f.each g }

pub afters_more : (ps ls : List ℕ) (i x : ℕ) → i < 32 → Afters ps ls i → Following ps (get_or ps i 0) (i + 1) x → Afters ps (set ls i x) (i + 1)
afters_more ps ls i x h f g = record { long = length-set ls i x ∙ f.long; each = filled (λ j y. Following ps (get_or ps j 0) (j + 1) y) ls i x f.long h f.each g }

module _ {ps os cs : List ℕ} {v low top limit : ℕ} {best : Option ℕ} where
  -- The scan passes over rows that do not leave v.
  scan_over : (n m : ℕ) → ((j : ℕ) → j < m → n ≤ j → j < 32 → get_or ps j 0 ≡ v → ⊥) → Scanned ps os cs v low top n best limit → Scanned ps os cs v low top m best limit
  scan_over n m f s =
      record {
        row = s.row;
        fresh = s.fresh;
        least = λ j g h l. elim (dec_lt j n) [ yes q ↦ s.least j q h l | no q ↦ absurd (f j g (omega arith) h l.leaves) ];
        bound = s.bound;
      }

  -- Row n, which leaves v, is done: the next one is the row linked to it.
  pub scan_link : (ls : List ℕ) (n : ℕ) → n < 32 → Afters ps ls 32 → get_or ps n 0 ≡ v → Scanned ps os cs v low top (n + 1) best limit →
      Scanned ps os cs v low top (get_or ls n 0) best limit × (get_or ls n 0 < 32 → get_or ps (get_or ls n 0) 0 ≡ v)
  scan_link ls n h a e s =
      let f = a.each n h in
      (scan_over (n + 1) (get_or ls n 0) (λ j g b l q. f.none j g b l (q ∙ sym e)) s, λ g. f.here g ∙ e)

pub scan_from : {ps os cs : List ℕ} {v low top : ℕ} (from : ℕ) → Following ps v 0 from → Scanned ps os cs v low top from None top × (from < 32 → get_or ps from 0 ≡ v)
scan_from from f = (scan_over 0 from f.none scan_start, f.here)

-- Row n, which leaves id, is not missed, nor is a row before it that leaves id: on to the row linked to it.
pub clear_link : (ps ls cs : List ℕ) (ms id n : ℕ) → n < 32 → Afters ps ls 32 → (Missed cs ms n → ⊥) → Clear ps cs ms id n × (n < 32 → get_or ps n 0 ≡ id) →
    Clear ps cs ms id (get_or ls n 0) × (get_or ls n 0 < 32 → get_or ps (get_or ls n 0) 0 ≡ id)
clear_link ps ls cs ms id n h a f c =
    let l = a.each n h in
    (λ j g b m e. elim (dec_lt j n) [ yes q ↦ c.0 j q b m e | no q ↦ elim (dec_lt n j) [ yes r ↦ l.none j g (omega arith) b (e ∙ sym (c.1 h)) | no r ↦ here j m (omega arith) ] ], λ g. l.here g ∙ c.1 h)
  where
    here : (j : ℕ) → Missed cs ms j → j ≡ n → ⊥
    here j m e = f (subst (λ (z : ℕ). Missed cs ms z) e m)

-- The ids that rows lead to, place by place.
pub led_long : (os rows : List ℕ) → length (led os rows) ≡ length rows
unfolding led
led_long os rows = length-map rows (λ (i : ℕ). get_or os i 0)

pub led-set : (os rows : List ℕ) (at row : ℕ) → set (led os rows) at (get_or os row 0) ≡ led os (set rows at row)
unfolding led
led-set os [] at row = refl
led-set os (r ∷ rows) zero row = refl
led-set os (r ∷ rows) (suc at) row = ap (λ (l : List ℕ). get_or os r 0 ∷ l) (led-set os rows at row)

pub led_at : (os rows : List ℕ) (at : ℕ) → at < length rows → get_or (led os rows) at 0 ≡ get_or os (get_or rows at 0) 0
unfolding led
led_at os [] at h = absurd (omega arith)
led_at os (r ∷ rows) zero h = refl
led_at os (r ∷ rows) (suc at) h = led_at os rows at (omega arith)

pub led_drop : (os rows : List ℕ) (n : ℕ) → led os (drop n rows) ≡ drop n (led os rows)
unfolding led
led_drop os rows zero = refl
led_drop os [] (suc n) = refl
led_drop os (r ∷ rows) (suc n) = led_drop os rows n

-- One id more at the front.
pub led_next : (os rows moved : List ℕ) (i x : ℕ) → x ≡ get_or os (get_or rows i 0) 0 → length rows ≤ 32 → i < length rows →
    moved ≡ take i (led os rows) ++ replicate (32 - i) 0 → set moved i x ≡ take (i + 1) (led os rows) ++ replicate (32 - (i + 1)) 0
led_next os rows moved i x e few h g =
    let l = led_long os rows in
    ap (λ (y : ℕ). set moved i y) (e ∙ sym (led_at os rows i h)) ∙ fill_next moved (led os rows) 32 i (omega arith) (omega arith) g
