-- A window's number, read digit by digit with the remainder taken at each step: taking it early changes nothing modulo 65,521.
use mathlib.Core.List.{List, [], ◌∷◌}
use mathlib.Core.Path.{◌≡◌, refl, sym, ap, ◌∙◌}
use Prim.Native.Nat.{ℕ, suc, ◌+◌, ◌*◌, ◌-◌, ◌/◌, ◌%◌, ◌≤◌, ◌<◌}
use native.Mathlib.Nat.{mul-add, mul_assoc, mod-mod, mod-eq_of_lt, mul-add-mod_self_right}
use native.Mathlib.Numerals.{add-one}
use native.Mathlib.Omega.{arith}
use lib.ListN.{length, get_or, take, drop}
use lib.Seq.{drop-cons}
use Rattle.partition.specs.Cuts.{number_from, window_at, value_at}

-- Taking the remainder of a factor early changes nothing modulo 65,521.
pub early_factor : (a b f : ℕ) {r : ℕ} → r ≡ f % 65521 → (a + b * r) % 65521 ≡ (a + b * f) % 65521
early_factor a b f {r} e =
    let q = f / 65521 in
    let parts : f ≡ q * 65521 + r = omega arith in
    let product : b * f ≡ b * (q * 65521) + b * r = ap (λ (y : ℕ). b * y) parts ∙ mul-add b (q * 65521) r in
    let multiple : b * (q * 65521) ≡ b * q * 65521 = sym (mul_assoc b q 65521) in
    let all : a + b * f ≡ b * q * 65521 + (a + b * r) = omega arith in
    sym (ap (λ (y : ℕ). y % 65521) all ∙ mul-add-mod_self_right (b * q) 65521 (a + b * r))

pub step : (x b : ℕ) → (x % 65521 * 257 + b) % 65521 ≡ (x * 257 + b) % 65521
step x b = omega (arith, early_factor b 257 x {r = x % 65521} refl)

early : (x : ℕ) (bs : List ℕ) → number_from (x % 65521) bs % 65521 ≡ number_from x bs % 65521
unfolding number_from
early x [] = mod-mod x 65521
early x (b ∷ bs) =
    sym (early (x % 65521 * 257 + b) bs)
    ∙ ap (λ (y : ℕ). number_from y bs % 65521) (step x b)
    ∙ early (x * 257 + b) bs

-- One of the digits from j up to `to`, and then the others.
pub read_one : (x : ℕ) (digits : List ℕ) (j to : ℕ) → j < to → to ≤ length digits
    → number_from x (take (to - j) (drop j digits)) % 65521
    ≡ number_from ((x * 257 + get_or digits j 0) % 65521) (take (to - (j + 1)) (drop (j + 1) digits)) % 65521
unfolding number_from
read_one x digits j to h k =
    let e : to - j ≡ suc (to - (j + 1)) = omega arith in
    let l : j < length digits = omega arith in
    rw (e, drop-cons digits j 0, ← add-one j) (sym (early (x * 257 + get_or digits j 0) (take (to - (j + 1)) (drop (j + 1) digits))))

-- No digit is left.
pub read_none : (x : ℕ) (digits : List ℕ) (j to : ℕ) → to ≤ j → x < 65521 → number_from x (take (to - j) (drop j digits)) % 65521 ≡ x
unfolding number_from
read_none x digits j to h k =
    let e : to - j ≡ 0 = omega arith in
    rw e (mod-eq_of_lt k)

pub window_small : (w : ℕ) (bytes : List ℕ) (i : ℕ) → window_at w bytes i < 65521
unfolding window_at
window_small w bytes i = omega arith

-- A window's value from its number.
pub value_of : (w s : ℕ) (bytes : List ℕ) (i : ℕ) {x : ℕ} → x ≡ window_at w bytes i → x % s ≡ value_at w s bytes i
unfolding value_at
value_of w s bytes i e = ap (λ (y : ℕ). y % s) e
