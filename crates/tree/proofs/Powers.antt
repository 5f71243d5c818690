-- Powers of a fan-out are small: at most 8 to the power 4.
use Prim.Native.Nat.{ℕ, ◌*◌, ◌^◌, ◌≤◌, ◌<◌}
use native.Mathlib.Nat.{pow-zero, pow-le-pow_left, pow-le-pow_right, le_trans, mul-le-mul}
use native.Mathlib.Omega.{arith}

pub power_small : {base exponent : ℕ} → base ≤ 8 → exponent ≤ 4 → base ^ exponent ≤ 4096
power_small {base} {exponent} b e = le_trans (pow-le-pow_left b exponent) (pow-le-pow_right {n = 8} (omega arith) e)

pub power_positive : {base : ℕ} (exponent : ℕ) → 1 ≤ base → 0 < base ^ exponent
power_positive {base} exponent b = rw pow-zero at (pow-le-pow_right {n = base} b {i = 0} {j = exponent} (omega arith))

-- The modulus of a level fits: a window times such a power.
pub product_small : {window power : ℕ} → window ≤ 12 → power ≤ 4096 → window * power ≤ 49152
product_small w p = mul-le-mul w p
