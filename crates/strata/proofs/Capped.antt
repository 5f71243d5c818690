-- The stratum of a shingle, one of sixteen.
use mathlib.Core.Path.{◌≡◌, ap, ◌∙◌}
use Prim.Native.Nat.{ℕ, ◌<◌}
use native.Mathlib.Omega.{arith}
use Rattle.shingle.specs.declared.Shingle.{Shingle}
use Rattle.sketch.specs.Cells.{tag_of}
use Rattle.strata.specs.Strata.{stratum_from, stratum_of}

pub of_tag : (s : Shingle) (hash r : ℕ) → hash ≡ tag_of 3 s → r ≡ stratum_from hash → r ≡ stratum_of s
unfolding stratum_of
of_tag s hash r e f = f ∙ ap stratum_from e

-- A stratum is one of sixteen.
pub one_of_sixteen : (s : Shingle) → stratum_of s < 16
unfolding stratum_of stratum_from
one_of_sixteen s = omega arith

pub below_sixteen : (s : Shingle) (i : ℕ) → i ≡ stratum_of s → i < 16
below_sixteen s i e = omega (arith, one_of_sixteen s)
