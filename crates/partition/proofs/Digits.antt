-- The digits of bytes: each is that of its byte.
use mathlib.Core.List.{List, [], ◌∷◌, map}
use mathlib.Core.Path.{◌≡◌, refl}
use Prim.Native.Nat.{ℕ, zero, suc, ◌<◌}
use native.Mathlib.Nat.{not-suc-le-zero, le_of_suc-le-suc}
use lib.ListN.{length, get_or}
use Rattle.spread.specs.Spreading.{spread_of}

pub digit_at : (bytes : List ℕ) (i : ℕ) → i < length bytes → get_or (map spread_of bytes) i 0 ≡ spread_of (get_or bytes i 0)
digit_at [] i l = absurd (not-suc-le-zero l)
digit_at (b ∷ bytes) zero l = refl
digit_at (b ∷ bytes) (suc i) l = digit_at bytes i (le_of_suc-le-suc l)
