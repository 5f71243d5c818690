-- The numbers that bytes are replaced by: document 02, request 12.
use Rattle.std.specs.Prelude.{List, [], ◌∷◌, ◌≡◌, ℕ, ◌%◌, ◌<◌, length, get_or}
use Rattle.fnv.specs.Fnv.{hash_of}

-- "each byte b is replaced by entry b of a constant table of 256 numbers: FNV-1a of the single byte b, modulo 65,521"
unfoldable pub spread_of : ℕ → ℕ
spread_of b = hash_of (b ∷ []) % 65521

-- The table: 256 numbers, entry b that of byte b.
pub record Spreads (table : List ℕ) : Type 0 where
  pub long : length table ≡ 256
  pub each : (b : ℕ) → b < 256 → get_or table b 0 ≡ spread_of b
