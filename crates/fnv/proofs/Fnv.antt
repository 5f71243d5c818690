-- Laws of FNV-1a: a block's id is never 0 and has 64 bits.
use Rattle.std.proofs.Common.{Bool, true, false, cond, List, [], ◌∷◌, ◌≡◌, ◌≢◌, refl, ℕ, ◌<◌, arith}
use native.Mathlib.Nat.{mod-lt}
use borrow.Author.Tests.{eqb-false}
use lib.Dec.{eqb}
use Rattle.fnv.specs.Fnv.{next_hash, hash_onward, hash_of, id_of_block}

id_nonzero : (h : ℕ) (t : Bool) → eqb h 0 ≡ t → cond t 1 h ≢ 0
id_nonzero h true e z = omega arith
id_nonzero h false e z = eqb-false h 0 e z

-- A block's id is never 0, so 0 can stand for 'none'.
pub block_id_nonzero : (bytes : List ℕ) → id_of_block bytes ≢ 0
unfolding id_of_block
block_id_nonzero bytes = id_nonzero (hash_of bytes) (eqb (hash_of bytes) 0) refl

pub hash_small : (h : ℕ) (bytes : List ℕ) → h < 18446744073709551616 → hash_onward h bytes < 18446744073709551616
unfolding hash_onward next_hash
hash_small h [] k = k
hash_small h (b ∷ bytes) k = hash_small (next_hash h b) bytes (mod-lt _ (omega arith))

id_small : (h : ℕ) (t : Bool) → h < 18446744073709551616 → cond t 1 h < 18446744073709551616
id_small h true k = omega arith
id_small h false k = k

-- A block's id has 64 bits.
pub block_id_small : (bytes : List ℕ) → id_of_block bytes < 18446744073709551616
unfolding id_of_block
block_id_small bytes = id_small (hash_of bytes) (eqb (hash_of bytes) 0) (hash_small 14695981039346656037 bytes (omega arith))
