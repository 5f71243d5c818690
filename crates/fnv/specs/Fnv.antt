-- FNV-1a with 64 bits, and the block id: document 01, 'Settings and tree', the paragraph "Block id".
use Rattle.std.specs.Prelude.{cond, List, [], ◌∷◌, ℕ, ◌*◌, ◌%◌, ◌^◌, eqb}
use Rattle.std.specs.Int.Bits.{bit_xor}

-- "prime 1099511628211, multiplication modulo 2^64"
abbrev pub prime_multiple : ℕ → ℕ
prime_multiple x = x * 1099511628211 % 2 ^ 64

-- One byte more: exclusive or with the byte, then times the prime.
unfoldable pub next_hash : ℕ → ℕ → ℕ
next_hash h b = prime_multiple (bit_xor b h)

-- The hash of bytes, going on from the value h.
unfoldable pub hash_onward : ℕ → List ℕ → ℕ
hash_onward h [] = h
hash_onward h (b ∷ bs) = hash_onward (next_hash h b) bs

-- "64-bit FNV-1a of its bytes (basis 14695981039346656037, ..)"
abbrev pub hash_of : List ℕ → ℕ
hash_of bytes = hash_onward 14695981039346656037 bytes

-- "if that is 0, the id is 1"
abbrev pub id_of_hash : ℕ → ℕ
id_of_hash h = cond (eqb h 0) 1 h

-- "Block id: 64-bit FNV-1a of its bytes ..; if that is 0, the id is 1."
unfoldable pub id_of_block : List ℕ → ℕ
id_of_block bytes = id_of_hash (hash_of bytes)
