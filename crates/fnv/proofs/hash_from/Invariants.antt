-- The loop has hashed the bytes before its index: what is left to hash from its value gives the whole hash.
use Rattle.std.proofs.Common.{◌≡◌, drop}
use Rattle.fnv.specs.Fnv.{hash_onward}
use Rattle.fnv.proofs.hash_from.Given as goal

abbrev pub invariant-loop-byte : goal.invariant-loop-byte
invariant-loop-byte l = hash_onward l.value (drop l.byte-index l.bytes) ≡ hash_onward l.h l.bytes
