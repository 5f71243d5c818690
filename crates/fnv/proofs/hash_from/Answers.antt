use Rattle.std.proofs.Common.{◌≡◌, List, ℕ, ◌+◌, ◌≤◌, ◌<◌, length, get_or, drop, drop-cons, add-one, rules}
use lib.ListN.{drop_of_length-le}
use Rattle.fnv.specs.Fnv.{next_hash, hash_onward}
use Rattle.fnv.proofs.hash_from.Goals as goal

one_more : (all value next i : ℕ) (bytes : List ℕ) → i < length bytes → next ≡ next_hash value (get_or bytes i 0) → hash_onward value (drop i bytes) ≡ all
    → hash_onward next (drop (i + 1) bytes) ≡ all
unfolding hash_onward
one_more all value next i bytes h e inv = rw (add-one, e) (rw (drop-cons bytes i 0 h) at inv)

at-end : (all value i : ℕ) (bytes : List ℕ) → length bytes ≤ i → hash_onward value (drop i bytes) ≡ all → value ≡ all
unfolding hash_onward
at-end all value i bytes h inv = rw (drop_of_length-le bytes h) at inv

pub loop-byte-preserved : goal.loop-byte-preserved
loop-byte-preserved c = one_more _ _ _ c.loop-byte.byte-index c.args.bytes.now (search rules) c.hash_step-value.ensures c.loop-byte.invariant

pub returns : goal.returns
returns c = at-end _ _ c.loop-byte.byte-index c.args.bytes.now (search rules) c.loop-byte.invariant
