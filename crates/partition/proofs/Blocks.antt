-- The blocks between cuts: joined again they are the bytes, and there is one more of them than cuts.
use mathlib.Core.List.{List, [], ◌∷◌, ◌++◌, append-nil, flatten}
use mathlib.Core.Path.{◌≡◌, refl, sym, ap, ◌∙◌}
use Prim.Native.Nat.{ℕ, suc, ◌+◌, ◌-◌, ◌≤◌}
use native.Mathlib.Nat.{add-zero}
use native.Mathlib.Omega.{arith}
use lib.ListN.{length, take, drop, take-append-drop}
use lib.Seq.{drop-drop}
use Rattle.partition.specs.Blocks.{blocks_from, blocks_of}
use Rattle.partition.specs.Cuts.{cuts_of}
use Rattle.partition.specs.Apart.{Apart, none, cut}
use Rattle.partition.proofs.Placed.{cuts_rise, cuts_few}

joined : {from to : ℕ} {cs : List ℕ} (bytes : List ℕ) → Apart 0 from cs to → flatten (blocks_from from cs bytes) ≡ drop from bytes
unfolding flatten blocks_from
joined {from} bytes none = append-nil (drop from bytes)
joined {from} bytes (cut {c = c} low high rest) =
    let e : from + (c - from) ≡ c = omega arith in
    ap (λ (xs : List ℕ). take (c - from) (drop from bytes) ++ xs)
    ((rw add-zero at (joined bytes rest))
    ∙ sym (drop-drop (c - from) from bytes ∙ ap (λ (n : ℕ). drop n bytes) e))
    ∙ take-append-drop (c - from) (drop from bytes)

counted : (from : ℕ) (cs bytes : List ℕ) → length (blocks_from from cs bytes) ≡ suc (length cs)
unfolding blocks_from
counted from [] bytes = refl
counted from (c ∷ cs) bytes = ap suc (counted c cs bytes)

module _ (w h s : ℕ) (bytes : List ℕ) where
  pub blocks_join : flatten (blocks_of w h s bytes) ≡ bytes
  unfolding blocks_of
  blocks_join = joined bytes (cuts_rise w h s bytes)

  pub blocks_count : length (blocks_of w h s bytes) ≡ suc (length (cuts_of w h s bytes))
  unfolding blocks_of
  blocks_count = counted 0 (cuts_of w h s bytes) bytes

  pub blocks_some : 1 ≤ length (blocks_of w h s bytes)
  blocks_some = omega (arith, blocks_count)

  pub blocks_few : length (blocks_of w h s bytes) ≤ 32
  blocks_few = omega (arith, blocks_count, cuts_few w h s bytes)
