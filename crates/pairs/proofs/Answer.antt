-- The places of what is kept, then those of what is new: the answer is that of both lists, one after the other.
use mathlib.Core.Bool.{Bool, false}
use mathlib.Core.List.{List, [], ◌++◌}
use mathlib.Core.Path.{◌≡◌, ap, ap₂, ◌∙◌}
use Prim.Native.Nat.{ℕ, ◌+◌, ◌/◌, ◌≤◌, ◌<◌}
use native.Mathlib.Omega.{arith}
use borrow.Author.Tests.{le-leb, lt-leb}
use lib.ListN.{length, take}
use Rattle.rows.specs.Rows.{words_of}
use Rattle.entries.specs.Entries.{entries_of}
use Rattle.shingle.specs.declared.Shingle.{Shingle}
use Rattle.shingle.specs.Table.{shingles_from, shingles_in}
use Rattle.sketch.specs.Opening.{kept, no_pair_twice}
use Rattle.pairs.specs.Once.{few_once}
use Rattle.pairs.specs.Places.{both_of, entries_at, shingles_at, Noted}
use Rattle.pairs.proofs.At.{first_stands, second_stands}
use Rattle.pairs.proofs.Twice.{kept_all}

module _ (new gone own p₀ p₁ p₂ : List ℕ) (m n : ℕ) (one : Noted gone own 0 0 p₀ p₁ m) (two : Noted [] new (length own / 24) m p₁ p₂ n) where
  all_new : kept (shingles_in []) (shingles_in new) ≡ shingles_in new
  unfolding shingles_in words_of entries_of shingles_from
  all_new = kept_all (shingles_in new)

  number : n ≡ length (kept (shingles_in gone) (shingles_in own)) + length (shingles_in new)
  number = omega (arith, one.number, two.number, ap length all_new)

  pub too_many : 4096 < n → false ≡ few_once (shingles_in new) (shingles_in gone) (shingles_in own)
  unfolding few_once
  too_many h = rw (lt-leb (length (kept (shingles_in gone) (shingles_in own)) + length (shingles_in new)) 4096 (omega (arith, number)))

  both_lists : n ≤ length p₀ → shingles_at (both_of own new) (take n p₂) ≡ kept (shingles_in gone) (shingles_in own) ++ shingles_in new
  unfolding entries_at
  both_lists h =
      let es = both_of own new in
      let long = one.long in
      two.places es (second_stands own new) (omega arith)
      ∙ ap₂ (λ (a b : List Shingle). a ++ b) (one.places es (first_stands own new) (omega (arith, number, one.number))) all_new

  pub few : n ≤ 4096 → length p₀ ≡ 4096 → (r : Bool) → r ≡ no_pair_twice (shingles_at (both_of own new) (take n p₂))
      → r ≡ few_once (shingles_in new) (shingles_in gone) (shingles_in own)
  unfolding few_once
  few h long r e =
      rw (le-leb (length (kept (shingles_in gone) (shingles_in own)) + length (shingles_in new)) 4096 (omega (arith, number)))
      (e ∙ ap no_pair_twice (both_lists (omega arith)))
