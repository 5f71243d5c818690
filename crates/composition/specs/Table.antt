-- What the parts of composing promise each other. No public contract cites these.
use Rattle.std.specs.Prelude.{true, false, List, ◌++◌, ◌≡◌, ℕ, ◌-◌, length, replicate, Option, MatchOption}
use Rattle.shingle.specs.declared.Shingle.{Shingle}
use Rattle.trail.specs.declared.Pairs.{Pairs}
use Rattle.message.specs.Words.{Ref}
use Rattle.protocol.specs.Receiver.{named, is_named, all_named, previouses, owns, counts}

abbrev pub ref : ℕ → ℕ → Ref
ref index count = record { index = index; count = count }

-- The shingle that a reference names, if it is one of those that question 17 wants.
abbrev pub Named : (list : List Shingle) (level : ℕ) (r : Ref) (looked : Option Shingle) → Type 0
Named list level r looked = MatchOption looked (is_named list level r ≡ false) (λ s. (is_named list level r ≡ true) × (s ≡ named list r))

-- A column of 32 places: numbers, and zeros after them.
unfoldable pub padded : List ℕ → List ℕ
padded xs = xs ++ replicate (32 - length xs) 0

-- The pairs of references as three columns.
pub record Columns (list : List Shingle) (refs : List Ref) (previous own count : List ℕ) : Type 0 where
  pub previous_is : previous ≡ padded (previouses list refs)
  pub own_is : own ≡ padded (owns list refs)
  pub count_is : count ≡ padded (counts refs)

-- The pairs of all references, if they are as question 17 wants them.
abbrev pub Filled : (list : List Shingle) (level : ℕ) (refs : List Ref) (filled : Option Pairs) → Type 0
Filled list level refs filled =
    MatchOption filled (all_named list level refs ≡ false)
    (λ pairs. (all_named list level refs ≡ true) × Columns list refs pairs.previous pairs.own pairs.count)
