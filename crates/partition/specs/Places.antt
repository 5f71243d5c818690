-- What the scans promise of a block and of where they start in it. No public contract cites these.
use Rattle.std.specs.Prelude.{false, Option, Some, None, ◌≡◌, ℕ, ◌+◌, ◌≤◌, ◌<◌}
use Rattle.partition.specs.declared.block.Block.{Block}
use Rattle.partition.specs.declared.start.Start.{Start}
use Rattle.partition.specs.declared.scan.Place.{Place}
use Rattle.partition.specs.Cuts.{value_at, candidate}
use Rattle.partition.specs.Scans.{Low, AfterLastLow, FirstLow, NextCandidate}
use Rattle.partition.specs.Sliding.{Stands}

-- The values of a block's windows.
abbrev pub values : Block → ℕ → ℕ
values b = value_at b.width b.modulus b.bytes.now

-- A start stands in a block.
abbrev pub StandsIn : Block → Start → Type 0
StandsIn b s = Stands b.width b.modulus b.bytes.now s.at s.number s.before

-- The last of the positions from `from` up to `to` with a value of at most m, if there is one.
abbrev pub LastLow : (v : ℕ → ℕ) (m from to : ℕ) → Option ℕ → Type 0
LastLow v m from to None = AfterLastLow v m from to from
LastLow v m from to (Some last) = (from ≤ last) × AfterLastLow v m from to (last + 1)

-- The first position from `from` up to the block's end that no value from `from` on bars, if there is one, and its value.
abbrev pub FirstLowIn : Block → ℕ → Option Place → Type 0
FirstLowIn b from None = (j : ℕ) → from ≤ j → j < b.end → Low (values b) b.distance j → ⊥
FirstLowIn b from (Some p) = (p.at < b.end) × FirstLow (values b) b.distance from b.end p.at p.value

-- The first candidate from `from` up to the block's end, if there is one, and its value.
abbrev pub Next : Block → ℕ → Option Place → Type 0
Next b from None = (j : ℕ) → from ≤ j → j < b.end → candidate b.width b.distance b.modulus b.bytes.now j ≡ false
Next b from (Some p) = (p.at < b.end) × NextCandidate b.width b.distance b.modulus b.bytes.now from b.end p.at p.value
