-- The blocks between cuts: document 01, "A cut at i starts a block at byte i. A string with no cut is one block, itself."
use Rattle.std.specs.Prelude.{List, [], ◌∷◌, ℕ, ◌-◌, take, drop}
use Rattle.partition.specs.Cuts.{cuts_of}

-- The blocks of the bytes from position `from` on, a new one starting at each cut.
unfoldable pub blocks_from : ℕ → List ℕ → List ℕ → List (List ℕ)
blocks_from from [] bytes = drop from bytes ∷ []
blocks_from from (c ∷ cs) bytes = take (c - from) (drop from bytes) ∷ blocks_from c cs bytes

-- The blocks of one cutting, from the left.
unfoldable pub blocks_of : ℕ → ℕ → ℕ → List ℕ → List (List ℕ)
blocks_of w h s bytes = blocks_from 0 (cuts_of w h s bytes) bytes
