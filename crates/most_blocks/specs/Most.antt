-- How many blocks one cutting gives at most: document 02, request 6, and the call as request 7 leaves it.
use Rattle.std.specs.Prelude.{Bool, cond, ◌&&◌, List, ℕ, ◌+◌, ◌-◌, ◌/◌, ◌^◌, max, min, leb, replicate}
use Rattle.tree.specs.Questions.{within}

-- "For a length n, window w and distance h, one cutting gives at most the larger of 1 and (n−w)/h rounded down, and at most 32." Where n is
-- below w, the difference is 0 here, and 1 is the larger as it is for a difference below 0.
unfoldable pub most_blocks_of : (n w h : ℕ) → ℕ
most_blocks_of n w h = min (max 1 ((n - w) / h)) 32

-- "w 2 to 12, h 1 to 32,768 and n at most 65,536"
abbrev pub in_range : (n w h : ℕ) → Bool
in_range n w h = within 2 12 w && (within 1 32768 h && leb n 65536)

-- "the call returns the bound, borrows no buffer": 2^32 and the bound, or 24, the only question that is left.
unfoldable pub most_answer : (n w h : ℕ) → ℕ
most_answer n w h = cond (in_range n w h) (2 ^ 32 + most_blocks_of n w h) 24

-- The file of request 6, "of zero bytes".
abbrev pub zero_file : ℕ → List ℕ
zero_file n = replicate n 0
