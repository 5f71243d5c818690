-- An answer is small: a call for C adds its mark without leaving 64 bits.
use Rattle.std.proofs.Common.{◌≡◌, Bool, true, false, cond, ℕ, ◌+◌, ◌^◌, ◌<◌, arith}
use Rattle.most_blocks.specs.Most.{most_blocks_of, in_range, most_answer}

pub answer_small : (n w h : ℕ) → most_answer n w h < 2 ^ 63
unfolding most_answer most_blocks_of
answer_small n w h = go (in_range n w h)
  where
    go : (asked : Bool) → cond asked (2 ^ 32 + most_blocks_of n w h) 24 < 2 ^ 63
    go true = omega arith
    go false = omega arith
