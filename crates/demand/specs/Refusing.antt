-- What a call of `rcds_take` leaves of the bytes it was lent where a question refuses the message: document 00, "Bad input .. gets the number of
-- the first question .. that it fails, with the state and buffers named there".
use Rattle.std.specs.Prelude.{List, ◌≡◌, ℕ, ◌^◌, ◌≤◌, ◌<◌, length, replicate}
use Rattle.protocol.specs.State.{over}
use Rattle.held.specs.Held.{decode, keeping, HeldTakes}

-- A prime marks what the call left. An answer below 2^32 is 0 or a question's number. "A no at 9 to 11 changes no state and no buffer", nor does
-- one at 1 to 7. "A no at 12 to 19 ends the session and zeroes the whole output buffer." The other pieces are lent for reading only.
pub record TakeRefused (state state' shingles shingles' output output' : List ℕ) (r : ℕ) : Type 0 where
  pub last : r < 2 ^ 32 → r ≤ 19
  pub to_11 : 1 ≤ r → r ≤ 11 → (state' ≡ state) × (shingles' ≡ shingles) × (output' ≡ output)
  pub from_12 : 12 ≤ r → r ≤ 19 → (state' ≡ keeping (over (decode state)) state) × (shingles' ≡ shingles) × (output' ≡ replicate (length output) 0)

abbrev pub RefusalsOfCalls : Type 0
RefusalsOfCalls =
    (state state' string nodes shingles shingles' cells message output output' : List ℕ) (r : ℕ)
    → HeldTakes state state' string nodes shingles shingles' cells message output output' r
    → TakeRefused state state' shingles shingles' output output' r
