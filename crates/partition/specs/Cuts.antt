-- Where one block is cut: document 01, 'Settings and tree', from 'Window value at i' to 'After 31 cuts no more are made', with the cutting rule of
-- document 02, requests 7 and 12.
use Rattle.std.specs.Prelude.{Bool, true, false, cond, ◌&&◌, List, [], ◌∷◌, map, ℕ, zero, suc, ◌+◌, ◌*◌, ◌-◌, ◌%◌, leb, ltb, length, take, drop}
use Rattle.spread.specs.Spreading.{spread_of}

-- Digits read as a base-257 number, the first highest, going on after the number x.
unfoldable pub number_from : ℕ → List ℕ → ℕ
number_from x [] = x
number_from x (b ∷ bs) = number_from (x * 257 + b) bs

-- "read w bytes from i as a base-257 number, first byte highest; take it modulo 65,521", and "Before the base-257 reading, each byte b is
-- replaced by entry b of a constant table".
unfoldable pub window_at : ℕ → List ℕ → ℕ → ℕ
window_at w bytes i = number_from 0 (take w (drop i (map spread_of bytes))) % 65521

-- "then modulo s"
unfoldable pub value_at : ℕ → ℕ → List ℕ → ℕ → ℕ
value_at w s bytes i = window_at w bytes i % s

-- The number of this rule: "The rule number becomes 3".
abbrev pub rule_number : ℕ
rule_number = 3

-- The value at i is "smaller than each of the [d] values before it and not greater than the [d] after it".
unfoldable pub lowest : (ℕ → ℕ) → ℕ → ℕ → Bool
lowest v i zero = true
lowest v i (suc d) = ltb (v i) (v (i - suc d)) && (leb (v i) (v (i + suc d)) && lowest v i d)

-- "Position i is a candidate when h ≤ i ≤ n−w−h", and "a candidate's value must be smaller than each of the h values before it and not greater
-- than the h after it".
unfoldable pub candidate : ℕ → ℕ → ℕ → List ℕ → ℕ → Bool
candidate w h s bytes i = leb h i && (leb (i + w + h) (length bytes) && lowest (value_at w s bytes) i h)

-- x in front of the list, if the test passed.
unfoldable pub cons_if : Bool → ℕ → List ℕ → List ℕ
cons_if true x xs = x ∷ xs
cons_if false x xs = xs

-- Those that pass the test, of so many positions from i on.
unfoldable pub passing : (ℕ → Bool) → ℕ → ℕ → List ℕ
passing test zero i = []
passing test (suc left) i = cons_if (test i) i (passing test left (suc i))

-- "From the left, a candidate becomes a cut if it is the first, or at least h after the last cut."
-- `free` is the first position that is far enough: 0 before the first cut.
unfoldable pub spaced : ℕ → ℕ → List ℕ → List ℕ
spaced h free [] = []
spaced h free (c ∷ cs) = cons_if (leb free c) c (spaced h (cond (leb free c) (c + h) free) cs)

-- "After 31 cuts no more are made."
unfoldable pub cuts_of : ℕ → ℕ → ℕ → List ℕ → List ℕ
cuts_of w h s bytes = take 31 (spaced h 0 (passing (candidate w h s bytes) (length bytes + 1) 0))
