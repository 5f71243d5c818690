-- A window's number from the one before: one digit more than a window, read from both ends, is the number of each of the two
-- windows and a digit beside it.
use mathlib.Core.List.{List, [], ◌∷◌, ◌++◌, map}
use mathlib.Core.Path.{◌≡◌, refl, sym, ap, ◌∙◌}
use Prim.Native.Nat.{ℕ, ◌+◌, ◌*◌, ◌%◌, ◌^◌, ◌≤◌, ◌<◌}
use native.Mathlib.Nat.{add_assoc, add-mul, mul_assoc, mul_comm, mul-le-mul, pow-suc, mul-add-mod_self_right}
use native.Mathlib.Numerals.{add-one}
use native.Mathlib.Omega.{arith}
use lib.ListN.{length, get_or, take, drop, length-take, length-drop, length-map}
use lib.Seq.{drop-cons, take-suc, get_or-drop}
use Rattle.spread.specs.Spreading.{spread_of}
use Rattle.partition.specs.Cuts.{number_from, window_at}
use Rattle.partition.specs.Sliding.{slid}
use Rattle.partition.proofs.Digits.{digit_at}
use Rattle.partition.proofs.Reading.{step}

low_digit : (x : ℕ) (bs : List ℕ) (b : ℕ) → number_from x (bs ++ (b ∷ [])) ≡ number_from x bs * 257 + b
unfolding number_from
low_digit x [] b = refl
low_digit x (c ∷ bs) b = low_digit (x * 257 + c) bs b

distribute : (x b p : ℕ) → (x * 257 + b) * p ≡ x * (p * 257) + b * p
distribute x b p = add-mul (x * 257) b p ∙ ap (λ (y : ℕ). y + b * p) (mul_assoc x 257 p ∙ ap (λ (y : ℕ). x * y) (mul_comm 257 p))

first_digit : (b : ℕ) (bs : List ℕ) → number_from 0 (b ∷ bs) ≡ number_from b bs
unfolding number_from
first_digit b bs = ap (λ (x : ℕ). number_from x bs) (let e : 0 * 257 + b ≡ b = omega arith in e)

-- A digit at the high end, of `length bs` places.
high_digit : (x : ℕ) (bs : List ℕ) → number_from x bs ≡ x * 257 ^ length bs + number_from 0 bs
unfolding number_from
high_digit x [] = omega arith
high_digit x (b ∷ bs) =
    let power = 257 ^ length bs in
    rw (pow-suc 257 (length bs))
    (high_digit (x * 257 + b) bs
    ∙ ap (λ (y : ℕ). y + number_from 0 bs) (distribute x b power)
    ∙ add_assoc (x * (power * 257)) (b * power) (number_from 0 bs)
    ∙ ap (λ (y : ℕ). x * (power * 257) + y) (sym (high_digit b bs) ∙ sym (first_digit b bs)))

-- What leaves counts e times and is added 65,520 times as often: with both it is a multiple of 65,521.
cancel : (n e leaves enters m : ℕ) → n * 257 + enters ≡ leaves * e + m → (n % 65521 * 257 + enters + leaves * (65520 * e)) % 65521 ≡ m % 65521
cancel n e leaves enters m ends =
    let often : leaves * (65520 * e) ≡ leaves * e * 65520 = ap (λ (y : ℕ). leaves * y) (mul_comm 65520 e) ∙ sym (mul_assoc leaves e 65520) in
    let all : n * 257 + (enters + leaves * (65520 * e)) ≡ leaves * e * 65521 + m = omega arith in
    ap (λ (y : ℕ). y % 65521) (add_assoc (n % 65521 * 257) enters (leaves * (65520 * e)))
    ∙ step n (enters + leaves * (65520 * e))
    ∙ ap (λ (y : ℕ). y % 65521) all
    ∙ mul-add-mod_self_right (leaves * e) 65521 m

module _ (w : ℕ) (digits : List ℕ) (i : ℕ) (inside : i + w < length digits) where
  both_ends : number_from 0 (take w (drop i digits)) * 257 + get_or digits (i + w) 0 ≡ get_or digits i 0 * 257 ^ w + number_from 0 (take w (drop (i + 1) digits))
  both_ends =
      let rest = take w (drop (i + 1) digits) in
      let full : length rest ≡ w = simp (length-take, length-drop) (omega arith) in
      sym (low_digit 0 (take w (drop i digits)) (get_or digits (i + w) 0))
      ∙ ap (number_from 0) longer
      ∙ first_digit (get_or digits i 0) rest
      ∙ high_digit (get_or digits i 0) rest
      ∙ ap (λ (n : ℕ). get_or digits i 0 * 257 ^ n + number_from 0 rest) full
    where
      longer : take w (drop i digits) ++ (get_or digits (i + w) 0 ∷ []) ≡ get_or digits i 0 ∷ take w (drop (i + 1) digits)
      longer =
          let l : i < length digits = omega arith in
          let k : w < length (drop i digits) = simp length-drop (omega arith) in
          rw (← get_or-drop i digits w 0, ← take-suc (drop i digits) w 0 k, drop-cons digits i 0 l, add-one i)

-- The window one byte further.
pub shifted : (w : ℕ) (bytes : List ℕ) (i : ℕ) → i + w < length bytes
    → slid w (window_at w bytes i) (spread_of (get_or bytes i 0)) (spread_of (get_or bytes (i + w) 0)) ≡ window_at w bytes (i + 1)
unfolding window_at slid
shifted w bytes i inside =
    let digits = map spread_of bytes in
    rw (← digit_at bytes i (omega arith), ← digit_at bytes (i + w) inside)
    (cancel (number_from 0 (take w (drop i digits))) (257 ^ w) (get_or digits i 0) (get_or digits (i + w) 0) (number_from 0 (take w (drop (i + 1) digits)))
    (both_ends w digits i (simp length-map inside)))

-- What a digit adds as its window leaves it.
pub product_small : (old often : ℕ) → old ≤ 65520 → often ≤ 65520 → old * often ≤ 65520 * 65520
product_small old often a b = mul-le-mul a b
