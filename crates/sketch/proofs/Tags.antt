-- F(j) worked out number by number: a hash goes on over joined bytes.
use Rattle.std.proofs.Common.{◌≡◌, ℕ, ◌/◌, ◌%◌, ◌^◌, List, [], ◌∷◌, ◌++◌, take, drop, w64, sym, refl, ap, ◌∙◌, arith}
use Rattle.std.specs.Int.{to_be_bytes}
use native.Mathlib.Nat.{div-div-eq-div-mul}
use Rattle.rows.specs.Rows.{bytes_of}
use Rattle.fnv.specs.Fnv.{next_hash, hash_onward, hash_of}
use Rattle.shingle.specs.declared.Shingle.{Shingle}
use Rattle.sketch.specs.Cells.{four_bytes, tail_of, shingle_bytes, tag_of}

hash_append : (h : ℕ) (a b : List ℕ) → hash_onward h (a ++ b) ≡ hash_onward (hash_onward h a) b
unfolding hash_onward
hash_append h [] b = refl
hash_append h (x ∷ a) b = hash_append (next_hash h x) a b

-- The eight bytes of a number, by one division each.
bytes_by_one : (x : ℕ) → to_be_bytes w64 x ≡ bytes_of x
unfolding bytes_of
bytes_by_one x = simp div-div-eq-div-mul

-- The last four of them are the same modulo 2^64.
four_low : (x : ℕ) → take 4 (drop 4 (to_be_bytes w64 (x % 18446744073709551616))) ≡ four_bytes x
unfolding four_bytes
four_low x =
    let a : x % 18446744073709551616 / 16777216 % 256 ≡ x / 256 / 256 / 256 % 256 = omega arith in
    let b : x % 18446744073709551616 / 65536 % 256 ≡ x / 256 / 256 % 256 = omega arith in
    let c : x % 18446744073709551616 / 256 % 256 ≡ x / 256 % 256 = omega arith in
    let d : x % 18446744073709551616 % 256 ≡ x % 256 = omega arith in
    λ i. a i ∷ b i ∷ c i ∷ d i ∷ []

-- The hash goes on with the bytes of a number.
pub with_bytes : (h x : ℕ) {r : ℕ} {bytes : List ℕ} → bytes ≡ to_be_bytes w64 x → r ≡ hash_onward h bytes → r ≡ hash_onward h (bytes_of x)
with_bytes h x e f = f ∙ ap (hash_onward h) (e ∙ bytes_by_one x)

-- And with the low four bytes of a tail.
pub with_tail : (h : ℕ) (s : Shingle) {r low : ℕ} {bytes : List ℕ} → low ≡ tail_of s % 2 ^ 64 → bytes ≡ to_be_bytes w64 low
    → r ≡ hash_onward h (take 4 (drop 4 bytes)) → r ≡ hash_onward h (four_bytes (tail_of s))
with_tail h s n e f =
    f ∙ ap (λ (l : List ℕ). hash_onward h (take 4 (drop 4 l))) e
    ∙ ap (λ (m : ℕ). hash_onward h (take 4 (drop 4 (to_be_bytes w64 m)))) n
    ∙ ap (hash_onward h) (four_low (tail_of s))

pub tag_is : (j : ℕ) (s : Shingle) {a b c r : ℕ} → a ≡ hash_of (j ∷ []) → b ≡ hash_onward a (bytes_of s.previous)
    → c ≡ hash_onward b (bytes_of s.own) → r ≡ hash_onward c (four_bytes (tail_of s)) → r ≡ tag_of j s
unfolding hash_onward tag_of shingle_bytes
tag_is j s p q t u =
    u
    ∙ ap (λ (h : ℕ). hash_onward h (four_bytes (tail_of s))) (t ∙ ap (λ (h : ℕ). hash_onward h (bytes_of s.own)) (q ∙ ap (λ (h : ℕ). hash_onward h (bytes_of s.previous)) p))
    ∙ sym (hash_append (next_hash 14695981039346656037 j) (bytes_of s.previous) _ ∙ hash_append _ (bytes_of s.own) (four_bytes (tail_of s)))
