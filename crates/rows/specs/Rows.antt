-- Lent bytes as rows of 64-bit numbers, most significant byte first: the form of every table that is lent.
use Rattle.std.specs.Prelude.{cond, List, [], ◌∷◌, ◌++◌, ◌≡◌, ℕ, ◌+◌, ◌*◌, ◌-◌, ◌/◌, ◌%◌, leb, length, take, drop, set, replicate}

-- Eight bytes as one number, the first byte the most significant.
abbrev pub word_of : (a b c d e f g h : ℕ) → ℕ
word_of a b c d e f g h = ((((((a * 256 + b) * 256 + c) * 256 + d) * 256 + e) * 256 + f) * 256 + g) * 256 + h

-- The whole rows of a table. Up to seven bytes left over at its end are no row.
unfoldable pub words_of : List ℕ → List ℕ
words_of [] = []
words_of (a ∷ []) = []
words_of (a ∷ b ∷ []) = []
words_of (a ∷ b ∷ c ∷ []) = []
words_of (a ∷ b ∷ c ∷ d ∷ []) = []
words_of (a ∷ b ∷ c ∷ d ∷ e ∷ []) = []
words_of (a ∷ b ∷ c ∷ d ∷ e ∷ f ∷ []) = []
words_of (a ∷ b ∷ c ∷ d ∷ e ∷ f ∷ g ∷ []) = []
words_of (a ∷ b ∷ c ∷ d ∷ e ∷ f ∷ g ∷ h ∷ rest) = word_of a b c d e f g h ∷ words_of rest

-- The eight bytes of a number, the most significant first.
unfoldable pub bytes_of : ℕ → List ℕ
bytes_of x =
    x / 256 / 256 / 256 / 256 / 256 / 256 / 256 % 256
    ∷ x / 256 / 256 / 256 / 256 / 256 / 256 % 256
    ∷ x / 256 / 256 / 256 / 256 / 256 % 256
    ∷ x / 256 / 256 / 256 / 256 % 256
    ∷ x / 256 / 256 / 256 % 256
    ∷ x / 256 / 256 % 256
    ∷ x / 256 % 256
    ∷ x % 256
    ∷ []

-- The table with the number x in row k, or as it was where it has no such row.
unfoldable pub store_of : List ℕ → ℕ → ℕ → List ℕ
store_of t k x = cond (leb (k * 8 + 8) (length t)) (take (k * 8) t ++ (bytes_of x ++ drop (k * 8 + 8) t)) t

-- What a store leaves, said of the bytes and of the rows.
pub record Stored (before after : List ℕ) (k x : ℕ) : Type 0 where
  pub bytes : after ≡ store_of before k x
  pub words : words_of after ≡ set (words_of before) k x

-- The table with every byte from place `from` on 0.
unfoldable pub clear_from : List ℕ → ℕ → List ℕ
clear_from t from = take from t ++ replicate (length t - from) 0

-- The bytes e in place of as many of t, from place i on.
unfoldable pub put : List ℕ → ℕ → List ℕ → List ℕ
put t i e = take i t ++ (e ++ drop (i + length e) t)
