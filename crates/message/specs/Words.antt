-- The words of a message and their six kinds. Document 01: "A message is a row of 32-bit words, on the link most significant byte first.
-- The top 4 bits are the kind, 28 bits remain."
use Rattle.std.specs.Prelude.{Bool, cond, ◌&&◌, List, [], ◌∷◌, ◌++◌, ℕ, ◌+◌, ◌*◌, ◌/◌, ◌%◌, ◌^◌, ◌<◌, ltb, eqb, length, get_or}

-- Four bytes as one word, the first byte the most significant.
abbrev pub word_of : (a b c d : ℕ) → ℕ
word_of a b c d = ((a * 256 + b) * 256 + c) * 256 + d

-- The whole words of some bytes. Up to three bytes left over at the end are no word.
unfoldable pub link_words : List ℕ → List ℕ
link_words [] = []
link_words (a ∷ []) = []
link_words (a ∷ b ∷ []) = []
link_words (a ∷ b ∷ c ∷ []) = []
link_words (a ∷ b ∷ c ∷ d ∷ rest) = word_of a b c d ∷ link_words rest

-- The four bytes of a word, the most significant first.
abbrev pub bytes_of : ℕ → List ℕ
bytes_of w = w / 256 / 256 / 256 % 256 ∷ w / 256 / 256 % 256 ∷ w / 256 % 256 ∷ w % 256 ∷ []

-- The bytes of a row of words as they stand on the link.
unfoldable pub link_bytes : List ℕ → List ℕ
link_bytes [] = []
link_bytes (w ∷ ws) = bytes_of w ++ link_bytes ws

-- "The top 4 bits are the kind, 28 bits remain." A number put behind a kind is taken modulo 2^28.
unfoldable pub kind_of : ℕ → ℕ
kind_of w = w / 2 ^ 28

unfoldable pub rest_of : ℕ → ℕ
rest_of w = w % 2 ^ 28

unfoldable pub with_kind : ℕ → ℕ → ℕ
with_kind k x = k * 2 ^ 28 + x % 2 ^ 28

-- One kind of word: the words that are of it, what such a word says, the word that says it, and what can be said by one.
pub record Word (A : Type 0) : Type 1 where
  pub is : ℕ → Bool
  pub of : ℕ → A
  pub to : A → ℕ
  pub Fits : A → Type 0

-- A word whose 28 bits are one number.
unfoldable pub plain : ℕ → Word ℕ
plain k = record { is = λ w. eqb (kind_of w) k; of = rest_of; to = with_kind k; Fits = λ x. x < 2 ^ 28 }

-- "2 number", "3 part of a 64-bit value".
abbrev pub number_word : Word ℕ
number_word = plain 2

abbrev pub part_word : Word ℕ
part_word = plain 3

-- "1 head: 4 bits type, 24 bits session."
pub record Head : Type 0 where
  pub type : ℕ
  pub session : ℕ

unfoldable pub head_word : Word Head
head_word =
    record {
      is = λ w. eqb (kind_of w) 1;
      of = λ w. record { type = rest_of w / 2 ^ 24; session = rest_of w % 2 ^ 24 };
      to = λ h. with_kind 1 (h.type * 2 ^ 24 + h.session % 2 ^ 24);
      Fits = λ h. (h.type < 16) × (h.session < 2 ^ 24);
    }

-- "4 reference: 10 zero bits, 12 bits list index, 6 bits count (1 to 32)."
pub record Ref : Type 0 where
  pub index : ℕ
  pub count : ℕ

unfoldable pub reference_word : Word Ref
reference_word =
    record {
      is = λ w. eqb (kind_of w) 4 && (ltb (rest_of w / 64) 4096 && (ltb 0 (rest_of w % 64) && ltb (rest_of w % 64) 33));
      of = λ w. record { index = rest_of w / 64; count = rest_of w % 64 };
      to = λ r. with_kind 4 (r.index * 64 + r.count);
      Fits = λ r. (r.index < 4096) × (0 < r.count) × (r.count < 33);
    }

-- "5 bytes: two zero bits, two bits how many (1 to 3), three bytes from the top, unused ones 0."
unfoldable pub word_of_bytes : (many a b c : ℕ) → ℕ
word_of_bytes many a b c = with_kind 5 (word_of many a b c)

-- The two zero bits and the two bits that say how many: below 4 if the zero bits are 0.
unfoldable pub many_of : ℕ → ℕ
many_of w = rest_of w / 256 / 256 / 256

-- Byte j of the three, from the top.
unfoldable pub top_byte : ℕ → ℕ
top_byte w = rest_of w / 256 / 256 % 256

unfoldable pub middle_byte : ℕ → ℕ
middle_byte w = rest_of w / 256 % 256

unfoldable pub low_byte : ℕ → ℕ
low_byte w = rest_of w % 256

-- A bytes word that carries three, one that carries two, one that carries one.
unfoldable pub carries_three_bytes : ℕ → Bool
carries_three_bytes w = eqb (kind_of w) 5 && eqb (many_of w) 3

unfoldable pub carries_two_bytes : ℕ → Bool
carries_two_bytes w = eqb (kind_of w) 5 && (eqb (many_of w) 2 && eqb (low_byte w) 0)

unfoldable pub carries_one_byte : ℕ → Bool
carries_one_byte w = eqb (kind_of w) 5 && (eqb (many_of w) 1 && (eqb (middle_byte w) 0 && eqb (low_byte w) 0))

-- How many bytes a word carries.
unfoldable pub carried_by : ℕ → ℕ
carried_by w = cond (carries_three_bytes w) 3 (cond (carries_two_bytes w) 2 (cond (carries_one_byte w) 1 0))

-- "6 end: words in the message."
unfoldable pub end_word : ℕ → ℕ
end_word count = with_kind 6 count

-- The rest of a message is its end word and nothing after it, and the end counts the message's words.
unfoldable pub is_end_word : ℕ → List ℕ → Bool
is_end_word count ws = eqb (length ws) 1 && (eqb (kind_of (get_or ws 0 0)) 6 && eqb (rest_of (get_or ws 0 0)) count)
