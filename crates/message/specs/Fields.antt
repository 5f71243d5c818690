-- What stands between head and end is a chain of fields. A field reads the front of a row of words: a test, what it says, the words after it;
-- and it is printed again. A message's form is then one line of fields, read and printed in the same order.
use Rattle.std.specs.Prelude.{Bool, true, false, cond, ◌&&◌, ◌||◌, List, [], ◌∷◌, ◌++◌, ◌≡◌, ℕ, zero, suc, ◌+◌, ◌*◌, ◌/◌, ◌%◌, ◌^◌, ◌<◌, ltb, length, get_or, drop}
use Rattle.std.proofs.Math.Option.{Option, none, some}
use Rattle.message.specs.Words.{Word, number_word, part_word, Head, head_word, Ref, reference_word, word_of_bytes, top_byte, middle_byte, low_byte, carries_three_bytes, carries_two_bytes, carries_one_byte}

-- `Fits` says what can be printed, and `Stops` what may follow so that reading ends where printing did.
pub record Field (A : Type 0) : Type 1 where
  pub is : List ℕ → Bool
  pub of : List ℕ → A
  pub after : List ℕ → List ℕ
  pub to : A → List ℕ
  pub Fits : A → Type 0
  pub Stops : List ℕ → Type 0

-- One field is read, and what it says and the words after it go on to the next.
unfoldable pub read : {A B : Type 0} → Field A → List ℕ → (A → List ℕ → Option B) → Option B
read F ws next = cond (F.is ws) (next (F.of ws) (F.after ws)) none

-- One word. Where no word is left a 0 is read, which is of no kind.
unfoldable pub one : {A : Type 0} → Word A → Field A
one W =
    record {
      is = λ ws. W.is (get_or ws 0 0);
      of = λ ws. W.of (get_or ws 0 0);
      after = drop 1;
      to = λ a. W.to a ∷ [];
      Fits = W.Fits;
      Stops = λ ws. Unit {0};
    }

abbrev pub number : Field ℕ
number = one number_word

abbrev pub head : Field Head
head = one head_word

-- "3 part of a 64-bit value: three words with its top 8, middle 28, low 28 bits." Question 10: "first part of a 64-bit value at most 255".
unfoldable pub parts_test : (top middle low : ℕ) → Bool
parts_test top middle low = part_word.is top && (part_word.is middle && (part_word.is low && ltb (part_word.of top) 256))

unfoldable pub parts_value : (top middle low : ℕ) → ℕ
parts_value top middle low = (part_word.of top % 256 * 2 ^ 28 + part_word.of middle) * 2 ^ 28 + part_word.of low

unfoldable pub value : Field ℕ
value =
    record {
      is = λ ws. parts_test (get_or ws 0 0) (get_or ws 1 0) (get_or ws 2 0);
      of = λ ws. parts_value (get_or ws 0 0) (get_or ws 1 0) (get_or ws 2 0);
      after = drop 3;
      to = λ x. part_word.to (x / 2 ^ 28 / 2 ^ 28) ∷ part_word.to (x / 2 ^ 28) ∷ part_word.to x ∷ [];
      Fits = λ x. x < 2 ^ 64;
      Stops = λ ws. Unit {0};
    }

-- Every element of a list is such.
abbrev pub Every : {A : Type 0} → (A → Type 0) → List A → Type 0
Every P [] = Unit {0}
Every P (x ∷ xs) = P x × Every P xs

-- As many 64-bit values as are wanted, one after the other.
unfoldable pub values_are : ℕ → List ℕ → Bool
values_are zero ws = true
values_are (suc n) ws = value.is ws && values_are n (value.after ws)

unfoldable pub values_of : ℕ → List ℕ → List ℕ
values_of zero ws = []
values_of (suc n) ws = value.of ws ∷ values_of n (value.after ws)

unfoldable pub values_after : ℕ → List ℕ → List ℕ
values_after zero ws = ws
values_after (suc n) ws = values_after n (value.after ws)

unfoldable pub values_to : List ℕ → List ℕ
values_to [] = []
values_to (x ∷ xs) = value.to x ++ values_to xs

unfoldable pub values : ℕ → Field (List ℕ)
values n =
    record {
      is = values_are n;
      of = values_of n;
      after = values_after n;
      to = values_to;
      Fits = λ xs. (length xs ≡ n) × Every value.Fits xs;
      Stops = λ ws. Unit {0};
    }

-- As many words of one kind as follow each other.
unfoldable pub many_from : {A : Type 0} → Word A → List ℕ → List A
many_from W [] = []
many_from W (w ∷ ws) = cond (W.is w) (W.of w ∷ many_from W ws) []

unfoldable pub many_after : {A : Type 0} → Word A → List ℕ → List ℕ
many_after W [] = []
many_after W (w ∷ ws) = cond (W.is w) (many_after W ws) (w ∷ ws)

unfoldable pub many_to : {A : Type 0} → Word A → List A → List ℕ
many_to W [] = []
many_to W (x ∷ xs) = W.to x ∷ many_to W xs

unfoldable pub many : {A : Type 0} → Word A → Field (List A)
many W =
    record {
      is = λ ws. true;
      of = many_from W;
      after = many_after W;
      to = many_to W;
      Fits = Every W.Fits;
      Stops = λ ws. W.is (get_or ws 0 0) ≡ false;
    }

-- A word that may be left out: it is there if the next word is such a word.
unfoldable pub maybe_of : {A : Type 0} → Word A → List ℕ → Option A
maybe_of W ws = cond (W.is (get_or ws 0 0)) (some (W.of (get_or ws 0 0))) none

unfoldable pub maybe_after : {A : Type 0} → Word A → List ℕ → List ℕ
maybe_after W ws = cond (W.is (get_or ws 0 0)) (drop 1 ws) ws

unfoldable pub maybe_to : {A : Type 0} → Word A → Option A → List ℕ
maybe_to W none = []
maybe_to W (some a) = W.to a ∷ []

unfoldable pub MaybeFits : {A : Type 0} → Word A → Option A → Type 0
MaybeFits W none = Unit {0}
MaybeFits W (some a) = W.Fits a

unfoldable pub maybe : {A : Type 0} → Word A → Field (Option A)
maybe W =
    record {
      is = λ ws. true;
      of = maybe_of W;
      after = maybe_after W;
      to = maybe_to W;
      Fits = MaybeFits W;
      Stops = λ ws. W.is (get_or ws 0 0) ≡ false;
    }

-- Document 02, request 5: the trail number of a composition is left out where it is not needed.
abbrev pub maybe_number : Field (Option ℕ)
maybe_number = maybe number_word

-- A field of which only some values are taken.
unfoldable pub only : {A : Type 0} → (A → Bool) → Field A → Field A
only test F =
    record {
      is = λ ws. F.is ws && test (F.of ws);
      of = F.of;
      after = F.after;
      to = F.to;
      Fits = λ a. F.Fits a × (test a ≡ true);
      Stops = F.Stops;
    }

-- Document 02, request 2: "References now rise by index." Each index is below the next one, so that none stands twice.
unfoldable pub rising : List Ref → Bool
rising [] = true
rising (r ∷ []) = true
rising (r ∷ next ∷ refs) = ltb r.index next.index && rising (next ∷ refs)

abbrev pub references : Field (List Ref)
references = only rising (many reference_word)

-- The bytes of a literal. "Only the last such word may carry fewer than 3."
unfoldable pub text_from : List ℕ → List ℕ
text_from [] = []
text_from (w ∷ ws) =
    cond (carries_three_bytes w) (top_byte w ∷ middle_byte w ∷ low_byte w ∷ text_from ws)
    (cond (carries_two_bytes w) (top_byte w ∷ middle_byte w ∷ []) (cond (carries_one_byte w) (top_byte w ∷ []) []))

unfoldable pub text_after : List ℕ → List ℕ
text_after [] = []
text_after (w ∷ ws) = cond (carries_three_bytes w) (text_after ws) (cond (carries_two_bytes w || carries_one_byte w) ws (w ∷ ws))

unfoldable pub text_to : List ℕ → List ℕ
text_to [] = []
text_to (a ∷ []) = word_of_bytes 1 a 0 0 ∷ []
text_to (a ∷ b ∷ []) = word_of_bytes 2 a b 0 ∷ []
text_to (a ∷ b ∷ c ∷ rest) = word_of_bytes 3 a b c ∷ text_to rest

unfoldable pub carries : ℕ → Bool
carries w = carries_three_bytes w || (carries_two_bytes w || carries_one_byte w)

unfoldable pub text : Field (List ℕ)
text =
    record {
      is = λ ws. true;
      of = text_from;
      after = text_after;
      to = text_to;
      Fits = Every (λ b. b < 256);
      Stops = λ ws. carries (get_or ws 0 0) ≡ false;
    }
