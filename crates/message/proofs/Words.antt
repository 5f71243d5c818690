-- Laws of words: bytes and words give each other back, and so does each kind of word with what it says.
use Rattle.std.proofs.Common.{Bool, true, false, cond, ◌&&◌, List, [], ◌∷◌, ◌++◌, ◌≡◌, refl, sym, ap, ◌∙◌, ℕ, suc, ◌+◌, ◌*◌, ◌/◌, ◌%◌, ◌^◌, ◌<◌, ◌≤◌, arith, eqb-true, eq-eqb, ne_eqb, ltb-true, lt-ltb, ltb, eqb, length, get_or, take, drop, take-append-drop, drop-cons, length-take-le}
use Rattle.std.proofs.lemmas.Bool.{false≢true, eqb-false}
use Rattle.std.proofs.Math.Numerals.{towards_suc}
use Rattle.std.proofs.Math.ListN.{get_or-eq_default}
use Rattle.std.proofs.Math.Seq.{get_or_at}
use Rattle.std.proofs.lemmas.Bool.Decides.{nat_tests}
use Rattle.message.specs.Words.{word_of, link_words, bytes_of, link_bytes, kind_of, rest_of, with_kind, many_of, middle_byte, low_byte, carries_three_bytes, carries_two_bytes, carries_one_byte, carried_by, Word, plain, Head, head_word, Ref, reference_word}
use Rattle.message.specs.Fields.{Every}

-- Numbers that are bytes, and numbers that are words.
abbrev pub Bytes : List ℕ → Type 0
Bytes s = Every (λ b. b < 256) s

abbrev pub Small : List ℕ → Type 0
Small ws = Every (λ w. w < 2 ^ 32) ws

pub every_append : {A : Type 0} (P : A → Type 0) (xs ys : List A) → Every P xs → Every P ys → Every P (xs ++ ys)
every_append P [] ys p q = q
every_append P (x ∷ xs) ys p q = (p.0, every_append P xs ys p.1 q)

-- A slice's elements are bytes.
pub bytes_given : (s : List ℕ) → ((i : ℕ) → get_or s i 0 < 256) → Bytes s
bytes_given [] h = tt
bytes_given (b ∷ s) h = (h 0, bytes_given s (λ i. h (suc i)))

pub length_bytes : (ws : List ℕ) → length (link_bytes ws) ≡ length ws * 4
unfolding link_bytes
length_bytes [] = refl
length_bytes (w ∷ ws) = let n = length_bytes ws in omega arith

pub length_words : (s : List ℕ) → length (link_words s) ≡ length s / 4
unfolding link_words
length_words [] = refl
length_words (a ∷ []) = refl
length_words (a ∷ b ∷ []) = refl
length_words (a ∷ b ∷ c ∷ []) = refl
length_words (a ∷ b ∷ c ∷ d ∷ rest) = let n = length_words rest in omega arith

word_bytes : (w : ℕ) → w < 2 ^ 32 → word_of (w / 256 / 256 / 256 % 256) (w / 256 / 256 % 256) (w / 256 % 256) (w % 256) ≡ w
word_bytes w h = omega arith

pub words_bytes : (ws : List ℕ) → Small ws → link_words (link_bytes ws) ≡ ws
unfolding link_words link_bytes
words_bytes [] h = refl
words_bytes (w ∷ ws) h = rw (word_bytes w h.0, words_bytes ws h.1)

four_bytes : (a b c d : ℕ) → a < 256 → b < 256 → c < 256 → d < 256 → bytes_of (word_of a b c d) ≡ a ∷ b ∷ c ∷ d ∷ []
four_bytes a b c d ha hb hc hd =
    let ea : word_of a b c d / 256 / 256 / 256 % 256 ≡ a = omega arith in
    let eb : word_of a b c d / 256 / 256 % 256 ≡ b = omega arith in
    let ec : word_of a b c d / 256 % 256 ≡ c = omega arith in
    let ed : word_of a b c d % 256 ≡ d = omega arith in
    cc

pub bytes_words : (s : List ℕ) → Bytes s → length s % 4 ≡ 0 → link_bytes (link_words s) ≡ s
unfolding link_words link_bytes
bytes_words [] h z = refl
bytes_words (a ∷ []) h z = absurd (eqb-false 1 0 refl z)
bytes_words (a ∷ b ∷ []) h z = absurd (eqb-false 2 0 refl z)
bytes_words (a ∷ b ∷ c ∷ []) h z = absurd (eqb-false 3 0 refl z)
bytes_words (a ∷ b ∷ c ∷ d ∷ rest) h z =
    ap (λ (l : List ℕ). l ++ link_bytes (link_words rest)) (four_bytes a b c d h.0 h.1.0 h.1.1.0 h.1.1.1.0)
    ∙ ap (λ (l : List ℕ). a ∷ b ∷ c ∷ d ∷ l) (bytes_words rest h.1.1.1.1 (omega arith))

pub small_words : (s : List ℕ) → Bytes s → Small (link_words s)
unfolding link_words
small_words [] h = tt
small_words (a ∷ []) h = tt
small_words (a ∷ b ∷ []) h = tt
small_words (a ∷ b ∷ c ∷ []) h = tt
small_words (a ∷ b ∷ c ∷ d ∷ rest) h =
    let ha = h.0 in
    let hb = h.1.0 in
    let hc = h.1.1.0 in
    let hd = h.1.1.1.0 in
    (omega arith, small_words rest h.1.1.1.1)

-- Both halves of a test.
pub and_left : (a b : Bool) → (a && b) ≡ true → a ≡ true
and_left true b e = refl
and_left false b e = e

pub and_right : (a b : Bool) → (a && b) ≡ true → b ≡ true
and_right true b e = e
and_right false b e = absurd (false≢true e)

pub and_both : {a b : Bool} → a ≡ true → b ≡ true → (a && b) ≡ true
and_both p q = rw (p, q)

-- A kind and what stands behind it.
pub kind_with : (k x : ℕ) → kind_of (with_kind k x) ≡ k
unfolding kind_of with_kind
kind_with k x = omega arith

pub rest_with : (k x : ℕ) → rest_of (with_kind k x) ≡ x % 2 ^ 28
unfolding rest_of with_kind
rest_with k x = omega arith

pub with_rest : (k w : ℕ) → kind_of w ≡ k → with_kind k (rest_of w) ≡ w
unfolding kind_of rest_of with_kind
with_rest k w e = omega arith

pub with_small : (k x : ℕ) → k < 16 → with_kind k x < 2 ^ 32
unfolding with_kind
with_small k x h = omega arith

pub rest_below : (w : ℕ) → rest_of w < 2 ^ 28
unfolding rest_of
rest_below w = omega arith

-- A kind of word whose words and values give each other back, and which has no word 0.
pub record LawfulWord {A : Type 0} (W : Word A) : Type 0 where
  pub small : (a : A) → W.to a < 2 ^ 32
  pub is_to : (a : A) → W.Fits a → W.is (W.to a) ≡ true
  pub of_to : (a : A) → W.Fits a → W.of (W.to a) ≡ a
  pub to_of : (w : ℕ) → w < 2 ^ 32 → W.is w ≡ true → W.to (W.of w) ≡ w
  pub fits : (w : ℕ) → W.is w ≡ true → W.Fits (W.of w)
  pub no_zero : W.is 0 ≡ false

module _ (k : ℕ) (high : k < 16) (low : 0 < k) where
  plain_small : (x : ℕ) → (plain k).to x < 2 ^ 32
  unfolding plain
  plain_small x = with_small k x high

  plain_is_to : (x : ℕ) → (plain k).Fits x → (plain k).is ((plain k).to x) ≡ true
  unfolding plain
  plain_is_to x f = eq-eqb _ k (kind_with k x)

  plain_of_to : (x : ℕ) → (plain k).Fits x → (plain k).of ((plain k).to x) ≡ x
  unfolding plain
  plain_of_to x f = rest_with k x ∙ omega arith

  plain_to_of : (w : ℕ) → w < 2 ^ 32 → (plain k).is w ≡ true → (plain k).to ((plain k).of w) ≡ w
  unfolding plain
  plain_to_of w s e = with_rest k w (eqb-true _ _ e)

  plain_fits : (w : ℕ) → (plain k).is w ≡ true → (plain k).Fits ((plain k).of w)
  unfolding plain
  plain_fits w e = rest_below w

  plain_no_zero : (plain k).is 0 ≡ false
  unfolding plain kind_of
  plain_no_zero = ne_eqb _ _ (λ (e : 0 ≡ k). omega arith)

  pub plain_lawful : LawfulWord (plain k)
  plain_lawful =
      record { small = plain_small; is_to = plain_is_to; of_to = plain_of_to; to_of = plain_to_of; fits = plain_fits; no_zero = plain_no_zero }

head_path : {h g : Head} → h.type ≡ g.type → h.session ≡ g.session → h ≡ g
head_path p q = λ i. record { type = p i; session = q i }

head_small : (h : Head) → head_word.to h < 2 ^ 32
unfolding head_word
head_small h = with_small 1 _ (omega arith)

head_is_to : (h : Head) → head_word.Fits h → head_word.is (head_word.to h) ≡ true
unfolding head_word
head_is_to h f = eq-eqb _ 1 (kind_with 1 _)

head_of_to : (h : Head) → head_word.Fits h → head_word.of (head_word.to h) ≡ h
unfolding head_word
head_of_to h f = head_path (rw rest_with (omega arith)) (rw rest_with (omega arith))

head_to_of : (w : ℕ) → w < 2 ^ 32 → head_word.is w ≡ true → head_word.to (head_word.of w) ≡ w
unfolding head_word
head_to_of w s e = ap (with_kind 1) {y = rest_of w} (omega arith) ∙ with_rest 1 w (eqb-true _ _ e)

head_fits : (w : ℕ) → head_word.is w ≡ true → head_word.Fits (head_word.of w)
unfolding head_word
head_fits w e = let b = rest_below w in omega arith

head_no_zero : head_word.is 0 ≡ false
unfolding head_word kind_of
head_no_zero = refl

pub head_lawful : LawfulWord head_word
head_lawful = record { small = head_small; is_to = head_is_to; of_to = head_of_to; to_of = head_to_of; fits = head_fits; no_zero = head_no_zero }

ref_path : {r s : Ref} → r.index ≡ s.index → r.count ≡ s.count → r ≡ s
ref_path p q = λ i. record { index = p i; count = q i }

ref_small : (r : Ref) → reference_word.to r < 2 ^ 32
unfolding reference_word
ref_small r = with_small 4 _ (omega arith)

-- The test on a reference's kind, index and count, over plain numbers.
abbrev ref_test : (k i c : ℕ) → Bool
ref_test k i c = eqb k 4 && (ltb i 4096 && (ltb 0 c && ltb c 33))

ref_passes : (k i c : ℕ) → k ≡ 4 → i < 4096 → 0 < c → c < 33 → ref_test k i c ≡ true
ref_passes k i c e hi low high = rw (eq-eqb k 4 e, lt-ltb i 4096 hi, lt-ltb 0 c low, lt-ltb c 33 high)

ref_passed : (k i c : ℕ) → ref_test k i c ≡ true → (k ≡ 4) × (i < 4096) × (0 < c) × (c < 33)
ref_passed k i c e =
    let rest = and_right (eqb k 4) (ltb i 4096 && (ltb 0 c && ltb c 33)) e in
    let counts = and_right (ltb i 4096) (ltb 0 c && ltb c 33) rest in (
      eqb-true k 4 (and_left (eqb k 4) (ltb i 4096 && (ltb 0 c && ltb c 33)) e),
      ltb-true i 4096 (and_left (ltb i 4096) (ltb 0 c && ltb c 33) rest),
      ltb-true 0 c (and_left (ltb 0 c) (ltb c 33) counts),
      ltb-true c 33 (and_right (ltb 0 c) (ltb c 33) counts),
    )

ref_is_to : (r : Ref) → reference_word.Fits r → reference_word.is (reference_word.to r) ≡ true
unfolding reference_word
ref_is_to r f =
    let x = r.index * 64 + r.count in
    let e : rest_of (with_kind 4 x) ≡ x % 2 ^ 28 = rest_with 4 x in
    ref_passes (kind_of (with_kind 4 x)) (rest_of (with_kind 4 x) / 64) (rest_of (with_kind 4 x) % 64) (kind_with 4 x) (omega arith) (omega arith) (omega arith)

ref_of_to : (r : Ref) → reference_word.Fits r → reference_word.of (reference_word.to r) ≡ r
unfolding reference_word
ref_of_to r f = ref_path (rw rest_with (omega arith)) (rw rest_with (omega arith))

ref_to_of : (w : ℕ) → w < 2 ^ 32 → reference_word.is w ≡ true → reference_word.to (reference_word.of w) ≡ w
unfolding reference_word
ref_to_of w s e = ap (with_kind 4) {y = rest_of w} (omega arith) ∙ with_rest 4 w (ref_passed (kind_of w) (rest_of w / 64) (rest_of w % 64) e).0

ref_fits : (w : ℕ) → reference_word.is w ≡ true → reference_word.Fits (reference_word.of w)
unfolding reference_word
ref_fits w e = let p = ref_passed (kind_of w) (rest_of w / 64) (rest_of w % 64) e in (p.1, p.2, p.3)

ref_no_zero : reference_word.is 0 ≡ false
unfolding reference_word kind_of
ref_no_zero = refl

pub reference_lawful : LawfulWord reference_word
reference_lawful = record { small = ref_small; is_to = ref_is_to; of_to = ref_of_to; to_of = ref_to_of; fits = ref_fits; no_zero = ref_no_zero }

pub with_mod : (k x : ℕ) → with_kind k (x % 2 ^ 28) ≡ with_kind k x
unfolding with_kind
with_mod k x = omega arith

-- Reading a word by its four bytes.
abbrev word_at : List ℕ → ℕ → ℕ
word_at s i = word_of (get_or s i 0) (get_or s (i + 1) 0) (get_or s (i + 2) 0) (get_or s (i + 3) 0)

pub words_append : (p q : List ℕ) → length p % 4 ≡ 0 → link_words (p ++ q) ≡ link_words p ++ link_words q
unfolding link_words
words_append [] q z = refl
words_append (a ∷ []) q z = absurd (eqb-false 1 0 refl z)
words_append (a ∷ b ∷ []) q z = absurd (eqb-false 2 0 refl z)
words_append (a ∷ b ∷ c ∷ []) q z = absurd (eqb-false 3 0 refl z)
words_append (a ∷ b ∷ c ∷ d ∷ rest) q z = ap (λ (ws : List ℕ). word_of a b c d ∷ ws) (words_append rest q (omega arith))

four_from : (s : List ℕ) (i : ℕ) → i + 4 ≤ length s
    → drop i s ≡ get_or s i 0 ∷ get_or s (i + 1) 0 ∷ get_or s (i + 2) 0 ∷ get_or s (i + 3) 0 ∷ drop (i + 4) s
four_from s i h =
    simp towards_suc
    (rw (
      drop-cons s i 0 (omega arith),
      drop-cons s (suc i) 0 (omega arith),
      drop-cons s (suc (suc i)) 0 (omega arith),
      drop-cons s (suc (suc (suc i))) 0 (omega arith),
    ))

first_word : (s : List ℕ) (i : ℕ) → i + 4 ≤ length s → link_words (drop i s) ≡ word_at s i ∷ link_words (drop (i + 4) s)
unfolding link_words
first_word s i h = ap link_words (four_from s i h)

module _ (s : List ℕ) (k : ℕ) (h : k * 4 + 4 ≤ length s) where
  words_before : length (link_words (take (k * 4) s)) ≡ k
  words_before = simp (length_words, length-take-le (k * 4) s (omega arith)) (omega arith)

  split_words : link_words s ≡ link_words (take (k * 4) s) ++ word_at s (k * 4) ∷ link_words (drop (k * 4 + 4) s)
  split_words =
      ap link_words (sym (take-append-drop (k * 4) s))
      ∙ (words_append (take (k * 4) s) (drop (k * 4) s) (simp (length-take-le (k * 4) s (omega arith)) (omega arith)) ∙ rw (first_word s (k * 4) h))

  pub load_word : get_or (link_words s) k 0 ≡ word_at s (k * 4)
  load_word =
      ap (λ (ws : List ℕ). get_or ws k 0) split_words
      ∙ get_or_at (link_words (take (k * 4) s)) _ (link_words (drop (k * 4 + 4) s)) 0 k words_before

pub no_word : (s : List ℕ) (k : ℕ) → length s / 4 ≤ k → 0 ≡ get_or (link_words s) k 0
no_word s k h = sym (get_or-eq_default (link_words s) 0 {n = k} (simp length_words h))

-- What a word carries, by its quotient and remainders.
pub carried_is : (w : ℕ)
    → carried_by w
    ≡ cond (eqb (kind_of w) 5)
    (cond (eqb (rest_of w / 2 ^ 24) 3) 3
    (cond (eqb (rest_of w / 2 ^ 24) 2 && eqb (rest_of w % 256) 0) 2 (cond (eqb (rest_of w / 2 ^ 24) 1 && eqb (rest_of w % 65536) 0) 1 0))) 0
unfolding carried_by carries_three_bytes carries_two_bytes carries_one_byte many_of middle_byte low_byte
carried_is w = grind (arith, nat_tests)
