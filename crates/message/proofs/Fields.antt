-- Laws of fields: what is printed is read again, and what is read is printed again. Each field is lawful by itself, and `read_to` and `taken`
-- make of that one link of a chain.
use Rattle.std.proofs.Common.{Bool, true, false, cond, ◌&&◌, ◌||◌, List, [], ◌∷◌, ◌++◌, append_assoc, ◌≡◌, refl, sym, ap, ◌∙◌, ℕ, zero, suc, ◌+◌, ◌*◌, ◌/◌, ◌%◌, ◌^◌, ◌<◌, arith, eqb-true, eq-eqb, ne_eqb, ltb-true, lt-ltb, ltb, eqb, lit<, length, get_or, drop}
use Rattle.std.proofs.Math.Bool.{false≢true, and-false}
use Rattle.std.proofs.Math.Option.{Option, none, some}
use Rattle.message.specs.Words.{word_of, kind_of, rest_of, with_kind, Word, plain, number_word, part_word, head_word, reference_word, word_of_bytes, many_of, top_byte, middle_byte, low_byte, carries_three_bytes, carries_two_bytes, carries_one_byte}
use Rattle.message.specs.Fields.{Field, read, one, number, head, parts_test, parts_value, value, values_are, values_of, values_after, values_to, values, Every, many_from, many_after, many_to, many, maybe_of, maybe_after, maybe_to, MaybeFits, maybe, maybe_number, only, rising, references, text_from, text_after, text_to, carries, text}
use Rattle.message.proofs.Words.{Bytes, Small, every_append, and_left, and_right, and_both, kind_with, rest_with, with_rest, with_small, with_mod, rest_below, LawfulWord, plain_lawful, head_lawful, reference_lawful}

pub record Lawful {A : Type 0} (F : Field A) : Type 0 where
  pub small : (a : A) → Small (F.to a)
  pub is_to : (a : A) (ws : List ℕ) → F.Fits a → F.Stops ws → F.is (F.to a ++ ws) ≡ true
  pub of_to : (a : A) (ws : List ℕ) → F.Fits a → F.Stops ws → F.of (F.to a ++ ws) ≡ a
  pub after_to : (a : A) (ws : List ℕ) → F.Fits a → F.Stops ws → F.after (F.to a ++ ws) ≡ ws
  pub to_of : (ws : List ℕ) → Small ws → F.is ws ≡ true → F.to (F.of ws) ++ F.after ws ≡ ws
  pub fits : (ws : List ℕ) → F.is ws ≡ true → F.Fits (F.of ws)
  pub small_after : (ws : List ℕ) → Small ws → Small (F.after ws)

-- One link of a chain, printing then reading.
pub read_to : {A B : Type 0} {F : Field A} → Lawful F → (a : A) (ws : List ℕ) (next : A → List ℕ → Option B) → F.Fits a → F.Stops ws
    → read F (F.to a ++ ws) next ≡ next a ws
unfolding read
read_to L a ws next f s = rw (L.is_to a ws f s, L.of_to a ws f s, L.after_to a ws f s)

-- One link of a chain, reading then printing.
pub was_taken : {A : Type 0} (t : Bool) (x : Option A) (a : A) → cond t x none ≡ some a → (t ≡ true) × (x ≡ some a)
was_taken true x a e = (refl, e)
was_taken false x a e = let z : ◌≡◌ {A = ℕ} 0 1 = cc in absurd (omega arith)

pub went : {A B : Type 0} (F : Field A) (ws : List ℕ) (next : A → List ℕ → Option B) (b : B) → read F ws next ≡ some b → next (F.of ws) (F.after ws) ≡ some b
unfolding read
went F ws next b e = (was_taken (F.is ws) (next (F.of ws) (F.after ws)) b e).1

pub taken : {A B : Type 0} {F : Field A} → Lawful F → (ws : List ℕ) (next : A → List ℕ → Option B) (b : B) {C : Type 0} → Small ws
    → read F ws next ≡ some b
    → ((a : A) (rest : List ℕ) → F.Fits a → Small rest → F.to a ++ rest ≡ ws → next a rest ≡ some b → C) → C
unfolding read
taken {F = F} L ws next b s e go =
    let w = was_taken (F.is ws) (next (F.of ws) (F.after ws)) b e in
    go (F.of ws) (F.after ws) (L.fits ws w.0) (L.small_after ws s) (L.to_of ws s w.0) w.1

small_drop : (n : ℕ) (ws : List ℕ) → Small ws → Small (drop n ws)
small_drop zero ws s = s
small_drop (suc n) [] s = tt
small_drop (suc n) (w ∷ ws) s = small_drop n ws s.1

-- One word.
module _ {A : Type 0} (W : Word A) (L : LawfulWord W) where
  one_small : (a : A) → Small ((one W).to a)
  unfolding one
  one_small a = (L.small a, tt)

  one_is_to : (a : A) (ws : List ℕ) → (one W).Fits a → (one W).Stops ws → (one W).is ((one W).to a ++ ws) ≡ true
  unfolding one
  one_is_to a ws f s = L.is_to a f

  one_of_to : (a : A) (ws : List ℕ) → (one W).Fits a → (one W).Stops ws → (one W).of ((one W).to a ++ ws) ≡ a
  unfolding one
  one_of_to a ws f s = L.of_to a f

  one_after_to : (a : A) (ws : List ℕ) → (one W).Fits a → (one W).Stops ws → (one W).after ((one W).to a ++ ws) ≡ ws
  unfolding one
  one_after_to a ws f s = refl

  one_to_of : (ws : List ℕ) → Small ws → (one W).is ws ≡ true → (one W).to ((one W).of ws) ++ (one W).after ws ≡ ws
  unfolding one
  one_to_of [] s e = absurd (false≢true (sym L.no_zero ∙ e))
  one_to_of (w ∷ ws) s e = ap (λ (v : ℕ). v ∷ ws) (L.to_of w s.0 e)

  one_fits : (ws : List ℕ) → (one W).is ws ≡ true → (one W).Fits ((one W).of ws)
  unfolding one
  one_fits ws e = L.fits (get_or ws 0 0) e

  one_small_after : (ws : List ℕ) → Small ws → Small ((one W).after ws)
  unfolding one
  one_small_after ws s = small_drop 1 ws s

  pub one_lawful : Lawful (one W)
  one_lawful =
      record {
        small = one_small;
        is_to = one_is_to;
        of_to = one_of_to;
        after_to = one_after_to;
        to_of = one_to_of;
        fits = one_fits;
        small_after = one_small_after;
      }

pub number_lawful : Lawful number
number_lawful = one_lawful (plain 2) (plain_lawful 2 (lit< tt) (lit< tt))

pub head_field_lawful : Lawful head
head_field_lawful = one_lawful head_word head_lawful

-- A 64-bit value.
part_lawful : LawfulWord part_word
part_lawful = plain_lawful 3 (lit< tt) (lit< tt)

part_is : (x : ℕ) → part_word.is (part_word.to x) ≡ true
unfolding plain
part_is x = eq-eqb _ 3 (kind_with 3 x)

part_of : (x : ℕ) → part_word.of (part_word.to x) ≡ x % 2 ^ 28
unfolding plain
part_of x = rest_with 3 x

part_below : (w : ℕ) → part_word.of w < 2 ^ 28
unfolding plain
part_below w = rest_below w

part_again : (w x : ℕ) → w < 2 ^ 32 → part_word.is w ≡ true → x % 2 ^ 28 ≡ part_word.of w → part_word.to x ≡ w
unfolding plain
part_again w x s e p = sym (with_mod 3 x) ∙ (ap (with_kind 3) p ∙ with_rest 3 w (eqb-true _ _ e))

abbrev value_test : (a b c : Bool) → ℕ → Bool
value_test a b c top = a && (b && (c && ltb top 256))

value_passed : (a b c : Bool) (top : ℕ) → value_test a b c top ≡ true → (a ≡ true) × (b ≡ true) × (c ≡ true) × (top < 256)
value_passed a b c top e =
    let rest = and_right a (b && (c && ltb top 256)) e in
    let last = and_right b (c && ltb top 256) rest in (
      and_left a (b && (c && ltb top 256)) e,
      and_left b (c && ltb top 256) rest,
      and_left c (ltb top 256) last,
      ltb-true top 256 (and_right c (ltb top 256) last),
    )

value_small : (x : ℕ) → Small (value.to x)
unfolding value
value_small x = (part_lawful.small _, (part_lawful.small _, (part_lawful.small _, tt)))

value_is_to : (x : ℕ) (ws : List ℕ) → value.Fits x → value.Stops ws → value.is (value.to x ++ ws) ≡ true
unfolding value parts_test parts_value
value_is_to x ws f s =
    let top : part_word.of (get_or (value.to x) 0 0) < 256 = rw part_of (omega arith) in
    simp part_is (lt-ltb _ 256 top)

value_of_to : (x : ℕ) (ws : List ℕ) → value.Fits x → value.Stops ws → value.of (value.to x ++ ws) ≡ x
unfolding value parts_value
value_of_to x ws f s = simp part_of (omega arith)

value_after_to : (x : ℕ) (ws : List ℕ) → value.Fits x → value.Stops ws → value.after (value.to x ++ ws) ≡ ws
unfolding value
value_after_to x ws f s = refl

no_part : part_word.is 0 ≡ true → ⊥
no_part e = false≢true (sym part_lawful.no_zero ∙ e)

value_to_of : (ws : List ℕ) → Small ws → value.is ws ≡ true → value.to (value.of ws) ++ value.after ws ≡ ws
unfolding value parts_test parts_value
value_to_of [] s e = absurd (no_part (value_passed (part_word.is 0) (part_word.is 0) (part_word.is 0) (part_word.of 0) e).0)
value_to_of (u ∷ []) s e = absurd (no_part (value_passed (part_word.is u) (part_word.is 0) (part_word.is 0) (part_word.of u) e).1)
value_to_of (u ∷ v ∷ []) s e = absurd (no_part (value_passed (part_word.is u) (part_word.is v) (part_word.is 0) (part_word.of u) e).2)
value_to_of (u ∷ v ∷ w ∷ ws) s e =
    let p = value_passed (part_word.is u) (part_word.is v) (part_word.is w) (part_word.of u) e in
    let bu = part_below u in
    let bv = part_below v in
    let bw = part_below w in
    let x = (part_word.of u % 256 * 2 ^ 28 + part_word.of v) * 2 ^ 28 + part_word.of w in
    let eu = part_again u (x / 2 ^ 28 / 2 ^ 28) s.0 p.0 (omega arith) in
    let ev = part_again v (x / 2 ^ 28) s.1.0 p.1 (omega arith) in
    let ew = part_again w x s.1.1.0 p.2 (omega arith) in
    cc

value_fits : (ws : List ℕ) → value.is ws ≡ true → value.Fits (value.of ws)
unfolding value parts_test parts_value
value_fits ws e =
    let p = value_passed (part_word.is (get_or ws 0 0)) (part_word.is (get_or ws 1 0)) (part_word.is (get_or ws 2 0)) (part_word.of (get_or ws 0 0)) e in
    let bv = part_below (get_or ws 1 0) in
    let bw = part_below (get_or ws 2 0) in
    omega arith

value_small_after : (ws : List ℕ) → Small ws → Small (value.after ws)
unfolding value
value_small_after ws s = small_drop 3 ws s

pub value_lawful : Lawful value
value_lawful =
    record {
      small = value_small;
      is_to = value_is_to;
      of_to = value_of_to;
      after_to = value_after_to;
      to_of = value_to_of;
      fits = value_fits;
      small_after = value_small_after;
    }

-- Several 64-bit values.
values_small : (xs : List ℕ) → Small (values_to xs)
unfolding values_to
values_small [] = tt
values_small (x ∷ xs) = every_append _ (value.to x) (values_to xs) (value_lawful.small x) (values_small xs)

value_stops : (ws : List ℕ) → value.Stops ws
unfolding value
value_stops ws = tt

values_are_to : (n : ℕ) (xs ws : List ℕ) → length xs ≡ n → Every value.Fits xs → values_are n (values_to xs ++ ws) ≡ true
unfolding values_are values_to
values_are_to zero xs ws e f = refl
values_are_to (suc n) [] ws e f = absurd (omega arith)
values_are_to (suc n) (x ∷ xs) ws e f =
    rw (
      append_assoc (value.to x) (values_to xs) ws,
      value_lawful.is_to x (values_to xs ++ ws) f.0 (value_stops _),
      value_lawful.after_to x (values_to xs ++ ws) f.0 (value_stops _),
    )
    (values_are_to n xs ws (omega arith) f.1)

values_of_to : (n : ℕ) (xs ws : List ℕ) → length xs ≡ n → Every value.Fits xs → values_of n (values_to xs ++ ws) ≡ xs
unfolding values_of values_to
values_of_to zero [] ws e f = refl
values_of_to zero (x ∷ xs) ws e f = absurd (omega arith)
values_of_to (suc n) [] ws e f = absurd (omega arith)
values_of_to (suc n) (x ∷ xs) ws e f =
    rw (
      append_assoc (value.to x) (values_to xs) ws,
      value_lawful.of_to x (values_to xs ++ ws) f.0 (value_stops _),
      value_lawful.after_to x (values_to xs ++ ws) f.0 (value_stops _),
      values_of_to n xs ws (omega arith) f.1,
    )

values_after_to : (n : ℕ) (xs ws : List ℕ) → length xs ≡ n → Every value.Fits xs → values_after n (values_to xs ++ ws) ≡ ws
unfolding values_after values_to
values_after_to zero [] ws e f = refl
values_after_to zero (x ∷ xs) ws e f = absurd (omega arith)
values_after_to (suc n) [] ws e f = absurd (omega arith)
values_after_to (suc n) (x ∷ xs) ws e f =
    rw (append_assoc (value.to x) (values_to xs) ws, value_lawful.after_to x (values_to xs ++ ws) f.0 (value_stops _))
    (values_after_to n xs ws (omega arith) f.1)

values_to_of : (n : ℕ) (ws : List ℕ) → Small ws → values_are n ws ≡ true → values_to (values_of n ws) ++ values_after n ws ≡ ws
unfolding values_are values_of values_after values_to
values_to_of zero ws s e = refl
values_to_of (suc n) ws s e =
    let here = and_left (value.is ws) (values_are n (value.after ws)) e in
    let rest = and_right (value.is ws) (values_are n (value.after ws)) e in
    append_assoc (value.to (value.of ws)) _ _
    ∙ (ap (λ (l : List ℕ). value.to (value.of ws) ++ l) (values_to_of n (value.after ws) (value_lawful.small_after ws s) rest)
    ∙ value_lawful.to_of ws s here)

values_fit : (n : ℕ) (ws : List ℕ) → values_are n ws ≡ true → Every value.Fits (values_of n ws)
unfolding values_are values_of
values_fit zero ws e = tt
values_fit (suc n) ws e = (
  value_lawful.fits ws (and_left (value.is ws) (values_are n (value.after ws)) e),
  values_fit n (value.after ws) (and_right (value.is ws) (values_are n (value.after ws)) e),
)

pub length_values : (n : ℕ) (ws : List ℕ) → length (values_of n ws) ≡ n
unfolding values_of
length_values zero ws = refl
length_values (suc n) ws = ap suc (length_values n (value.after ws))

values_small_after : (n : ℕ) (ws : List ℕ) → Small ws → Small (values_after n ws)
unfolding values_after
values_small_after zero ws s = s
values_small_after (suc n) ws s = values_small_after n (value.after ws) (value_lawful.small_after ws s)

pub values_lawful : (n : ℕ) → Lawful (values n)
unfolding values
values_lawful n =
    record {
      small = values_small;
      is_to = λ xs ws f s. values_are_to n xs ws f.0 f.1;
      of_to = λ xs ws f s. values_of_to n xs ws f.0 f.1;
      after_to = λ xs ws f s. values_after_to n xs ws f.0 f.1;
      to_of = values_to_of n;
      fits = λ ws e. (length_values n ws, values_fit n ws e);
      small_after = values_small_after n;
    }

-- Many words of one kind.
module _ {A : Type 0} (W : Word A) (L : LawfulWord W) where
  many_small : (xs : List A) → Small (many_to W xs)
  unfolding many_to
  many_small [] = tt
  many_small (x ∷ xs) = (L.small x, many_small xs)

  many_of_to : (xs : List A) (ws : List ℕ) → Every W.Fits xs → W.is (get_or ws 0 0) ≡ false → many_from W (many_to W xs ++ ws) ≡ xs
  unfolding many_from many_to
  many_of_to [] [] f s = refl
  many_of_to [] (w ∷ ws) f s = rw s
  many_of_to (x ∷ xs) ws f s = rw (L.is_to x f.0, L.of_to x f.0, many_of_to xs ws f.1 s)

  many_after_to : (xs : List A) (ws : List ℕ) → Every W.Fits xs → W.is (get_or ws 0 0) ≡ false → many_after W (many_to W xs ++ ws) ≡ ws
  unfolding many_after many_to
  many_after_to [] [] f s = refl
  many_after_to [] (w ∷ ws) f s = rw s
  many_after_to (x ∷ xs) ws f s = rw (L.is_to x f.0, many_after_to xs ws f.1 s)

  many_step : (w : ℕ) (ws : List ℕ) (t : Bool) → w < 2 ^ 32 → W.is w ≡ t → many_to W (many_from W ws) ++ many_after W ws ≡ ws
      → many_to W (cond t (W.of w ∷ many_from W ws) []) ++ cond t (many_after W ws) (w ∷ ws) ≡ w ∷ ws
  unfolding many_to
  many_step w ws true s e ih = rw (L.to_of w s e, ih)
  many_step w ws false s e ih = refl

  many_to_of : (ws : List ℕ) → Small ws → many_to W (many_from W ws) ++ many_after W ws ≡ ws
  unfolding many_from many_after many_to
  many_to_of [] s = refl
  many_to_of (w ∷ ws) s = many_step w ws (W.is w) s.0 refl (many_to_of ws s.1)

  many_fit_step : (w : ℕ) (ws : List ℕ) (t : Bool) → W.is w ≡ t → Every W.Fits (many_from W ws)
      → Every W.Fits (cond t (W.of w ∷ many_from W ws) [])
  many_fit_step w ws true e ih = (L.fits w e, ih)
  many_fit_step w ws false e ih = tt

  many_fit : (ws : List ℕ) → Every W.Fits (many_from W ws)
  unfolding many_from
  many_fit [] = tt
  many_fit (w ∷ ws) = many_fit_step w ws (W.is w) refl (many_fit ws)

  many_small_step : (w : ℕ) (ws : List ℕ) (t : Bool) → Small (w ∷ ws) → Small (many_after W ws) → Small (cond t (many_after W ws) (w ∷ ws))
  many_small_step w ws true s ih = ih
  many_small_step w ws false s ih = s

  many_small_after : (ws : List ℕ) → Small ws → Small (many_after W ws)
  unfolding many_after
  many_small_after [] s = tt
  many_small_after (w ∷ ws) s = many_small_step w ws (W.is w) s (many_small_after ws s.1)

  pub many_lawful : Lawful (many W)
  unfolding many
  many_lawful =
      record {
        small = many_small;
        is_to = λ xs ws f s. refl;
        of_to = many_of_to;
        after_to = many_after_to;
        to_of = λ ws s e. many_to_of ws s;
        fits = λ ws e. many_fit ws;
        small_after = many_small_after;
      }

-- A word that may be left out.
module _ {A : Type 0} (W : Word A) (L : LawfulWord W) where
  maybe_small : (a : Option A) → Small (maybe_to W a)
  unfolding maybe_to
  maybe_small none = tt
  maybe_small (some a) = (L.small a, tt)

  maybe_of_to : (a : Option A) (ws : List ℕ) → MaybeFits W a → W.is (get_or ws 0 0) ≡ false → maybe_of W (maybe_to W a ++ ws) ≡ a
  unfolding maybe_of maybe_to MaybeFits
  maybe_of_to none ws f s = rw s refl
  maybe_of_to (some a) ws f s = rw (L.is_to a f, L.of_to a f) refl

  maybe_after_to : (a : Option A) (ws : List ℕ) → MaybeFits W a → W.is (get_or ws 0 0) ≡ false → maybe_after W (maybe_to W a ++ ws) ≡ ws
  unfolding maybe_after maybe_to MaybeFits
  maybe_after_to none ws f s = rw s refl
  maybe_after_to (some a) ws f s = rw (L.is_to a f) refl

  maybe_to_of : (ws : List ℕ) → Small ws → maybe_to W (maybe_of W ws) ++ maybe_after W ws ≡ ws
  unfolding maybe_of maybe_after maybe_to
  maybe_to_of [] s = rw L.no_zero refl
  maybe_to_of (w ∷ ws) s = go (W.is w) refl
    where
      go : (t : Bool) → W.is w ≡ t → maybe_to W (cond t (some (W.of w)) none) ++ cond t ws (w ∷ ws) ≡ w ∷ ws
      go true e = ap (λ (v : ℕ). v ∷ ws) (L.to_of w s.0 e)
      go false e = refl

  maybe_fits : (ws : List ℕ) → MaybeFits W (maybe_of W ws)
  unfolding maybe_of MaybeFits
  maybe_fits ws = go (W.is (get_or ws 0 0)) refl
    where
      go : (t : Bool) → W.is (get_or ws 0 0) ≡ t → MaybeFits W (cond t (some (W.of (get_or ws 0 0))) none)
      go true e = L.fits (get_or ws 0 0) e
      go false e = tt

  maybe_small_after : (ws : List ℕ) → Small ws → Small (maybe_after W ws)
  unfolding maybe_after
  maybe_small_after [] s = go (W.is 0)
    where
      go : (t : Bool) → Small (cond t (drop 1 []) [])
      go true = tt
      go false = tt
  maybe_small_after (w ∷ ws) s = go (W.is w)
    where
      go : (t : Bool) → Small (cond t ws (w ∷ ws))
      go true = s.1
      go false = s

  pub maybe_lawful : Lawful (maybe W)
  unfolding maybe
  maybe_lawful =
      record {
        small = maybe_small;
        is_to = λ a ws f s. refl;
        of_to = maybe_of_to;
        after_to = maybe_after_to;
        to_of = λ ws s e. maybe_to_of ws s;
        fits = λ ws e. maybe_fits ws;
        small_after = maybe_small_after;
      }

pub maybe_number_lawful : Lawful maybe_number
maybe_number_lawful = maybe_lawful number_word (plain_lawful 2 (lit< tt) (lit< tt))

-- A field of which only some values are taken.
module _ {A : Type 0} (test : A → Bool) (F : Field A) (L : Lawful F) where
  pub only_lawful : Lawful (only test F)
  unfolding only
  only_lawful =
      record {
        small = L.small;
        is_to = λ a ws f s. rw (L.of_to a ws f.0 s) (and_both (L.is_to a ws f.0 s) f.1);
        of_to = λ a ws f s. L.of_to a ws f.0 s;
        after_to = λ a ws f s. L.after_to a ws f.0 s;
        to_of = λ ws s e. L.to_of ws s (and_left (F.is ws) (test (F.of ws)) e);
        fits = λ ws e. (L.fits ws (and_left (F.is ws) (test (F.of ws)) e), and_right (F.is ws) (test (F.of ws)) e);
        small_after = L.small_after;
      }

  pub only_refused : {B : Type 0} (a : A) (ws : List ℕ) (next : A → List ℕ → Option B) → F.Fits a → F.Stops ws → test a ≡ false
      → read (only test F) ((only test F).to a ++ ws) next ≡ none
  unfolding read only
  only_refused a ws next f s e = rw (L.of_to a ws f s, e, and-false (F.is (F.to a ++ ws)))

pub references_lawful : Lawful references
references_lawful = only_lawful rising (many reference_word) (many_lawful reference_word reference_lawful)

-- The bytes of a literal.
pub record BytesWord (w many a b c : ℕ) : Type 0 where
  pub kind : kind_of w ≡ 5
  pub many_is : many_of w ≡ many
  pub top : top_byte w ≡ a
  pub middle : middle_byte w ≡ b
  pub low : low_byte w ≡ c

bytes_word : (many a b c : ℕ) → many < 4 → a < 256 → b < 256 → c < 256 → BytesWord (word_of_bytes many a b c) many a b c
unfolding word_of_bytes many_of top_byte middle_byte low_byte
bytes_word many a b c hm ha hb hc =
    let e = rest_with 5 (word_of many a b c) in
    record { kind = kind_with 5 _; many_is = omega arith; top = omega arith; middle = omega arith; low = omega arith }

bytes_again : (w : ℕ) → kind_of w ≡ 5 → word_of_bytes (many_of w) (top_byte w) (middle_byte w) (low_byte w) ≡ w
unfolding word_of_bytes many_of top_byte middle_byte low_byte
bytes_again w e = ap (with_kind 5) {y = rest_of w} (omega arith) ∙ with_rest 5 w e

-- What the three tests say of a word that was made, and of one that was read.
three_passes : (w a b c : ℕ) → BytesWord w 3 a b c → carries_three_bytes w ≡ true
unfolding carries_three_bytes
three_passes w a b c m = rw (m.kind, m.many_is)

short_fails : (w k a b c : ℕ) → k < 3 → BytesWord w k a b c → carries_three_bytes w ≡ false
unfolding carries_three_bytes
short_fails w k a b c h m = rw (m.kind, m.many_is, ne_eqb k 3 (λ (e : k ≡ 3). omega arith))

two_passes : (w a b : ℕ) → BytesWord w 2 a b 0 → carries_two_bytes w ≡ true
unfolding carries_two_bytes
two_passes w a b m = rw (m.kind, m.many_is, m.low)

two_fails : (w a : ℕ) → BytesWord w 1 a 0 0 → carries_two_bytes w ≡ false
unfolding carries_two_bytes
two_fails w a m = rw (m.kind, m.many_is)

one_passes : (w a : ℕ) → BytesWord w 1 a 0 0 → carries_one_byte w ≡ true
unfolding carries_one_byte
one_passes w a m = rw (m.kind, m.many_is, m.middle, m.low)

three_passed : (w : ℕ) → carries_three_bytes w ≡ true → (kind_of w ≡ 5) × (many_of w ≡ 3)
unfolding carries_three_bytes
three_passed w e = (
  eqb-true (kind_of w) 5 (and_left (eqb (kind_of w) 5) (eqb (many_of w) 3) e),
  eqb-true (many_of w) 3 (and_right (eqb (kind_of w) 5) (eqb (many_of w) 3) e),
)

two_passed : (w : ℕ) → carries_two_bytes w ≡ true → (kind_of w ≡ 5) × (many_of w ≡ 2) × (low_byte w ≡ 0)
unfolding carries_two_bytes
two_passed w e =
    let rest = and_right (eqb (kind_of w) 5) (eqb (many_of w) 2 && eqb (low_byte w) 0) e in (
      eqb-true (kind_of w) 5 (and_left (eqb (kind_of w) 5) (eqb (many_of w) 2 && eqb (low_byte w) 0) e),
      eqb-true (many_of w) 2 (and_left (eqb (many_of w) 2) (eqb (low_byte w) 0) rest),
      eqb-true (low_byte w) 0 (and_right (eqb (many_of w) 2) (eqb (low_byte w) 0) rest),
    )

one_passed : (w : ℕ) → carries_one_byte w ≡ true → (kind_of w ≡ 5) × (many_of w ≡ 1) × (middle_byte w ≡ 0) × (low_byte w ≡ 0)
unfolding carries_one_byte
one_passed w e =
    let unused = eqb (middle_byte w) 0 && eqb (low_byte w) 0 in
    let rest = and_right (eqb (kind_of w) 5) (eqb (many_of w) 1 && unused) e in
    let last = and_right (eqb (many_of w) 1) unused rest in (
      eqb-true (kind_of w) 5 (and_left (eqb (kind_of w) 5) (eqb (many_of w) 1 && unused) e),
      eqb-true (many_of w) 1 (and_left (eqb (many_of w) 1) unused rest),
      eqb-true (middle_byte w) 0 (and_left (eqb (middle_byte w) 0) (eqb (low_byte w) 0) last),
      eqb-true (low_byte w) 0 (and_right (eqb (middle_byte w) 0) (eqb (low_byte w) 0) last),
    )

three_again : (w : ℕ) → carries_three_bytes w ≡ true → word_of_bytes 3 (top_byte w) (middle_byte w) (low_byte w) ≡ w
three_again w e =
    let p = three_passed w e in
    ap (λ (k : ℕ). word_of_bytes k (top_byte w) (middle_byte w) (low_byte w)) (sym p.1) ∙ bytes_again w p.0

two_again : (w : ℕ) → carries_two_bytes w ≡ true → word_of_bytes 2 (top_byte w) (middle_byte w) 0 ≡ w
two_again w e =
    let p = two_passed w e in
    ap (λ (k : ℕ). word_of_bytes k (top_byte w) (middle_byte w) 0) (sym p.1)
    ∙ (ap (λ (c : ℕ). word_of_bytes (many_of w) (top_byte w) (middle_byte w) c) (sym p.2) ∙ bytes_again w p.0)

one_again : (w : ℕ) → carries_one_byte w ≡ true → word_of_bytes 1 (top_byte w) 0 0 ≡ w
one_again w e =
    let p = one_passed w e in
    ap (λ (k : ℕ). word_of_bytes k (top_byte w) 0 0) (sym p.1)
    ∙ (ap (λ (b : ℕ). word_of_bytes (many_of w) (top_byte w) b 0) (sym p.2)
    ∙ (ap (λ (c : ℕ). word_of_bytes (many_of w) (top_byte w) (middle_byte w) c) (sym p.3) ∙ bytes_again w p.0))

pub bytes_below : (w : ℕ) → (top_byte w < 256) × (middle_byte w < 256) × (low_byte w < 256)
unfolding top_byte middle_byte low_byte
bytes_below w = omega arith

text_small : (xs : List ℕ) → Small (text_to xs)
unfolding text_to word_of_bytes
text_small [] = tt
text_small (a ∷ []) = (with_small 5 _ (lit< tt), tt)
text_small (a ∷ b ∷ []) = (with_small 5 _ (lit< tt), tt)
text_small (a ∷ b ∷ c ∷ rest) = (with_small 5 _ (lit< tt), text_small rest)

-- What stops a text is no bytes word.
pub record NoBytes (w : ℕ) : Type 0 where
  pub three : carries_three_bytes w ≡ false
  pub two : carries_two_bytes w ≡ false
  pub one : carries_one_byte w ≡ false

no_bytes_of : (t3 t2 t1 : Bool) → (t3 || (t2 || t1)) ≡ false → (t3 ≡ false) × (t2 ≡ false) × (t1 ≡ false)
no_bytes_of true t2 t1 e = absurd (false≢true (sym e))
no_bytes_of false true t1 e = absurd (false≢true (sym e))
no_bytes_of false false t1 e = (refl, refl, e)

pub no_bytes : (w : ℕ) → carries w ≡ false → NoBytes w
unfolding carries
no_bytes w e = let p = no_bytes_of (carries_three_bytes w) (carries_two_bytes w) (carries_one_byte w) e in record { three = p.0; two = p.1; one = p.2 }

text_of_to : (xs ws : List ℕ) → Bytes xs → carries (get_or ws 0 0) ≡ false → text_from (text_to xs ++ ws) ≡ xs
unfolding text_from text_to
text_of_to [] [] f s = refl
text_of_to [] (w ∷ ws) f s = let n = no_bytes w s in rw (n.three, n.two, n.one)
text_of_to (a ∷ []) ws f s =
    let m = bytes_word 1 a 0 0 (lit< tt) f.0 (lit< tt) (lit< tt) in
    rw (short_fails _ 1 a 0 0 (lit< tt) m, two_fails _ a m, one_passes _ a m, m.top)
text_of_to (a ∷ b ∷ []) ws f s =
    let m = bytes_word 2 a b 0 (lit< tt) f.0 f.1.0 (lit< tt) in
    rw (short_fails _ 2 a b 0 (lit< tt) m, two_passes _ a b m, m.top, m.middle)
text_of_to (a ∷ b ∷ c ∷ rest) ws f s =
    let m = bytes_word 3 a b c (lit< tt) f.0 f.1.0 f.1.1.0 in
    rw (three_passes _ a b c m, m.top, m.middle, m.low, text_of_to rest ws f.1.1.1 s)

text_after_to : (xs ws : List ℕ) → Bytes xs → carries (get_or ws 0 0) ≡ false → text_after (text_to xs ++ ws) ≡ ws
unfolding text_after text_to
text_after_to [] [] f s = refl
text_after_to [] (w ∷ ws) f s = let n = no_bytes w s in rw (n.three, n.two, n.one)
text_after_to (a ∷ []) ws f s =
    let m = bytes_word 1 a 0 0 (lit< tt) f.0 (lit< tt) (lit< tt) in
    rw (short_fails _ 1 a 0 0 (lit< tt) m, two_fails _ a m, one_passes _ a m)
text_after_to (a ∷ b ∷ []) ws f s =
    let m = bytes_word 2 a b 0 (lit< tt) f.0 f.1.0 (lit< tt) in
    rw (short_fails _ 2 a b 0 (lit< tt) m, two_passes _ a b m)
text_after_to (a ∷ b ∷ c ∷ rest) ws f s =
    let m = bytes_word 3 a b c (lit< tt) f.0 f.1.0 f.1.1.0 in
    rw (three_passes _ a b c m) (text_after_to rest ws f.1.1.1 s)

text_step : (w : ℕ) (ws : List ℕ) (t3 t2 t1 : Bool) → carries_three_bytes w ≡ t3 → carries_two_bytes w ≡ t2 → carries_one_byte w ≡ t1
    → text_to (text_from ws) ++ text_after ws ≡ ws
    → text_to (cond t3 (top_byte w ∷ middle_byte w ∷ low_byte w ∷ text_from ws) (cond t2 (top_byte w ∷ middle_byte w ∷ []) (cond t1 (top_byte w ∷ []) [])))
    ++ cond t3 (text_after ws) (cond (t2 || t1) ws (w ∷ ws))
    ≡ w ∷ ws
unfolding text_to
text_step w ws true t2 t1 e3 e2 e1 ih = rw (three_again w e3, ih)
text_step w ws false true t1 e3 e2 e1 ih = rw (two_again w e2)
text_step w ws false false true e3 e2 e1 ih = rw (one_again w e1)
text_step w ws false false false e3 e2 e1 ih = refl

text_to_of : (ws : List ℕ) → text_to (text_from ws) ++ text_after ws ≡ ws
unfolding text_from text_after text_to
text_to_of [] = refl
text_to_of (w ∷ ws) = text_step w ws (carries_three_bytes w) (carries_two_bytes w) (carries_one_byte w) refl refl refl (text_to_of ws)

text_fit_step : (w : ℕ) (ws : List ℕ) (t3 t2 t1 : Bool) → Bytes (text_from ws)
    → Bytes (cond t3 (top_byte w ∷ middle_byte w ∷ low_byte w ∷ text_from ws) (cond t2 (top_byte w ∷ middle_byte w ∷ []) (cond t1 (top_byte w ∷ []) [])))
text_fit_step w ws true t2 t1 ih = let b = bytes_below w in (b.0, (b.1, (b.2, ih)))
text_fit_step w ws false true t1 ih = let b = bytes_below w in (b.0, (b.1, tt))
text_fit_step w ws false false true ih = ((bytes_below w).0, tt)
text_fit_step w ws false false false ih = tt

text_fit : (ws : List ℕ) → Bytes (text_from ws)
unfolding text_from
text_fit [] = tt
text_fit (w ∷ ws) = text_fit_step w ws (carries_three_bytes w) (carries_two_bytes w) (carries_one_byte w) (text_fit ws)

text_small_step : (w : ℕ) (ws : List ℕ) (t t' : Bool) → Small (w ∷ ws) → Small (text_after ws)
    → Small (cond t (text_after ws) (cond t' ws (w ∷ ws)))
text_small_step w ws true t' s ih = ih
text_small_step w ws false true s ih = s.1
text_small_step w ws false false s ih = s

text_small_after : (ws : List ℕ) → Small ws → Small (text_after ws)
unfolding text_after
text_small_after [] s = tt
text_small_after (w ∷ ws) s = text_small_step w ws (carries_three_bytes w) (carries_two_bytes w || carries_one_byte w) s (text_small_after ws s.1)

pub text_lawful : Lawful text
unfolding text
text_lawful =
    record {
      small = text_small;
      is_to = λ xs ws f s. refl;
      of_to = text_of_to;
      after_to = text_after_to;
      to_of = λ ws s e. text_to_of ws;
      fits = λ ws e. text_fit ws;
      small_after = text_small_after;
    }
