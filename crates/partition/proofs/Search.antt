-- The cuts from a position on, and how the search goes through them: past positions that are no candidates, and from a cut to where the next may follow.
use mathlib.Core.Bool.{Bool, true, false, ◌&&◌}
use mathlib.Core.List.{List, [], ◌∷◌, ◌++◌, append_assoc, append-nil}
use mathlib.Core.Path.{◌≡◌, refl, sym, ap, ◌∙◌, fun_ext}
use Prim.Native.Nat.{ℕ, zero, suc, ◌+◌, ◌-◌, ◌≤◌, ◌<◌, max}
use native.Mathlib.Decide.{dec_le, dec_lt}
use native.Mathlib.Nat.{zero-add, add-zero, suc-add, add-suc}
use native.Mathlib.Numerals.{add-one}
use native.Mathlib.Omega.{arith}
use lib.Dec.{leb}
use lib.ListN.{length, take, drop, set, replicate, length-set}
use lib.Seq.{take-suc-set, take-nil, drop-drop, drop-set-lt}
use borrow.Author.Tests.{le-leb, lt-leb}
use Rattle.partition.specs.Cuts.{window_at, value_at, lowest, candidate, cons_if, passing, spaced, cuts_of}
use Rattle.partition.specs.Found.{Found}
use Rattle.partition.specs.Scans.{Floor, FirstPassing}
use Rattle.partition.specs.Sliding.{Sized}
use Rattle.partition.proofs.Reading.{window_small}
use Rattle.partition.proofs.Candidates.{candidate_is, not_candidate}

-- The cuts among the positions from a up to e, if one at a is far enough from the last.
unfoldable pub after : (ℕ → Bool) → ℕ → ℕ → ℕ → List ℕ
after test h e a = spaced h a (passing test (e - a) a)

module _ (test : ℕ → Bool) (h : ℕ) where
  -- Positions that do not pass the test.
  skipped : (k j i : ℕ) → ((x : ℕ) → i ≤ x → x < i + k → test x ≡ false) → passing test (k + j) i ≡ passing test j (i + k)
  unfolding passing cons_if
  skipped zero j i none = rw (zero-add, add-zero)
  skipped (suc k) j i none =
      rw (suc-add, none i (omega arith) (omega arith), add-suc i k, ← suc-add i k) (skipped k j (suc i) (λ x a b. none x (omega arith) (omega arith)))

  -- Positions too near to the last cut.
  waited : (free k j i : ℕ) → i + k ≤ free → spaced h free (passing test (k + j) i) ≡ spaced h free (passing test j (i + k))
  unfolding passing spaced cons_if
  waited free zero j i l = rw (zero-add, add-zero)
  waited free (suc k) j i l =
      rw (suc-add, add-suc i k, ← suc-add i k) (at (test i) ∙ waited free k j (suc i) (omega arith))
    where
      at : (b : Bool) → spaced h free (cons_if b i (passing test (k + j) (suc i))) ≡ spaced h free (passing test (k + j) (suc i))
      at true = rw (lt-leb free i (omega arith))
      at false = refl

  -- Where all positions are far enough, it does not matter by how much.
  raised : (free k i : ℕ) → free ≤ i → spaced h free (passing test k i) ≡ spaced h i (passing test k i)
  unfolding passing spaced cons_if
  raised free zero i l = refl
  raised free (suc k) i l = at (test i) (raised free k (suc i) (omega arith)) (raised i k (suc i) (omega arith))
    where
      at : (b : Bool)
          → spaced h free (passing test k (suc i)) ≡ spaced h (suc i) (passing test k (suc i))
          → spaced h i (passing test k (suc i)) ≡ spaced h (suc i) (passing test k (suc i))
          → spaced h free (cons_if b i (passing test k (suc i))) ≡ spaced h i (cons_if b i (passing test k (suc i)))
      at true p q = rw (le-leb free i l, le-leb i i (omega arith))
      at false p q = p ∙ sym q

  -- From a on no position before b passes.
  skip : (e a b : ℕ) → a ≤ b → ((x : ℕ) → a ≤ x → x < b → test x ≡ false) → after test h e a ≡ after test h e b
  unfolding after passing spaced
  skip e a b l none = at (dec_le b e)
    where
      at : Dec (b ≤ e) → spaced h a (passing test (e - a) a) ≡ spaced h b (passing test (e - b) b)
      at (yes q) =
          let p : e - a ≡ (b - a) + (e - b) = omega arith in
          let r : a + (b - a) ≡ b = omega arith in
          ap (λ (n : ℕ). spaced h a (passing test n a)) p
          ∙ ap (spaced h a) (skipped (b - a) (e - b) a (λ x low high. none x low (omega arith)))
          ∙ ap (λ (n : ℕ). spaced h a (passing test (e - b) n)) r
          ∙ raised a (e - b) b l
      at (no q) =
          let p : e - a ≡ (e - a) + 0 = omega arith in
          let r : e - b ≡ 0 = omega arith in
          ap (λ (n : ℕ). spaced h a (passing test n a)) p
          ∙ ap (spaced h a) (skipped (e - a) 0 a (λ x low high. none x low (omega arith)))
          ∙ ap (λ (n : ℕ). spaced h b (passing test n b)) (sym r)

  -- After a cut the positions before b are too near.
  wait : (e i b : ℕ) → i ≤ b → spaced h b (passing test (e - i) i) ≡ after test h e b
  unfolding after passing spaced
  wait e i b l = at (dec_le b e)
    where
      at : Dec (b ≤ e) → spaced h b (passing test (e - i) i) ≡ spaced h b (passing test (e - b) b)
      at (yes q) =
          let p : e - i ≡ (b - i) + (e - b) = omega arith in
          let r : i + (b - i) ≡ b = omega arith in
          ap (λ (n : ℕ). spaced h b (passing test n i)) p
          ∙ waited b (b - i) (e - b) i (omega arith)
          ∙ ap (λ (n : ℕ). spaced h b (passing test (e - b) n)) r
      at (no q) =
          let p : e - i ≡ (e - i) + 0 = omega arith in
          let r : e - b ≡ 0 = omega arith in
          ap (λ (n : ℕ). spaced h b (passing test n i)) p
          ∙ waited b (e - i) 0 i (omega arith)
          ∙ ap (λ (n : ℕ). spaced h b (passing test n b)) (sym r)

  -- A cut at p.
  cut : (e p : ℕ) → p < e → test p ≡ true → after test h e p ≡ p ∷ after test h e (p + max h 1)
  unfolding after passing spaced cons_if
  cut e p l passes =
      let k : e - p ≡ suc (e - suc p) = omega arith in
      rw (k, passes, le-leb p p (omega arith)) (ap (λ (cs : List ℕ). p ∷ cs) (next (dec_le 1 h)))
    where
      next : Dec (1 ≤ h) → spaced h (p + h) (passing test (e - suc p) (suc p)) ≡ after test h e (p + max h 1)
      next (yes q) =
          let r : p + max h 1 ≡ p + h = omega arith in
          rw r (wait e (suc p) (p + h) (omega arith))
      next (no q) =
          let r : p + max h 1 ≡ suc p = omega arith in
          rw r (raised (p + h) (e - suc p) (suc p) (omega arith))

  -- No more cuts.
  pub none_after : (e a : ℕ) → ((x : ℕ) → a ≤ x → test x ≡ false) → after test h e a ≡ []
  unfolding after passing spaced
  none_after e a none =
      skip e a (a + e) (omega arith) (λ x low high. none x low)
      ∙ (let r : e - (a + e) ≡ 0 = omega arith in ap (λ (n : ℕ). spaced h (a + e) (passing test n (a + e))) r)

whole : {xs all : List ℕ} (ys : List ℕ) → ys ≡ [] → xs ++ ys ≡ all → xs ≡ all
whole {xs} ys e p = sym (append-nil xs) ∙ ap (λ (zs : List ℕ). xs ++ zs) (sym e) ∙ p

-- The search has found the first n cuts, which stand in `at`, and the others follow from a on.
pub record Going (w h s : ℕ) (bytes at : List ℕ) (n a : ℕ) : Type 0 where
  pub cuts : take n at ++ take (31 - n) (after (candidate w h s bytes) h (length bytes + 1) a) ≡ cuts_of w h s bytes
  pub few : n < 31
  pub places : length at ≡ 32
  pub rest : drop n at ≡ replicate (32 - n) 0
  pub from : h ≤ a

-- Before h there is no candidate, so the cuts are those from h on.
pub cuts_after : (w h s : ℕ) (bytes : List ℕ) → cuts_of w h s bytes ≡ take 31 (after (candidate w h s bytes) h (length bytes + 1) h)
unfolding cuts_of after
cuts_after w h s bytes =
    let e : length bytes + 1 ≡ length bytes + 1 - 0 = omega arith in
    ap (take 31)
    (ap (λ (n : ℕ). spaced h 0 (passing (candidate w h s bytes) n 0)) e
    ∙ skip (candidate w h s bytes) h (length bytes + 1) 0 h (omega arith) (λ x low high. not_candidate w h s bytes x (λ c. omega (arith, c.left))))

module _ (w h s : ℕ) (bytes at : List ℕ) where
  pub going_first : length at ≡ 32 → at ≡ replicate 32 0 → Going w h s bytes at 0 h
  going_first l z = record { cuts = sym (cuts_after w h s bytes); few = omega arith; places = l; rest = z; from = omega arith }

  module _ (n a to p : ℕ) (G : Going w h s bytes at n a) (F : FirstPassing (candidate w h s bytes) a to p) where
    module _ (step : ℕ) (least : step ≡ max h 1) (inside : to ≤ length bytes + 1) (l : p < to) where
      one_cut : take (n + 1) (set at n p) ++ take (31 - (n + 1)) (after (candidate w h s bytes) h (length bytes + 1) (p + step)) ≡ cuts_of w h s bytes
      one_cut =
          let k : 31 - n ≡ suc (31 - (n + 1)) = omega arith in
          let m : n < length at = omega arith in
          rw (add-one n, take-suc-set at n p, append_assoc, ← add-one n)
          (ap (λ (cs : List ℕ). take n at ++ cs) (rw (k, least) (sym (ap (take (suc (31 - (n + 1)))) to-next))) ∙ G.cuts)
        where
          to-next : after (candidate w h s bytes) h (length bytes + 1) a ≡ p ∷ after (candidate w h s bytes) h (length bytes + 1) (p + max h 1)
          to-next =
              skip (candidate w h s bytes) h (length bytes + 1) a p (omega arith) F.before
              ∙ cut (candidate w h s bytes) h (length bytes + 1) p (omega arith) (F.found l)

      rest_on : drop (n + 1) (set at n p) ≡ replicate (32 - (n + 1)) 0
      rest_on =
          let k : 32 - n ≡ suc (32 - (n + 1)) = omega arith in
          drop-set-lt (n + 1) at n p (omega arith)
          ∙ (sym (drop-drop 1 n at) ∙ (ap (drop 1) G.rest ∙ ap (λ (m : ℕ). drop 1 (replicate m 0)) k))

      pub going_on : (n + 1 ≡ 31 → ⊥) → Going w h s bytes (set at n p) (n + 1) (p + step)
      going_on ne = record { cuts = one_cut; few = omega arith; places = length-set at n p ∙ G.places; rest = rest_on; from = omega arith }

      pub found_full : n + 1 ≡ 31 → Found w h s bytes (n + 1) (set at n p)
      found_full e = record {
        cuts =
            whole (take (31 - (n + 1)) (after (candidate w h s bytes) h (length bytes + 1) (p + step)))
            (let z : 31 - (n + 1) ≡ 0 = omega arith in rw z)
            one_cut;
        few = omega arith;
        places = length-set at n p ∙ G.places;
        rest = rest_on;
      }

  -- No position from a on is a candidate.
  pub found_all : (n a : ℕ) → Going w h s bytes at n a
      → ((x : ℕ) → a ≤ x → x < length bytes + 1 - (w + h) → candidate w h s bytes x ≡ false) → Found w h s bytes n at
  found_all n a G none =
      record {
        cuts =
            whole (take (31 - n) (after (candidate w h s bytes) h (length bytes + 1) a))
            (ap (take (31 - n)) (none_after (candidate w h s bytes) h (length bytes + 1) a all) ∙ take-nil (31 - n))
            G.cuts;
        few = omega arith;
        places = G.places;
        rest = G.rest;
      }
    where
      all : (x : ℕ) → a ≤ x → candidate w h s bytes x ≡ false
      all x k = either (dec_lt x (length bytes + 1 - (w + h)))
        where
          either : Dec (x < length bytes + 1 - (w + h)) → candidate w h s bytes x ≡ false
          either (yes q) = none x k q
          either (no q) = not_candidate w h s bytes x (λ c. omega (arith, c.right))

-- After a cut at p no value is below that of p, as far as the next cut may follow.
pub floor_after : (w h s : ℕ) (bytes : List ℕ) (p m step : ℕ) → candidate w h s bytes p ≡ true → m ≡ value_at w s bytes p → step ≡ max h 1
    → Floor (value_at w s bytes) h m (p + step)
floor_after w h s bytes p m step c e l = record { before = λ j a b. omega (arith, (candidate_is w h s bytes p c).low.after j (omega arith) (omega arith)) }

-- A window of w bytes whose values are taken modulo s makes the same cuts.
module _ (w s width modulus : ℕ) (S : Sized w s width modulus) (h : ℕ) (bytes : List ℕ) where
  same_values : value_at w modulus bytes ≡ value_at w s bytes
  unfolding value_at
  same_values = fun_ext (λ i. S.reduces.same (window_at w bytes i) (window_small w bytes i))

  same_cuts : cuts_of width h modulus bytes ≡ cuts_of w h s bytes
  unfolding cuts_of candidate
  same_cuts =
      rw S.wide
      (ap (λ (v : ℕ → ℕ). take 31 (spaced h 0 (passing (λ i. leb h i && (leb (i + w + h) (length bytes) && lowest v i h)) (length bytes + 1) 0))) same_values)

  pub found_same : {distance : ℕ} {block : List ℕ} → block ≡ bytes → distance ≡ h
      → {n : ℕ} {at : List ℕ} → Found width distance modulus block n at → Found w h s bytes n at
  found_same b d F = record { cuts = F.cuts ∙ rw (b, d) same_cuts; few = F.few; places = F.places; rest = F.rest }
