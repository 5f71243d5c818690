-- Where the cuts of a block lie: they rise, they lie inside the block, and there are at most 31.
use mathlib.Core.Bool.{Bool, true, false, cond}
use mathlib.Core.List.{List}
use mathlib.Core.Path.{◌≡◌, refl}
use Prim.Native.Nat.{ℕ, zero, suc, ◌+◌, ◌-◌, ◌≤◌}
use native.Mathlib.Omega.{arith}
use lib.Dec.{leb}
use lib.ListN.{length, take, length-take}
use borrow.Author.Tests.{leb-true}
use Rattle.partition.specs.Cuts.{candidate, cons_if, passing, spaced, cuts_of}
use Rattle.partition.specs.Apart.{Apart, none, cut}
use Rattle.partition.proofs.Candidates.{candidate_is}
use Rattle.partition.proofs.Search.{after, cuts_after}

module _ (test : ℕ → Bool) (h to : ℕ) (inside : (x : ℕ) → test x ≡ true → x + h ≤ to) where
  spaced_apart : (k i free : ℕ) → Apart h free (spaced h free (passing test k i)) to
  unfolding passing spaced cons_if
  spaced_apart zero i free = none
  spaced_apart (suc k) i free = here (spaced_apart k (suc i)) (test i) refl
    where
      here : ((f : ℕ) → Apart h f (spaced h f (passing test k (suc i))) to)
          → (b : Bool) → test i ≡ b → Apart h free (spaced h free (cons_if b i (passing test k (suc i)))) to
      here later false e = later free
      here later true e = far (leb free i) refl
        where
          far : (b : Bool) → leb free i ≡ b → Apart h free (cons_if b i (spaced h (cond b (i + h) free) (passing test k (suc i)))) to
          far true q = cut (leb-true free i q) (inside i e) (later (i + h))
          far false q = later free

taken : {d from to : ℕ} {cs : List ℕ} (k : ℕ) → Apart d from cs to → Apart d from (take k cs) to
taken zero s = none
taken (suc k) none = none
taken {d = d} {from = from} {to = to} (suc k) (cut {c = c} {cs = cs} low high rest) = cut low high (taken {from = c + d} k rest)

-- Cuts that are d apart are also less far apart, from an earlier position to a later one.
pub weaker : {d e from into to past : ℕ} {cs : List ℕ} → Apart d from cs to → e ≤ d → into ≤ from → to ≤ past → Apart e into cs past
weaker none a b c = none
weaker {into = into} {past = past} (cut {c = x} low high rest) a b c =
    cut {from = into} {to = past} {c = x} (omega arith) (omega arith) (weaker rest a (omega arith) c)

module _ (w h s : ℕ) (bytes : List ℕ) where
  -- The first cut is at h or after it, the others are h further each, and a window and h more bytes follow each.
  pub cuts_apart : Apart h h (cuts_of w h s bytes) (length bytes - w)
  unfolding after
  cuts_apart =
      rw (cuts_after w h s bytes)
      (taken 31
      (spaced_apart (candidate w h s bytes) h (length bytes - w) (λ x e. omega (arith, (candidate_is w h s bytes x e).right)) (length bytes + 1 - h) h h))

  pub cuts_rise : Apart 0 0 (cuts_of w h s bytes) (length bytes)
  cuts_rise = weaker cuts_apart (omega arith) (omega arith) (omega arith)

  pub cuts_few : length (cuts_of w h s bytes) ≤ 31
  unfolding cuts_of
  cuts_few = simp length-take (omega arith)
