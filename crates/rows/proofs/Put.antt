-- Laws of writing stretches of bytes: a row stored is one, and two written one after the other are one.
use mathlib.Core.List.{List, ◌++◌, append_assoc}
use mathlib.Core.Path.{◌≡◌, refl, sym, ap, ◌∙◌}
use Prim.Native.Nat.{ℕ, ◌+◌, ◌*◌, ◌≤◌}
use native.Mathlib.Omega.{arith}
use lib.ListN.{length, take, drop, length-append, length-drop}
use lib.Seq.{length-take-le, take_at, drop-append-add, drop-drop}
use borrow.Author.Tests.{le-leb}
use Rattle.rows.specs.Rows.{bytes_of, store_of, put}

pub length_bytes : (x : ℕ) → length (bytes_of x) ≡ 8
unfolding bytes_of
length_bytes x = refl

pub length-put : (t e : List ℕ) (i : ℕ) → i + length e ≤ length t → length (put t i e) ≡ length t
unfolding put
length-put t e i h = simp (length-append, length-drop, length-take-le i t (omega arith)) (omega arith)

pub put-put : (t a b : List ℕ) (i j : ℕ) → j ≡ i + length a → j ≤ length t → put (put t i a) j b ≡ put t i (a ++ b)
unfolding put
put-put t a b i j e h =
    let front = take i t ++ a in
    let back = drop (i + length a) t in
    let long : length front ≡ j = simp (length-append, length-take-le i t (omega arith)) (sym e) in
    let rest = drop (i + length a + length b) t in
    let kept : drop (j + length b) (front ++ back) ≡ rest =
    ap (λ (n : ℕ). drop (n + length b) (front ++ back)) (sym long) ∙ (drop-append-add front back (length b) ∙ drop-drop (length b) (i + length a) t) in
    let size : i + length (a ++ b) ≡ i + length a + length b = simp length-append (omega arith) in
    ap (λ (l : List ℕ). take j l ++ (b ++ drop (j + length b) l)) (sym (append_assoc (take i t) a back))
    ∙ (rw (take_at front back j long, kept, size) (append_assoc (take i t) a (b ++ rest) ∙ ap (λ (l : List ℕ). take i t ++ l) (sym (append_assoc a b rest))))

-- A row stored is a stretch of eight bytes.
pub store_put : (t : List ℕ) (k x i : ℕ) → k * 8 ≡ i → i + 8 ≤ length t → store_of t k x ≡ put t i (bytes_of x)
unfolding store_of put bytes_of
store_put t k x i e h = rw (le-leb (k * 8 + 8) (length t) (omega arith), e)

-- Two rows stored one after the other are one stretch.
pub store_two : (t₀ t₁ t₂ : List ℕ) (k x y : ℕ) → k * 16 + 16 ≤ length t₀ → t₁ ≡ store_of t₀ (k * 2) x → t₂ ≡ store_of t₁ (k * 2 + 1) y
    → t₂ ≡ put t₀ (k * 16) (bytes_of x ++ bytes_of y)
store_two t₀ t₁ t₂ k x y room first second =
    let one : t₁ ≡ put t₀ (k * 16) (bytes_of x) = first ∙ store_put t₀ (k * 2) x (k * 16) (omega arith) (omega arith) in
    let long : length t₁ ≡ length t₀ = ap length one ∙ length-put t₀ (bytes_of x) (k * 16) (omega (arith, length_bytes x)) in
    second
    ∙ (store_put t₁ (k * 2 + 1) y (k * 16 + 8) (omega arith) (omega arith)
    ∙ (ap (λ (t : List ℕ). put t (k * 16 + 8) (bytes_of y)) one
    ∙ put-put t₀ (bytes_of x) (bytes_of y) (k * 16) (k * 16 + 8) (omega (arith, length_bytes x)) (omega arith)))
