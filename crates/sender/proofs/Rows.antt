-- Rows written one after the other to the front of a state, and read back.
use mathlib.Core.List.{List, [], ◌∷◌, ◌++◌, append_assoc, append-nil}
use mathlib.Core.Path.{◌≡◌, refl, sym, ap, ◌∙◌}
use Prim.Native.Nat.{ℕ, ◌+◌, ◌*◌, ◌^◌, ◌≤◌, ◌<◌}
use native.Mathlib.Omega.{arith}
use borrow.Author.Tests.{le-leb}
use lib.ListN.{length, get_or, drop, length-append, length-drop}
use lib.Seq.{take_at, drop-append-add, drop-drop}
use Rattle.rows.specs.Rows.{words_of, bytes_of, store_of, Stored}
use Rattle.rows.proofs.Rows.{words_cons}
use Rattle.tree.specs.declared.Settings.{Settings}
use Rattle.sketch.specs.Sums.{row_bytes}
use Rattle.sketch.proofs.Sums.{rows_append, length_rows}
use Rattle.sender.specs.State.{settings_rows, settings_in}

-- The first rows are xs, and the bytes after them are as they came.
pub record Begun (before now xs : List ℕ) : Type 0 where
  pub long : length now ≡ length before
  pub bytes : now ≡ row_bytes xs ++ drop (length xs * 8) before

pub begun_none : (t : List ℕ) → Begun t t []
unfolding row_bytes
begun_none t = record { long = refl; bytes = refl }

one_row : (x : ℕ) → row_bytes (x ∷ []) ≡ bytes_of x
unfolding row_bytes
one_row x = append-nil (bytes_of x)

length_begun : (before xs : List ℕ) → length xs * 8 ≤ length before → length (row_bytes xs ++ drop (length xs * 8) before) ≡ length before
length_begun before xs h = simp (length-append, length_rows, length-drop) (omega arith)

pub begun_more : (before now after xs : List ℕ) (x : ℕ) → length xs * 8 + 8 ≤ length before → Begun before now xs → Stored now after (length xs) x
    → Begun before after (xs ++ x ∷ [])
unfolding store_of
begun_more before now after xs x room begun stored =
    let k = length xs in
    let front = row_bytes xs in
    let back = drop (k * 8) before in
    let size : length front ≡ k * 8 = length_rows xs in
    let count : length (xs ++ x ∷ []) ≡ k + 1 = length-append xs (x ∷ []) in
    let place : k * 8 + 8 ≡ length (xs ++ x ∷ []) * 8 = omega arith in
    let kept : drop (k * 8 + 8) (front ++ back) ≡ drop (k * 8 + 8) before =
    ap (λ (n : ℕ). drop (n + 8) (front ++ back)) (sym size) ∙ (drop-append-add front back 8 ∙ drop-drop 8 (k * 8) before) in
    let rows : row_bytes (xs ++ x ∷ []) ≡ front ++ bytes_of x = rows_append xs (x ∷ []) ∙ ap (λ (l : List ℕ). front ++ l) (one_row x) in
    let is : after ≡ row_bytes (xs ++ x ∷ []) ++ drop (length (xs ++ x ∷ []) * 8) before =
    stored.bytes
    ∙ (rw (le-leb (k * 8 + 8) (length now) (omega (arith, begun.long)), begun.bytes, take_at front back (k * 8) size, kept, ← place, rows)
    (sym (append_assoc front (bytes_of x) (drop (k * 8 + 8) before)))) in
    record { long = ap length is ∙ length_begun before (xs ++ x ∷ []) (omega arith); bytes = is }

-- No row in front, and a row that is read first.
pub no_rows : (rest : List ℕ) → words_of (row_bytes [] ++ rest) ≡ words_of rest
unfolding row_bytes
no_rows rest = refl

pub row_back : (x : ℕ) (xs rest ws : List ℕ) → x < 2 ^ 64 → words_of (row_bytes xs ++ rest) ≡ ws → words_of (row_bytes (x ∷ xs) ++ rest) ≡ x ∷ ws
unfolding row_bytes
row_back x xs rest ws h e =
    ap words_of (append_assoc (bytes_of x) (row_bytes xs) rest) ∙ (words_cons x (row_bytes xs ++ rest) h ∙ ap (λ (l : List ℕ). x ∷ l) e)

-- Five rows stored one after the other are the settings.
pub five_rows : (t₀ t₁ t₂ t₃ t₄ t₅ : List ℕ) (σ : Settings) → 40 ≤ length t₀ → Stored t₀ t₁ 0 σ.window → Stored t₁ t₂ 1 σ.fan_out
    → Stored t₂ t₃ 2 σ.levels → Stored t₃ t₄ 3 σ.nominal → Stored t₄ t₅ 4 σ.width → t₅ ≡ row_bytes (settings_rows σ) ++ drop 40 t₀
unfolding settings_rows
five_rows t₀ t₁ t₂ t₃ t₄ t₅ σ room s₁ s₂ s₃ s₄ s₅ =
    let w = σ.window in
    let p = σ.fan_out in
    let l = σ.levels in
    let m = σ.nominal in
    let one = begun_more t₀ t₀ t₁ [] w (omega arith) (begun_none t₀) s₁ in
    let two = begun_more t₀ t₁ t₂ (w ∷ []) p (omega arith) one s₂ in
    let three = begun_more t₀ t₂ t₃ (w ∷ p ∷ []) l (omega arith) two s₃ in
    let four = begun_more t₀ t₃ t₄ (w ∷ p ∷ l ∷ []) m (omega arith) three s₄ in
    (begun_more t₀ t₄ t₅ (w ∷ p ∷ l ∷ m ∷ []) σ.width (omega arith) four s₅).bytes

-- Five rows read one by one are the settings that the state holds.
pub settings_read : (state : List ℕ) (w p l m q : ℕ) → w ≡ get_or (words_of state) 0 0 → p ≡ get_or (words_of state) 1 0 → l ≡ get_or (words_of state) 2 0
    → m ≡ get_or (words_of state) 3 0 → q ≡ get_or (words_of state) 4 0
    → record { window = w; fan_out = p; levels = l; nominal = m; width = q } ≡ settings_in state
settings_read state w p l m q a b c d e = λ i. record { window = a i; fan_out = b i; levels = c i; nominal = d i; width = e i }
