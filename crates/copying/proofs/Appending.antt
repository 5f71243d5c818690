-- Copying byte by byte: the first j bytes are copied, the others are as they came.
use mathlib.Core.List.{List, ◌++◌}
use mathlib.Core.Path.{◌≡◌, refl, ap, ◌∙◌}
use Prim.Native.Nat.{ℕ, suc, ◌+◌, ◌≤◌, ◌<◌}
use native.Mathlib.Omega.{arith}
use lib.ListN.{length, get_or, set, take, drop, length-set}
use lib.Seq.{paste, paste-zero, paste-suc, take_all}

pub record Appending (bytes before now : List ℕ) (n j : ℕ) : Type 0 where
  pub size : n ≡ length bytes
  pub fits : length bytes ≤ length before
  pub far : j ≤ n
  pub long : length now ≡ length before
  pub front : now ≡ paste before 0 bytes j

pub appending_start : (bytes before : List ℕ) → length bytes ≤ length before → Appending bytes before before (length bytes) 0
appending_start bytes before h = record { size = refl; fits = h; far = omega arith; long = refl; front = paste-zero before 0 bytes }

pub appending_next : (bytes before now : List ℕ) (n j b : ℕ) → Appending bytes before now n j → j < n → b ≡ get_or bytes j 0 → Appending bytes before (set now j b) n (j + 1)
appending_next bytes before now n j b a h is =
    let at : j ≡ 0 + j = omega arith in
    let next : suc j ≡ j + 1 = omega arith in
    record {
      size = a.size;
      fits = a.fits;
      far = omega (arith, h);
      long = length-set now j b ∙ a.long;
      front = ap (λ (t : List ℕ). set t j b) a.front
          ∙ (ap (λ (x : ℕ). set (paste before 0 bytes j) j x) is
          ∙ (ap (λ (k : ℕ). set (paste before 0 bytes j) k (get_or bytes j 0)) at
          ∙ (paste-suc before 0 bytes j 0 (omega (arith, h, a.size, a.fits)) (omega (arith, h, a.size)) ∙ ap (paste before 0 bytes) next)));
    }

pub appending_end : (bytes before now : List ℕ) (n j : ℕ) → Appending bytes before now n j → n ≤ j → now ≡ bytes ++ drop (length bytes) before
appending_end bytes before now n j a h =
    let all : j ≡ length bytes = omega (arith, h, a.far, a.size) in
    let start : 0 + length bytes ≡ length bytes = omega arith in
    a.front
    ∙ (ap (λ (k : ℕ). take k bytes ++ drop (0 + k) before) all
    ∙ (ap (λ (k : ℕ). take (length bytes) bytes ++ drop k before) start
    ∙ ap (λ (l : List ℕ). l ++ drop (length bytes) before) (take_all (length bytes) bytes (omega arith))))
