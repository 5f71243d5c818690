-- An answer is small: a call for C adds its mark without leaving 64 bits.
use Rattle.std.proofs.Common.{◌≡◌, Bool, true, false, cond, List, ℕ, ◌+◌, ◌*◌, ◌^◌, ◌<◌, ◌≤◌, length, refl, arith}
use Rattle.std.proofs.Math.Dec.{leb, eqb}
use borrow.Author.Tests.{leb-true}
use Rattle.tree.specs.Questions.{ask}
use Rattle.crossing.specs.Crossing.{crossing, crossing_refusal, crossing_answer, Crossed}

pub answer_small : {n : ℕ} {nodes : List ℕ} {start size : ℕ} {before after : List ℕ} {r : ℕ} → length before < 2 ^ 63
    → Crossed n nodes start size before after r → r < 2 ^ 64
unfolding crossing_answer crossing_refusal ask
answer_small {n = n} {nodes = nodes} {start = start} {size = size} {before = before} lent crossed =
    rw crossed.answer (go (leb (start + size) n) (leb (16 * length (crossing n start size nodes)) (length before)) refl)
  where
    go : (inside room : Bool) → leb (16 * length (crossing n start size nodes)) (length before) ≡ room
        → cond (eqb (ask inside 21 (ask room 22 0)) 0) (2 ^ 32 + length (crossing n start size nodes)) (ask inside 21 (ask room 22 0)) < 2 ^ 64
    go true true e = let fits = leb-true (16 * length (crossing n start size nodes)) (length before) e in omega arith
    go true false e = omega arith
    go false room e = omega arith
