-- An answer of cutting a string is small: a call for C adds its mark without leaving 64 bits.
use Rattle.std.proofs.Common.{◌≡◌, Bool, true, false, cond, List, ℕ, ◌+◌, ◌^◌, ◌<◌, ◌≤◌, length, refl, sym, arith}
use Rattle.std.proofs.Math.Dec.{leb, eqb}
use borrow.Author.Tests.{leb-true}
use Rattle.tree.specs.declared.Settings.{Settings}
use Rattle.tree.specs.Questions.{ask, refusal}
use Rattle.tree.specs.Tree.{nodes_of}
use Rattle.tree.specs.Table.{tree_refusal, tree_answer, Tabled}
use Rattle.tree.proofs.Outcome.{refusal_small}

pub answer_small : {σ : Settings} {string before after : List ℕ} {r : ℕ} → Tabled σ string before after r → r < 2 ^ 63
unfolding tree_answer tree_refusal ask
answer_small {σ = σ} {string = string} {before = before} {r = r} tabled =
    rw tabled.answer (go (eqb (refusal σ (length string)) 0) (leb 65536 (length before)) (leb (length (nodes_of σ string)) 4096) refl refl)
  where
    go : (settings room few : Bool) → eqb (refusal σ (length string)) 0 ≡ settings → leb (length (nodes_of σ string)) 4096 ≡ few
        → cond (eqb (ask settings (refusal σ (length string)) (ask room 7 (ask few 8 0))) 0) (2 ^ 32 + length (nodes_of σ string))
        (ask settings (refusal σ (length string)) (ask room 7 (ask few 8 0)))
        < 2 ^ 63
    go true true true a e = let few = leb-true (length (nodes_of σ string)) 4096 e in omega arith
    go true true false a e = omega arith
    go true false few a e = omega arith
    go false room few a e = let small = refusal_small σ (length string) in rw a (omega arith)
