-- An answer of setting up is small: a call for C adds its mark without leaving 64 bits.
use Rattle.std.proofs.Common.{◌≡◌, Bool, true, false, cond, List, ℕ, ◌+◌, ◌^◌, ◌<◌, ◌≤◌, ◌&&◌, length, refl, arith}
use Rattle.std.proofs.Math.Dec.{leb, eqb}
use borrow.Author.Tests.{leb-true}
use Rattle.tree.specs.declared.Settings.{Settings}
use Rattle.tree.specs.Questions.{ask}
use Rattle.tree.specs.Tree.{nodes_of}
use Rattle.setup.specs.Questions.{tables_fit, lent_refusal, refusal_of, setup_refusal, setup_answer}
use Rattle.setup.specs.Tables.{SetUp}
use Rattle.setup.proofs.Questions.{lent_small}

pub answer_small : {σ : Settings} {string : List ℕ} {other : Bool} {nodes nodes' shingles shingles' cells cells' : List ℕ} {r : ℕ}
    → SetUp σ string other nodes nodes' shingles shingles' cells cells' r → r < 2 ^ 63
unfolding setup_answer setup_refusal refusal_of ask
answer_small {σ = σ} {string = string} {other = other} {nodes = nodes} {shingles = shingles} {cells = cells} {r = r} made =
    rw made.answer (go (eqb early 0) (leb (length (nodes_of σ string)) 4096) refl refl)
  where
    fit : Bool
    fit = other && tables_fit σ.width (length nodes) (length shingles) (length cells)

    early : ℕ
    early = lent_refusal σ (length string) fit

    go : (settings few : Bool) → eqb early 0 ≡ settings → leb (length (nodes_of σ string)) 4096 ≡ few
        → cond (eqb (ask settings early (ask few 8 0)) 0) (2 ^ 32 + length (nodes_of σ string)) (ask settings early (ask few 8 0)) < 2 ^ 63
    go true true a e = let few = leb-true (length (nodes_of σ string)) 4096 e in omega arith
    go true false a e = omega arith
    go false few a e = let small = lent_small σ (length string) fit in rw a (omega arith)
