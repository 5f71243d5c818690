-- Setup's questions: document 01, 'Questions, in order', first paragraph. 1 to 6 are those of crate `tree`.
use Rattle.std.specs.Prelude.{Bool, cond, ◌&&◌, List, ℕ, ◌+◌, ◌*◌, ◌^◌, leb, eqb, length}
use Rattle.tree.specs.declared.Settings.{Settings}
use Rattle.tree.specs.Questions.{ask, refusal}
use Rattle.tree.specs.Tree.{nodes_of}

-- "lent tables long enough for 4,096 nodes, 4,096 shingles, 3q cells": 16, 24 and 40 bytes each.
unfoldable pub tables_fit : (q nodes shingles cells : ℕ) → Bool
tables_fit q nodes shingles cells = leb 65536 nodes && (leb 98304 shingles && leb (q * 120) cells)

-- 0, or the number of the first of questions 1 to 7 that fails: those that "every later call of either end first asks .. again". The
-- string has n bytes, and `fit` says whether what is lent is long enough.
unfoldable pub lent_refusal : Settings → ℕ → Bool → ℕ
lent_refusal σ n fit =
    ask (eqb (refusal σ n) 0) (refusal σ n)
    (ask fit 7
    0)

-- 0, or the number of the first question that fails, with "8 at most 4,096 nodes?".
unfoldable pub refusal_of : Settings → List ℕ → Bool → ℕ
refusal_of σ string fit =
    ask (eqb (lent_refusal σ (length string) fit) 0) (lent_refusal σ (length string) fit)
    (ask (leb (length (nodes_of σ string)) 4096) 8
    0)

-- The same where `other` says whether what else is lent, beside the three tables, is long enough.
unfoldable pub setup_refusal : Settings → List ℕ → Bool → (nodes shingles cells : List ℕ) → ℕ
setup_refusal σ string other nodes shingles cells = refusal_of σ string (other && tables_fit σ.width (length nodes) (length shingles) (length cells))

-- The answer: the refusing question's number, or 2^32 and the number of nodes.
unfoldable pub setup_answer : (refused count : ℕ) → ℕ
setup_answer refused count = cond (eqb refused 0) (2 ^ 32 + count) refused
