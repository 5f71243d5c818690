-- An answer of estimating is small: 64 bits hold it.
use Rattle.std.proofs.Common.{Bool, true, false, cond, List, ◌≡◌, ℕ, ◌+◌, ◌^◌, ◌&&◌, ◌<◌, ◌≤◌, eqb, arith}
use Rattle.tree.specs.declared.Settings.{Settings}
use Rattle.setup.proofs.Questions.{lent_small}
use Rattle.shingle.specs.Table.{shingles_in}
use Rattle.protocol.specs.Lent.{Lent}
use Rattle.strata.specs.Strata.{estimate_of}
use Rattle.strata.specs.Calls.{holds_strata, strata_refusal, estimate_answer, Estimated}
use Rattle.strata.proofs.Summing.{estimate_few}

pub answer_small : (σ : Settings) (m : Lent) (theirs own : List ℕ) (r : ℕ) → Estimated σ m theirs own r → r < 2 ^ 63
unfolding estimate_answer strata_refusal
answer_small σ m theirs own r e = go (eqb refused 0) e.answer
  where
    refused : ℕ
    refused = strata_refusal σ m (holds_strata theirs && holds_strata own)

    low : refused ≤ 7
    low = lent_small σ _ _

    go : (t : Bool) → r ≡ cond t (2 ^ 32 + estimate_of σ.levels theirs own (shingles_in m.shingles)) refused → r < 2 ^ 63
    go true f = omega (arith, f, estimate_few σ.levels theirs own (shingles_in m.shingles))
    go false f = omega (arith, f, low)
