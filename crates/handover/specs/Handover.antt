-- What an accepted message comes to once copying has ended: document 01, "18 output within the announced length? 19 if the pile is now
-- empty: length right, and id of the buffer's first bytes, worked out afresh, right?"
use Rattle.std.specs.Prelude.{Bool, cond, ◌&&◌, List, [], ◌∷◌, ◌≡◌, ℕ, ◌+◌, ◌^◌, ◌≤◌, ◌<◌, eqb, length, take, replicate, Result, Ok, Err}
use Rattle.fnv.specs.Fnv.{id_of_block}
use Rattle.protocol.specs.Receiver.{Settled, too_long, left, output_with}
use Rattle.copying.specs.declared.Waiting.{Waiting}
use Rattle.copying.specs.Copying.{pile_of, settled_from}
use Rattle.refusal.specs.declared.Refusal.{Refusal}
use Rattle.refusal.specs.Answer.{number_of}
use Rattle.handover.specs.declared.Outcome.{Outcome}
use Rattle.handover.specs.declared.Outcome.TheVariants.{Going, Whole}

-- Question 19, of the bytes built.
unfoldable pub whole : (size root : ℕ) → List ℕ → Bool
whole size root built = eqb (length built) size && eqb (id_of_block built) root

-- 0 while nodes are pending, 2^32 and the length of a string that is handed over, or the number of the question that refuses.
unfoldable pub answer_of : (size root : ℕ) → Settled → ℕ
answer_of size root too_long = 18
answer_of size root (left built []) = cond (whole size root built) (2 ^ 32 + size) 19
answer_of size root (left built (e ∷ es)) = 0

-- The output then: the bytes built in front, or all zero.
unfoldable pub output_of : (size root : ℕ) → Settled → List ℕ → List ℕ
output_of size root too_long output = replicate (length output) 0
output_of size root (left built []) output = cond (whole size root built) (output_with built output) (replicate (length output) 0)
output_of size root (left built (e ∷ es)) output = output_with built output

-- What concluding promises: the answer in numbers, every byte of the output, and what is built and pending while the session goes on.
pub record Concluded (string nodes : List ℕ) (size root : ℕ) (before after : List ℕ) (built waiting : ℕ) (places : List Waiting) (number end remaining : ℕ) : Type 0
  where
    pub answer : number ≡ answer_of size root (settled_from string nodes size before built waiting places)
    pub output : after ≡ output_of size root (settled_from string nodes size before built waiting places) before
    pub going : number ≡ 0 → settled_from string nodes size before built waiting places ≡ left (take end after) (pile_of remaining places)
    pub within : number ≡ 0 → (end ≤ size) × (0 < remaining) × (remaining ≤ waiting)
    pub over : (0 < number → remaining ≡ 0) × (0 < number → number < 2 ^ 32 → end ≡ 0) × (2 ^ 32 ≤ number → end ≡ size)

-- The same of an answer: a refusal builds nothing, and with the whole string nothing is pending.
abbrev pub ComesTo : (string nodes : List ℕ) (size root : ℕ) (before after : List ℕ) (built waiting : ℕ) → List Waiting → Result Outcome Refusal → Type 0
ComesTo string nodes size root before after built waiting places (Ok (Going end remaining)) =
    Concluded string nodes size root before after built waiting places 0 end remaining
ComesTo string nodes size root before after built waiting places (Ok (Whole total)) =
    Concluded string nodes size root before after built waiting places (2 ^ 32 + total) total 0
ComesTo string nodes size root before after built waiting places (Err question) =
    Concluded string nodes size root before after built waiting places (number_of question) 0 0
