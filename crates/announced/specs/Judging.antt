-- What an opening's announcement comes to: document 01, 'Questions, in order', "12 opening's rule and settings equal the own? 13 announced
-- length at most 65,536 and at most the buffer lent now? 14 does the sketch open?"
use Rattle.std.specs.Prelude.{Bool, cond, ◌&&◌, List, [], ◌≡◌, ℕ, leb, eqb, Result, Ok, Err}
use Rattle.partition.specs.Cuts.{rule_number}
use Rattle.tree.specs.declared.Settings.{Settings}
use Rattle.tree.specs.Questions.{ask}
use Rattle.sketch.specs.Opening.{Signed, positives, negatives}
use Rattle.single.specs.Peeling.{list_table}
use Rattle.refusal.specs.declared.Refusal.{Refusal}
use Rattle.refusal.specs.Answer.{number_of}
use Rattle.opening.specs.declared.Opening.{Opening}
use Rattle.opening.specs.Deciding.{open_refusal, taken_after, Decided}
use Rattle.announced.specs.Cells.{cell_table}

-- "12 opening's rule and settings equal the own?"
unfoldable pub same_settings : Settings → (rule w p L M q : ℕ) → Bool
same_settings σ rule w p L M q =
    eqb rule rule_number && (eqb w σ.window && (eqb p σ.fan_out && (eqb L σ.levels && (eqb M σ.nominal && eqb q σ.width))))

-- "13 announced length at most 65,536 and at most the buffer lent now?"
unfoldable pub length_fits : (size room : ℕ) → Bool
length_fits size room = leb size 65536 && leb size room

-- 0, or the number of the first question that is answered no: 12, 13, then those of the opening's cells.
unfoldable pub announced_refusal : Settings → (rule w p L M q size room : ℕ) (message cells shingles : List ℕ) → ℕ
announced_refusal σ rule w p L M q size room message cells shingles =
    ask (same_settings σ rule w p L M q) 12
    (ask (length_fits size room) 13
    (open_refusal σ.levels σ.width (cell_table message q) cells shingles))

-- What is taken from the sketch: nothing where 12 or 13 refuses.
unfoldable pub announced_taken : Settings → (rule w p L M q size room : ℕ) (message cells shingles : List ℕ) → List Signed
announced_taken σ rule w p L M q size room message cells shingles =
    cond (same_settings σ rule w p L M q && length_fits size room) (taken_after σ.levels σ.width (cell_table message q) cells shingles) []

-- What judging promises: the refusal; every byte of both tables, refusals included; and where there is no refusal, what deciding
-- promises of the opening's cells.
pub record Judged (σ : Settings) (rule w p L M q size room : ℕ) (message cells shingles : List ℕ) (refusal : ℕ)
    (new gone : List ℕ) : Type 0 where
  pub answer : refusal ≡ announced_refusal σ rule w p L M q size room message cells shingles
  pub new_bytes : new ≡ list_table 4608 (positives (announced_taken σ rule w p L M q size room message cells shingles))
  pub gone_bytes : gone ≡ list_table 4608 (negatives (announced_taken σ rule w p L M q size room message cells shingles))
  pub decided : refusal ≡ 0 → Decided σ.levels σ.width (cell_table message q) cells shingles refusal new gone

-- The same of an answer, where τ are the settings announced: a refusal has no tables.
abbrev pub Judges : Settings → (rule : ℕ) → Settings → (size room : ℕ) (message cells shingles : List ℕ) → Result Opening Refusal → Type 0
Judges σ rule τ size room message cells shingles (Ok opening) =
    Judged σ rule τ.window τ.fan_out τ.levels τ.nominal τ.width size room message cells shingles 0 opening.new opening.gone
Judges σ rule τ size room message cells shingles (Err question) =
    number_of question ≡ announced_refusal σ rule τ.window τ.fan_out τ.levels τ.nominal τ.width size room message cells shingles
