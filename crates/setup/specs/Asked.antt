-- Questions 1 to 7, of what a call is lent.
use Rattle.std.specs.Prelude.{ℕ, length}
use Rattle.tree.specs.declared.Settings.{Settings}
use Rattle.setup.specs.declared.Lent.{Lent}
use Rattle.setup.specs.Questions.{tables_fit, lent_refusal}

-- 0, or the number of the first that fails.
abbrev pub asked_of : Settings → Lent → ℕ
asked_of σ m = lent_refusal σ (length m.string.now) (tables_fit σ.width (length m.nodes.now) (length m.shingles.now) (length m.cells.now))
