-- What a call is lent, and the questions that "every later call of either end first asks .. again, of the settings it holds and of
-- what is lent".
use Rattle.std.specs.Prelude.{List, [], ℕ, length}
use Rattle.tree.specs.declared.Settings.{Settings}
use Rattle.setup.specs.declared.Lent.{Lent as Tables}
use Rattle.setup.specs.Questions.{tables_fit, lent_refusal}

-- A string, its three tables, and for a receiver the output, each as the bytes lent.
pub record Lent : Type 0 where
  pub string : List ℕ
  pub nodes : List ℕ
  pub shingles : List ℕ
  pub cells : List ℕ
  pub output : List ℕ

abbrev pub lent : List ℕ → List ℕ → List ℕ → List ℕ → List ℕ → Lent
lent string nodes shingles cells output = record { string = string; nodes = nodes; shingles = shingles; cells = cells; output = output }

-- What a call is lent that only reads: the string and the tables, and no output.
abbrev pub read_only : Tables → Lent
read_only m = lent m.string.now m.nodes.now m.shingles.now m.cells.now []

-- The same with another output, or with another shingle table.
abbrev pub with_output : Lent → List ℕ → Lent
with_output m output = lent m.string m.nodes m.shingles m.cells output

abbrev pub with_shingles : Lent → List ℕ → Lent
with_shingles m shingles = lent m.string m.nodes shingles m.cells m.output

-- 0, or the first of questions 1 to 7 that fails.
abbrev pub refused_by : Settings → Lent → ℕ
refused_by σ m = lent_refusal σ (length m.string) (tables_fit σ.width (length m.nodes) (length m.shingles) (length m.cells))
