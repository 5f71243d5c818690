-- How the calls from C read their arguments.
use Rattle.std.specs.Prelude.{ℕ}
use Rattle.tree.specs.declared.Settings.{Settings}

-- The settings of a call that has no sketch: any width that passes question 5 serves, so that question is never the answer.
abbrev pub tree_settings : ℕ → ℕ → ℕ → ℕ → Settings
tree_settings w p levels nominal = record { window = w; fan_out = p; levels = levels; nominal = nominal; width = 1 }

-- The settings of a call that has a sketch.
abbrev pub settings_of_call : ℕ → ℕ → ℕ → ℕ → ℕ → Settings
settings_of_call w p levels nominal width = record { window = w; fan_out = p; levels = levels; nominal = nominal; width = width }
