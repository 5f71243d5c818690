-- What later calls rely on: after a yes the state is read back as the settings, and it keeps its length.
use mathlib.Core.List.{List, [], ◌++◌}
use mathlib.Core.Path.{◌≡◌, ap, ◌∙◌}
use Prim.Native.Nat.{ℕ, ◌^◌, ◌<◌}
use native.Mathlib.Omega.{arith}
use lib.Dec.{leb}
use lib.ListN.{length, get_or, drop}
use Rattle.rows.specs.Rows.{words_of}
use Rattle.tree.specs.declared.Settings.{Settings}
use Rattle.tree.proofs.Questions.{granted}
use Rattle.sketch.specs.Sums.{row_bytes}
use Rattle.setup.specs.Questions.{setup_refusal}
use Rattle.setup.proofs.Accepted.{lent_after_yes}
use Rattle.sender.specs.State.{settings_rows, settings_in, state_after, SenderSetUp}
use Rattle.sender.proofs.Rows.{no_rows, row_back}

settings_words : (σ : Settings) (rest : List ℕ) → σ.window < 2 ^ 64 → σ.fan_out < 2 ^ 64 → σ.levels < 2 ^ 64 → σ.nominal < 2 ^ 64
    → σ.width < 2 ^ 64 → words_of (row_bytes (settings_rows σ) ++ rest) ≡ settings_rows σ ++ words_of rest
unfolding settings_rows
settings_words σ rest w p l m q =
    row_back _ _ rest _ w (row_back _ _ rest _ p (row_back _ _ rest _ l (row_back _ _ rest _ m (row_back _ [] rest _ q (no_rows rest)))))

settings_back : (σ : Settings) (state rest : List ℕ) → words_of state ≡ settings_rows σ ++ rest → settings_in state ≡ σ
unfolding settings_rows
settings_back σ state rest e =
    ap (λ (ws : List ℕ). settings_from ws) e
  where
    settings_from : List ℕ → Settings
    settings_from ws = record { window = get_or ws 0 0; fan_out = get_or ws 1 0; levels = get_or ws 2 0; nominal = get_or ws 3 0; width = get_or ws 4 0 }

module _ (σ : Settings) (string nodes nodes' shingles shingles' cells cells' state state' : List ℕ) (r : ℕ)
    (made : SenderSetUp σ string nodes nodes' shingles shingles' cells cells' state state' r) where
  abbrev refused_by : ℕ
  refused_by = setup_refusal σ string (leb 40 (length state)) nodes shingles cells

  written : refused_by ≡ 0 → state' ≡ row_bytes (settings_rows σ) ++ drop 40 state
  unfolding state_after
  written e = made.state_is ∙ rw e

  pub settings_kept : refused_by ≡ 0 → settings_in state' ≡ σ
  settings_kept e =
      let given = lent_after_yes _ _ _ _ _ _ _ _ _ _ made.tables e in
      let bounds = (granted σ (length string) given.settings).0 in
      settings_back σ state' (words_of (drop 40 state))
      (ap words_of (written e)
      ∙ settings_words σ (drop 40 state) (omega (arith, bounds.window_high)) (omega (arith, bounds.fan_out_high))
      (omega (arith, bounds.levels_high)) (omega (arith, bounds.nominal_high)) (omega (arith, given.width_high)))
