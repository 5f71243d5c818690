-- What is built or estimated by settings is so by settings equal to them.
use mathlib.Core.List.{List}
use mathlib.Core.Path.{◌≡◌}
use Prim.Native.Nat.{ℕ}
use Rattle.tree.specs.declared.Settings.{Settings}
use Rattle.protocol.specs.Lent.{Lent}
use Rattle.strata.specs.Calls.{Built, Estimated}

pub built_by : {σ τ : Settings} {m : Lent} {before after : List ℕ} {r : ℕ} → σ ≡ τ → Built σ m before after r → Built τ m before after r
built_by e p = rw (← e) p

pub estimated_by : {σ τ : Settings} {m : Lent} {theirs own : List ℕ} {r : ℕ} → σ ≡ τ → Estimated σ m theirs own r → Estimated τ m theirs own r
estimated_by e p = rw (← e) p
