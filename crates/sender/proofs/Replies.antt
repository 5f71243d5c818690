-- A reply by settings is a reply by settings equal to them.
use mathlib.Core.List.{List}
use mathlib.Core.Path.{◌≡◌}
use Prim.Native.Nat.{ℕ}
use Rattle.tree.specs.declared.Settings.{Settings}
use Rattle.reply.specs.Reply.{Replied}

pub replied_by : {σ τ : Settings} {string nodes shingles cells message before after : List ℕ} {r : ℕ} → σ ≡ τ
    → Replied σ string nodes shingles cells message before after r → Replied τ string nodes shingles cells message before after r
replied_by e p = rw (← e) p
