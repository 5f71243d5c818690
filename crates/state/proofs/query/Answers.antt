-- None, the opening's or the top node's: the laws of `Asking`.
use mathlib.Core.Path.{sym, ◌∙◌}
use borrow.Author.Rules.{rules}
use Rattle.state.proofs.Asking.{asks_none, asks_opening, asks_node, waits}
use Rattle.state.proofs.query.Goals as goal

pub returns-then-not-running : goal.returns-then-not-running
returns-then-not-running c = asks_none _ (sym c.running.ensures ∙ c.if-not-running.true)

pub returns-then-state-eq0 : goal.returns-then-state-eq0
returns-then-state-eq0 c = asks_opening _ (sym c.running.ensures ∙ c.if-not-running.false) c.if-state-eq0.true

pub overflow_sub-top : goal.overflow_sub-top
overflow_sub-top c =
    let wait = waits _ (sym c.running.ensures ∙ c.if-not-running.false) c.if-state-eq0.false in
    search rules

pub offset_bounds-pile-waiting : goal.offset_bounds-pile-waiting
offset_bounds-pile-waiting c =
    let wait = waits _ (sym c.running.ensures ∙ c.if-not-running.false) c.if-state-eq0.false in
    search rules

pub bounds-pile-waiting : goal.bounds-pile-waiting
bounds-pile-waiting c =
    let wait = waits _ (sym c.running.ensures ∙ c.if-not-running.false) c.if-state-eq0.false in
    search rules

pub returns : goal.returns
returns c = asks_node _ (sym c.running.ensures ∙ c.if-not-running.false) c.if-state-eq0.false
