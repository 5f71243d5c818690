-- Two rows stored, or none: the laws `note_crossed` and `note_passed`.
use mathlib.Core.Path.{sym, ◌∙◌}
use Rattle.crossing.proofs.Crossing.{note_crossed, note_passed}
use Rattle.crossing.proofs.note.Goals as goal

pub returns-then-crosses : goal.returns-then-crosses
returns-then-crosses c =
    note_crossed _ _ _ _ _ _ _ _ _ _ (sym c.crosses.ensures ∙ c.if-crosses.true)
    c.store.ensures c.node_parent-parent.ensures c.store-then-crosses.ensures

pub returns : goal.returns
returns c = note_passed _ _ _ _ _ _ _ (sym c.crosses.ensures ∙ c.if-crosses.false)
