-- What is read at each place is the shingle of the table's entry.
use Rattle.std.proofs.Common.{refl, sym, ap, ◌∙◌}
use Rattle.shingle.specs.declared.Shingle.{Shingle}
use Rattle.shingle.specs.Table.{agree}
use Rattle.shingle.proofs.Reading.{holds_start, holds_zero, holds_here, holds_next, holds_end}
use Rattle.shingle.proofs.list.contains.Goals as goal

pub loop-place-init : goal.loop-place-init
loop-place-init c = holds_start _ _

pub returns-then-listed-eq0 : goal.returns-then-listed-eq0
returns-then-listed-eq0 c =
    let read = sym c.shingle_at-listed.ensures in
    holds_zero _ _ _ refl c.loop-place-test.true _ c.loop-place.invariant (ap (λ (x : Shingle). x.count) read ∙ c.if-listed-eq0.true)

pub returns-then-eq : goal.returns-then-eq
unfolding agree
returns-then-eq c =
    let read = c.shingle_at-listed.ensures in
    holds_here _ _ _ refl c.loop-place-test.true _ c.loop-place.invariant
    (λ z. c.if-listed-eq0.false (ap (λ (x : Shingle). x.count) read ∙ z)) (ap (agree c.args.s) (sym read) ∙ (sym c.eq.ensures ∙ c.if-eq.true))

pub loop-place-preserved : goal.loop-place-preserved
unfolding agree
loop-place-preserved c =
    let read = c.shingle_at-listed.ensures in
    holds_next _ _ _ refl c.loop-place-test.true _ c.loop-place.invariant
    (λ z. c.if-listed-eq0.false (ap (λ (x : Shingle). x.count) read ∙ z)) (ap (agree c.args.s) (sym read) ∙ (sym c.eq.ensures ∙ c.if-eq.false))

pub returns : goal.returns
returns c = holds_end _ _ c.loop-place.place c.loop-place-test.false c.loop-place.invariant
