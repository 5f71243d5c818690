-- Numbering asks its three questions, counts over the table of the order's own pairs, and asks of the same table whether it has one trail.
use Rattle.std.proofs.Common.{◌≡◌, Bool, true, false, not, arith, refl, sym, ap, ◌∙◌, ℕ, ◌+◌}
use Rattle.trail.specs.Search.{Numberable}
use Rattle.trail.proofs.Answers.{nonzero_unless, order_numberable, number_refused, number_taken}
use Rattle.trail.proofs.Only.{own_number, own_only}
use Rattle.trail.proofs.Ranking.{total_first}
use Rattle.trail.proofs.number.Goals as goal
use Rattle.trail.proofs.number.Goals.{then-ids-eq0-via-then-ids-eq0, then-ids-eq0-via-else-ids-eq0+then-ids-gt32, then-ids-eq0-via-else-ids-eq0+else-ids-gt32+then-contains}

pub returns-then-ids-eq0 : goal.returns-then-ids-eq0
returns-then-ids-eq0 c = number_refused _ _ refl (λ p q s. elim c.then-ids-eq0.branch [
  | then-ids-eq0-via-then-ids-eq0 w ↦ omega (arith, w.if-ids-eq0.true)
  | then-ids-eq0-via-else-ids-eq0+then-ids-gt32 w ↦ omega (arith, w.if-ids-gt32.true)
  | then-ids-eq0-via-else-ids-eq0+else-ids-gt32+then-contains w ↦ let z : ◌≡◌ {A = Bool} true false = sym s ∙ nonzero_unless _ w.contains.ensures.value ∙ ap not w.if-contains.true in cc
])

pub rank-place-requires : goal.rank-place-requires
rank-place-requires c = order_numberable c.if-ids-gt32.false c.contains.ensures.value c.if-contains.false c.chain-pairs.ensures c.link-table.ensures

pub only-only-requires : goal.only-only-requires
only-only-requires c =
    let n : Numberable c.args.ids.now c.link-table.result.previous c.link-table.result.own c.chain-pairs.result.count = order_numberable c.if-ids-gt32.false c.contains.ensures.value c.if-contains.false c.chain-pairs.ensures c.link-table.ensures in
    record { size = total_first _ _ _ _ n; few = n.few; there = omega (arith, own_number n) }

pub returns : goal.returns
returns c =
    let n : Numberable c.args.ids.now c.link-table.result.previous c.link-table.result.own c.chain-pairs.result.count = order_numberable c.if-ids-gt32.false c.contains.ensures.value c.if-contains.false c.chain-pairs.ensures c.link-table.ensures in
    number_taken _ _ (omega (arith, c.if-ids-eq0.false)) (omega (arith, c.if-ids-gt32.false))
    (nonzero_unless _ c.contains.ensures.value ∙ ap not c.if-contains.false)
    (ap (λ (m : ℕ). 4294967296 + m) c.rank-place.ensures) (c.only-only.ensures ∙ sym (own_only n))
