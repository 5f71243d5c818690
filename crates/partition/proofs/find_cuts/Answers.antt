use Rattle.std.proofs.Common.{refl, arith}
use Rattle.partition.proofs.Search.{going_first, going_on, found_full, found_all, found_same, floor_after}
use Rattle.partition.proofs.find_cuts.Goals as goal

pub returns-then-range_end-h : goal.returns-then-range_end-h
returns-then-range_end-h c = found_all _ _ _ _ _ _ _ (going_first _ _ _ _ _ refl refl) (λ x low high. absurd (omega arith))

pub loop-cut-init : goal.loop-cut-init
loop-cut-init c = record {
  going = going_first _ _ _ _ _ refl refl;
  floor = record { before = λ j low high. omega arith };
}

pub returns-then-n-eq-MAX_CUTS : goal.returns-then-n-eq-MAX_CUTS
returns-then-n-eq-MAX_CUTS c =
    let block = c.new-block.result in
    let next = c.in-Some.ensures in
    found_same _ _ _ _ c.new-block.ensures.sized _ _ c.new-block.ensures.bytes c.new-block.ensures.distance
    (found_full _ _ _ _ _ _ _ _ _ c.loop-cut.invariant.going next.1.first _ refl (omega (arith, block.ends)) next.0 c.if-n-eq-MAX_CUTS.true)

pub loop-cut-preserved : goal.loop-cut-preserved
loop-cut-preserved c =
    let block = c.new-block.result in
    let next = c.in-Some.ensures in
    record {
      going = going_on _ _ _ _ _ _ _ _ _ c.loop-cut.invariant.going next.1.first _ c.step.ensures (omega (arith, block.ends)) next.0 c.if-n-eq-MAX_CUTS.false;
      floor = floor_after _ _ _ _ _ _ _ (next.1.first.found next.0) (next.1.value next.0) c.step.ensures;
    }

pub returns : goal.returns
returns c =
    let block = c.new-block.result in
    found_same _ _ _ _ c.new-block.ensures.sized _ _ c.new-block.ensures.bytes c.new-block.ensures.distance
    (found_all _ _ _ _ _ _ _ c.loop-cut.invariant.going (λ x low high. c.in_default.ensures x low (omega (arith, block.ends))))
