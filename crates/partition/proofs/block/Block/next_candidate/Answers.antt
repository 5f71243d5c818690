use Rattle.std.proofs.Common.{arith}
use Rattle.partition.proofs.Candidates.{searched_start, searched_past, next_none, next_past, next_known, next_here, searched_on}
use Rattle.partition.proofs.block.Block.next_candidate.Goals as goal

pub loop-start-init : goal.loop-start-init
loop-start-init c =
    let first = searched_start _ _ _ _ _ _ c.requires.floor in
    record {
      searched = searched_past _ _ _ _ _ _ _ _ _ (omega arith) first c.start_at.ensures.at_value c.past_run-start.ensures.level;
      stands = c.past_run-start.ensures.stands_2;
    }

pub returns-in_err-low : goal.returns-in_err-low
returns-in_err-low c =
    rw c.from_residual.ensures
    (next_past _ _ _ _ _ _ (omega arith) (omega arith) (omega arith) _ _ c.loop-start.invariant.searched c.in_err-low.ensures)

pub returns-then-low-known : goal.returns-then-low-known
returns-then-low-known c =
    let low = c.in_ok-low.ensures in
    (low.0, next_known _ _ _ _ _ _ (omega arith) (omega arith) (omega arith) _ _ c.loop-start.invariant.searched _ _ low.1 low.0 (omega arith))

pub returns-in_default : goal.returns-in_default
returns-in_default c =
    let low = c.in_ok-low.ensures in
    let none = c.in_default.ensures in
    (low.0, next_here _ _ _ _ _ _ (omega arith) (omega arith) (omega arith) _ _ c.loop-start.invariant.searched _ _ low.1 low.0 _ none (omega arith))

pub loop-start-preserved : goal.loop-start-preserved
loop-start-preserved c =
    let low = c.in_ok-low.ensures in
    let last = c.in-Some.ensures in
    let next =
    searched_on _ _ _ _ _ _ (omega arith) (omega arith) (omega arith) _ _ c.loop-start.invariant.searched _ _ low.1 low.0 _ last.1 (omega (arith, last.0)) in
    record {
      searched = searched_past _ _ _ _ _ _ _ _ _ (omega arith) next c.moved.ensures.at_value c.past_run-start-in-loop-start.ensures.level;
      stands = c.past_run-start-in-loop-start.ensures.stands_2;
    }

pub returns : goal.returns
returns c = next_none _ _ _ _ _ _ (omega arith) (omega arith) (omega arith) _ _ c.loop-start.invariant.searched (omega arith)
