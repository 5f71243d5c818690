-- Each way out is a case of the definition; the trail found is the one over the table's pairs.
use Rattle.std.proofs.Common.{[], ◌≡◌, ◌≤◌, ◌+◌, ◌^◌, refl, arith}
use Rattle.rcds.proofs.Answers.{order_odd, order_long, order_none, order_some, order_room, order_small, order_low, order_written}
use Rattle.rcds.proofs.rcds_trail_order.Goals as goal

pub returns-then-pairs-ne0 : goal.returns-then-pairs-ne0
returns-then-pairs-ne0 c = rw c.number.ensures (order_odd _ _ _ c.if-pairs-ne0.true)

pub returns-then-pairs-gt768 : goal.returns-then-pairs-gt768
returns-then-pairs-gt768 c = rw c.number-then-pairs-gt768.ensures (order_long _ _ _ c.if-pairs-ne0.false c.if-pairs-gt768.true)

pub returns-in-Err : goal.returns-in-Err
returns-in-Err c =
    let is = rw (c.read_column-previous.ensures, c.read_column-own.ensures, c.read_column-count.ensures) at c.in-Err.ensures in
    rw c.number-in-Err.ensures (order_none _ _ _ c.if-pairs-ne0.false c.if-pairs-gt768.false _ is refl)

pub returns-then-ids-k : goal.returns-then-ids-k
returns-then-ids-k c =
    let is = rw (c.read_column-previous.ensures, c.read_column-own.ensures, c.read_column-count.ensures) at c.in-Ok.ensures in
    let some = order_some _ [] _ c.if-pairs-ne0.false c.if-pairs-gt768.false _ is (omega arith) in
    rw c.number-then-ids-k.ensures (order_room _ _ _ c.if-pairs-ne0.false c.if-pairs-gt768.false _ is some c.if-ids-k.true)

pub write_ids-requires-clause-k_bound : goal.write_ids-requires-clause-k_bound
write_ids-requires-clause-k_bound c =
    let is = rw (c.read_column-previous.ensures, c.read_column-own.ensures, c.read_column-count.ensures) at c.in-Ok.ensures in
    let some = order_some _ [] _ c.if-pairs-ne0.false c.if-pairs-gt768.false _ is (omega arith) in
    order_small _ [] _ c.if-pairs-ne0.false c.if-pairs-gt768.false _ is some

pub mark-requires : goal.mark-requires
mark-requires c =
    let is = rw (c.read_column-previous.ensures, c.read_column-own.ensures, c.read_column-count.ensures) at c.in-Ok.ensures in
    let some = order_some _ [] _ c.if-pairs-ne0.false c.if-pairs-gt768.false _ is (omega arith) in
    order_low _ [] _ c.if-pairs-ne0.false c.if-pairs-gt768.false _ is some

pub returns : goal.returns
returns c =
    let is = rw (c.read_column-previous.ensures, c.read_column-own.ensures, c.read_column-count.ensures) at c.in-Ok.ensures in
    let some = order_some _ [] _ c.if-pairs-ne0.false c.if-pairs-gt768.false _ is (omega arith) in
    order_written _ _ _ c.if-pairs-ne0.false c.if-pairs-gt768.false _ is some _ _ c.if-ids-k.false c.write_ids.ensures c.mark.ensures
