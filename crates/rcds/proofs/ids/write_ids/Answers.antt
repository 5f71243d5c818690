use Rattle.std.proofs.Common.{◌≡◌, refl, ◌∙◌, length, take, arith, rules}
use Rattle.std.proofs.Math.Seq.{take_all, length-take-le}
use Rattle.rcds.proofs.Columns.{no_ids, ids_more}
use Rattle.rcds.proofs.ids.write_ids.Goals as goal

pub loop-i-init : goal.loop-i-init
loop-i-init c = (refl, no_ids _)

pub loop-i-preserved : goal.loop-i-preserved
loop-i-preserved c =
    let a = c.args in
    let long : length a.list ≡ 32 = search rules in
    let size : length (take a.k a.list) ≡ a.k = length-take-le a.k a.list (omega arith) in (
      c.store.auto.table ∙ c.loop-i.invariant.0,
      ids_more (take a.k a.list) a.ids.now _ _ c.loop-i.i c.loop-i-test.true (omega arith) c.loop-i.invariant.0 c.loop-i.invariant.1 c.store.ensures.bytes,
    )

pub returns : goal.returns
returns c =
    let a = c.args in
    let long : length a.list ≡ 32 = search rules in
    let size : length (take a.k a.list) ≡ a.k = length-take-le a.k a.list (omega arith) in
    let done : c.loop-i.i ≡ a.k = omega arith in
    let all : take a.k (take a.k a.list) ≡ take a.k a.list = take_all a.k (take a.k a.list) (omega arith) in
    rw all at (rw done at c.loop-i.invariant.1)
