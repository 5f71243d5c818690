use Rattle.std.proofs.Common.{ℕ, ◌≡◌, refl, ap, ◌∙◌, ◌+◌, ◌*◌, arith, rules, length-set}
use Rattle.rows.specs.Rows.{words_of}
use Rattle.rcds.specs.Trails.{column}
use Rattle.rcds.proofs.Columns.{column_more, column_end}
use Rattle.rcds.proofs.ids.read_column.Goals as goal

pub loop-i-init : goal.loop-i-init
loop-i-init c =
    let a = c.args in
    let first : a.place + a.step * 0 ≡ a.place = omega arith in
    (refl, ap (λ (n : ℕ). column 32 a.step n (words_of a.table.now)) first)

pub loop-i-preserved : goal.loop-i-preserved
loop-i-preserved c =
    let a = c.args in
    let loop = c.loop-i in
    let next : a.place + a.step * loop.i + a.step ≡ a.place + a.step * (loop.i + 1) = omega arith in (
      length-set loop.rows loop.i _ ∙ loop.invariant.0,
      rw next at (column_more _ loop.rows (words_of a.table.now) a.step (a.place + a.step * loop.i) loop.i c.load.result (search rules) loop.invariant.0
          c.load.ensures loop.invariant.1),
    )

pub returns : goal.returns
returns c =
    let loop = c.loop-i in
    column_end _ loop.rows _ _ _ loop.i (search rules) loop.invariant.0 loop.invariant.1
