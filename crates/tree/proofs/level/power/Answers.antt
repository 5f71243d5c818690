-- The power stays at most 4,096.
use Rattle.std.proofs.Common.{arith, ◌^◌, ◌≤◌}
use Rattle.tree.proofs.Powers.{power_positive, power_small}
use Rattle.tree.proofs.level.power.Goals as goal

pub pow-requires : goal.pow-requires
pow-requires c =
    let small : c.args.base ^ c.args.exponent ≤ 4096 = power_small c.requires.base_bound c.requires.exponent_bound in
    omega arith

pub returns : goal.returns
returns c =
    let is = c.pow.ensures in
    let small = power_small c.requires.base_bound c.requires.exponent_bound in
    record { is = is; positive = rw is (power_positive _ c.requires.le_base); small = rw is small }
