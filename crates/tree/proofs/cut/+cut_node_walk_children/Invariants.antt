-- With each call fewer levels, or else fewer children, are left: the measure is 64 for each level left, and 1 for each child left.
use Prim.Native.Nat.{◌+◌, ◌*◌, ◌-◌}
use Rattle.tree.proofs.cut.+cut_node_walk_children.Given as goal

abbrev pub decreases-cut_node : goal.decreases-cut_node
decreases-cut_node l = l.left * 64

abbrev pub decreases-walk_children : goal.decreases-walk_children
decreases-walk_children l = l.left * 64 + 1 + (l.cuts.n - l.child)
