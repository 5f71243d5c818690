use borrow.Author.Rules.{rules}
use Rattle.tree.proofs.Wrote.{after, stop, filled, inside}
use Rattle.tree.proofs.Walk.{tree_leaf, tree_more, walk_all, found_apart, ChildEnd, ends_at_cut, ends_with_node, walk_next, walk_last}
use native.Mathlib.Omega.{arith}
use native.Mathlib.Decide.{dec_le, ℕ_discrete}
use mathlib.Core.Path.{refl}
use lib.ListN.{length, length-take, length-drop}
use Prim.Native.Nat.{◌+◌, ◌-◌}
use Rattle.tree.proofs.cut.+cut_node_walk_children.Goals as goal
use Rattle.tree.proofs.cut.+cut_node_walk_children.Goals.{walk_children-then-child-n, walk_children-else-child-n}

pub cut_node-returns-then-left-eq0 : goal.cut_node-returns-then-left-eq0
cut_node-returns-then-left-eq0 t c = rw (tree_leaf _ _ _ _ _ _ _ _ c.if-left-eq0.true) c.in_ok-next.ensures

pub cut_node-returns-in_err-next : goal.cut_node-returns-in_err-next
cut_node-returns-in_err-next t c =
    elim (ℕ_discrete c.args.left 0) [
      | yes z ↦ rw (c.from_residual.ensures, tree_leaf _ _ _ _ _ _ _ _ z) c.in_err-next.ensures
      | no some ↦ rw (c.from_residual.ensures, tree_more _ _ _ _ _ _ _ _ some) (stop _ _ _ _ _ c.in_err-next.ensures)
    ]

pub cut_node-walk_children-requires : goal.cut_node-walk_children-requires
cut_node-walk_children-requires t c = (
  search rules,
  record {
    node = record { settings = c.requires.settings; depth = search rules; inside = search rules; room = search rules; within = inside _ _ _ _ _ c.in_ok-next.ensures };
    slots = c.cuts_at-cuts.ensures.places;
    few = c.cuts_at-cuts.ensures.few;
    counted = search rules;
    begun = search rules;
    parted = found_apart _ _ _ _ _ _ c.cuts_at-cuts.ensures;
  },
)

pub cut_node-returns : goal.cut_node-returns
cut_node-returns t c =
    let a = c.args in
    rw (tree_more _ _ _ _ _ _ _ _ c.if-left-eq0.false)
    (after _ _ _ _ _ c.in_ok-next.ensures _ _ _ (search rules)
    (rw (walk_all a.settings (a.left - 1) (a.level + 1) a.start _ a.used _ _ _ c.cuts_at-cuts.ensures (filled _ _ _ _ _ c.in_ok-next.ensures))
    at c.walk_children.ensures))

pub walk_children-slice_bounds-cut_node-count : goal.walk_children-slice_bounds-cut_node-count
walk_children-slice_bounds-cut_node-count t c =
    let e : ChildEnd c.args.from c.if-child-n.to c.args.cuts.at c.args.cuts.n c.args.child (length c.args.bytes.now) =
    elim c.if-child-n.branch [
      | walk_children-then-child-n w ↦ ends_at_cut _ _ _ _ _ _ w.if-child-n.true (search rules) c.requires.parted w.to-is
      | walk_children-else-child-n w ↦ ends_with_node _ _ _ _ _ _ w.if-child-n.false c.requires.begun w.to-is
    ] in
    e.low

pub walk_children-slice_bounds-cut_node-start : goal.walk_children-slice_bounds-cut_node-start
walk_children-slice_bounds-cut_node-start t c =
    let e : ChildEnd c.args.from c.if-child-n.to c.args.cuts.at c.args.cuts.n c.args.child (length c.args.bytes.now) =
    elim c.if-child-n.branch [
      | walk_children-then-child-n w ↦ ends_at_cut _ _ _ _ _ _ w.if-child-n.true (search rules) c.requires.parted w.to-is
      | walk_children-else-child-n w ↦ ends_with_node _ _ _ _ _ _ w.if-child-n.false c.requires.begun w.to-is
    ] in
    e.low

pub walk_children-slice_bounds-cut_node-end : goal.walk_children-slice_bounds-cut_node-end
walk_children-slice_bounds-cut_node-end t c =
    let e : ChildEnd c.args.from c.if-child-n.to c.args.cuts.at c.args.cuts.n c.args.child (length c.args.bytes.now) =
    elim c.if-child-n.branch [
      | walk_children-then-child-n w ↦ ends_at_cut _ _ _ _ _ _ w.if-child-n.true (search rules) c.requires.parted w.to-is
      | walk_children-else-child-n w ↦ ends_with_node _ _ _ _ _ _ w.if-child-n.false c.requires.begun w.to-is
    ] in
    e.high

pub walk_children-cut_node-requires : goal.walk_children-cut_node-requires
walk_children-cut_node-requires t c =
    let e : ChildEnd c.args.from c.if-child-n.to c.args.cuts.at c.args.cuts.n c.args.child (length c.args.bytes.now) =
    elim c.if-child-n.branch [
      | walk_children-then-child-n w ↦ ends_at_cut _ _ _ _ _ _ w.if-child-n.true (search rules) c.requires.parted w.to-is
      | walk_children-else-child-n w ↦ ends_with_node _ _ _ _ _ _ w.if-child-n.false c.requires.begun w.to-is
    ] in (
      search rules,
      record {
        settings = c.requires.node.settings;
        depth = c.requires.node.depth;
        inside = simp (length-take, length-drop) (omega (arith, e.low, e.high, c.requires.node.inside));
        room = c.requires.node.room;
        within = c.requires.node.within;
      },
    )

pub walk_children-returns-then-n-child : goal.walk_children-returns-then-n-child
walk_children-returns-then-n-child t c =
    let e : ChildEnd c.args.from c.if-child-n.to c.args.cuts.at c.args.cuts.n c.args.child (length c.args.bytes.now) =
    elim c.if-child-n.branch [
      | walk_children-then-child-n w ↦ ends_at_cut _ _ _ _ _ _ w.if-child-n.true (search rules) c.requires.parted w.to-is
      | walk_children-else-child-n w ↦ ends_with_node _ _ _ _ _ _ w.if-child-n.false c.requires.begun w.to-is
    ] in
    let a = c.args in
    rw (walk_last _ a.parent a.start a.from _ a.used a.bytes.now a.cuts.at a.cuts.n a.child (search rules) e c.if-n-child.true)
    c.in_ok-next.ensures

pub walk_children-returns-in_err-next : goal.walk_children-returns-in_err-next
walk_children-returns-in_err-next t c =
    let e : ChildEnd c.args.from c.if-child-n.to c.args.cuts.at c.args.cuts.n c.args.child (length c.args.bytes.now) =
    elim c.if-child-n.branch [
      | walk_children-then-child-n w ↦ ends_at_cut _ _ _ _ _ _ w.if-child-n.true (search rules) c.requires.parted w.to-is
      | walk_children-else-child-n w ↦ ends_with_node _ _ _ _ _ _ w.if-child-n.false c.requires.begun w.to-is
    ] in
    let a = c.args in
    elim (dec_le a.cuts.n a.child) [
      | yes last ↦ rw (c.from_residual.ensures, walk_last _ a.parent a.start a.from _ a.used a.bytes.now a.cuts.at a.cuts.n a.child (search rules) e last) c.in_err-next.ensures
      | no more ↦ rw (c.from_residual.ensures, walk_next _ a.parent a.start a.from _ a.used a.bytes.now a.cuts.at a.cuts.n a.child (search rules) e (omega arith) _ refl)
          (stop _ _ _ _ _ c.in_err-next.ensures)
    ]

pub walk_children-walk_children-requires : goal.walk_children-walk_children-requires
walk_children-walk_children-requires t c =
    let e : ChildEnd c.args.from c.if-child-n.to c.args.cuts.at c.args.cuts.n c.args.child (length c.args.bytes.now) =
    elim c.if-child-n.branch [
      | walk_children-then-child-n w ↦ ends_at_cut _ _ _ _ _ _ w.if-child-n.true (search rules) c.requires.parted w.to-is
      | walk_children-else-child-n w ↦ ends_with_node _ _ _ _ _ _ w.if-child-n.false c.requires.begun w.to-is
    ] in (
      search rules,
      record {
        node = record { settings = c.requires.node.settings; depth = c.requires.node.depth; inside = c.requires.node.inside; room = search rules; within = inside _ _ _ _ _ c.in_ok-next.ensures };
        slots = c.requires.slots;
        few = c.requires.few;
        counted = search rules;
        begun = e.high;
        parted = (e.next c.if-n-child.false).1;
      },
    )

pub walk_children-returns : goal.walk_children-returns
walk_children-returns t c =
    let e : ChildEnd c.args.from c.if-child-n.to c.args.cuts.at c.args.cuts.n c.args.child (length c.args.bytes.now) =
    elim c.if-child-n.branch [
      | walk_children-then-child-n w ↦ ends_at_cut _ _ _ _ _ _ w.if-child-n.true (search rules) c.requires.parted w.to-is
      | walk_children-else-child-n w ↦ ends_with_node _ _ _ _ _ _ w.if-child-n.false c.requires.begun w.to-is
    ] in
    let a = c.args in
    rw (walk_next _ a.parent a.start a.from _ a.used a.bytes.now a.cuts.at a.cuts.n a.child (search rules) e c.if-n-child.false _
    (filled _ _ _ _ _ c.in_ok-next.ensures))
    (after _ _ _ _ _ c.in_ok-next.ensures _ _ _ (search rules) c.walk_children.ensures)
