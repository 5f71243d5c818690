-- The lists of two accepted setups keep document 01's limits, so that document 02's request 13 holds of them.
use mathlib.Core.Bool.{Bool, true, false, ◌||◌}
use mathlib.Core.List.{List, [], ◌∷◌, map}
use mathlib.Core.Path.{◌≡◌, refl, sym, subst}
use Prim.Native.Nat.{ℕ, ◌≤◌}
use native.Mathlib.Omega.{arith}
use lib.ListN.{length, length-map}
use Rattle.entries.proofs.Linear.{both}
use Rattle.tree.specs.declared.Settings.{Settings}
use Rattle.tree.specs.Tree.{nodes_of}
use Rattle.tree.proofs.Questions.{granted}
use Rattle.shingle.specs.declared.Shingle.{Shingle}
use Rattle.shingle.specs.Shingles.{shingles_of}
use Rattle.shingle.specs.Table.{agree, holds}
use Rattle.shingle.specs.Children.{listed_of}
use Rattle.shingle.proofs.Agreement.{agree_true}
use Rattle.shingle.proofs.Rising.{shingles_rise, listed_exactly, listed_few}
use Rattle.pairs.proofs.Twice.{rising_none}
use Rattle.setup.specs.Tables.{shingles_of_string}
use Rattle.setup.proofs.Accepted.{setup_passed}
use Rattle.setup.proofs.Questions.{width_within}
use Rattle.setup.proofs.Sizes.{few_shingles}
use Rattle.orders.specs.Limits.{Listable, Lists}
use Rattle.orders.specs.Orders.{OpensExactly}
use Rattle.orders.proofs.Orders.{lined_up_opens, one_opens}
use Rattle.protocol.specs.Lent.{Lent}
use Rattle.protocol.specs.Calls.{Every}
use Rattle.protocol.specs.Genuine.{Accepted}
use Rattle.protocol.specs.Demand.{SetupAccepts, taken_between, OpensToDifference}
use Rattle.protocol.proofs.Tables.{LowShingle, list_low}
use Rattle.demand.specs.Sketch.{LinedUpTrees, OneShingleTrees}

low_in : (levels : ℕ) (ss : List Shingle) (s : Shingle) → Every (LowShingle levels) ss → holds s ss ≡ true → LowShingle levels s
unfolding Every holds
low_in levels [] s all h = absurd (both h refl)
low_in levels (x ∷ ss) s all h = go (agree s x) refl h (low_in levels ss s all.1)
  where
    go : (t : Bool) → agree s x ≡ t → (t || holds s ss) ≡ true → (holds s ss ≡ true → LowShingle levels s) → LowShingle levels s
    go true e f rest = subst (LowShingle levels) (sym (agree_true s x e)) all.0
    go false e f rest = rest f

-- The list of a string whose tree has at most 4,096 nodes.
listable : (σ : Settings) (string : List ℕ) → length (nodes_of σ string) ≤ 4096 → Listable σ.levels (shingles_of_string σ string)
unfolding shingles_of_string
listable σ string few =
    let nodes = map listed_of (nodes_of σ string) in
    record {
      each = λ s h.
          let low = low_in σ.levels (shingles_of nodes) s (list_low σ string) h in
          record {
            previous_id = low.before;
            own_id = low.itself;
            level_high = low.shallow;
            count_low = ((listed_exactly nodes s).0 h).1;
            count_high = omega (arith, listed_few nodes s h, length-map (nodes_of σ string) listed_of, few);
          };
      few = omega (arith, few_shingles σ string, few);
      once = rising_none (shingles_rise nodes);
    }

module _ (σ : Settings) (m : Lent) (string : List ℕ) (set-up : SetupAccepts σ m) (sender : Accepted σ string) where
  tree_lists : Lists σ.width σ.levels (shingles_of_string σ string) (shingles_of_string σ m.string)
  tree_lists =
      record {
        some = (width_within σ (length string) sender.questions).0;
        low = (granted σ (length string) sender.questions).0.levels_high;
        sender = listable σ string sender.few;
        receiver = listable σ m.string (setup_passed σ m.string true m.nodes m.shingles m.cells set-up).2;
      }

  opened : OpensExactly (shingles_of_string σ string) (shingles_of_string σ m.string) (taken_between σ m.string string) → OpensToDifference σ m.string string
  opened o = record { opens = o.opens; positive = o.difference.positive; negative = o.difference.negative }

pub lined_up_trees : LinedUpTrees
lined_up_trees σ m string set-up sender truthful lined =
    opened σ m string set-up sender (lined_up_opens σ.width σ.levels _ _ (tree_lists σ m string set-up sender) truthful lined)

pub one_shingle_trees : OneShingleTrees
one_shingle_trees σ m string set-up sender z e =
    opened σ m string set-up sender (one_opens σ.width σ.levels _ _ (tree_lists σ m string set-up sender) z e)
