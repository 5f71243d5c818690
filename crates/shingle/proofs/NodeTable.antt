-- The node table that cutting a string leaves is read as the string's tree.
use mathlib.Core.Bool.{Bool, true, false, cond}
use mathlib.Core.List.{List, [], ◌∷◌, map}
use mathlib.Core.Path.{◌≡◌, refl, ap, ◌∙◌}
use Prim.Native.Nat.{ℕ, ◌+◌, ◌^◌, ◌≤◌}
use native.Mathlib.Omega.{arith}
use borrow.Author.Tests.{eqb-true}
use lib.Dec.{eqb, leb}
use lib.ListN.{length}
use Rattle.tree.specs.declared.Settings.{Settings}
use Rattle.tree.specs.Questions.{ask, refusal}
use Rattle.tree.specs.Tree.{nodes_of}
use Rattle.tree.specs.Places.{Placed, places_of}
use Rattle.tree.specs.Table.{entry_of, tree_refusal, tree_answer, Tabled}
use Rattle.tree.proofs.Places.{node_of, nodes_placed}
use Rattle.tree.proofs.Reading.{tree_accepted, tree_entries}
use Rattle.shingle.specs.Shingles.{Listed}
use Rattle.shingle.specs.Table.{node_as, nodes_in}
use Rattle.shingle.specs.Children.{listed_of}

listed_nodes : (ns : List Placed) → map node_as (map entry_of ns) ≡ map listed_of (map node_of ns)
listed_nodes [] = refl
listed_nodes (n ∷ ns) = ap (λ (l : List Listed). listed_of n.node ∷ l) (listed_nodes ns)

-- An answer from 2^32 on says that no question refused.
ask_small : (test : Bool) (number next : ℕ) → number ≤ 8 → next ≤ 8 → ask test number next ≤ 8
unfolding ask
ask_small true number next h k = k
ask_small false number next h k = h

refusal_few : (σ : Settings) (n : ℕ) → refusal σ n ≤ 8
unfolding refusal
refusal_few σ n =
    ask_small _ 1 _ (omega arith) (ask_small _ 2 _ (omega arith) (ask_small _ 3 _ (omega arith)
    (ask_small _ 4 _ (omega arith) (ask_small _ 5 _ (omega arith) (ask_small _ 6 _ (omega arith) (omega arith))))))

module _ (σ : Settings) (string before after : List ℕ) (r : ℕ) (tabled : Tabled σ string before after r) (accepted : 2 ^ 32 ≤ r) where
  no_refusal : tree_refusal σ string (length before) ≡ 0
  unfolding tree_answer tree_refusal
  no_refusal =
      let small = ask_small (eqb (refusal σ (length string)) 0) (refusal σ (length string)) _ (refusal_few σ (length string))
      (ask_small (leb 65536 (length before)) 7 _ (omega arith) (ask_small (leb (length (nodes_of σ string)) 4096) 8 0 (omega arith) (omega arith))) in
      go (eqb (tree_refusal σ string (length before)) 0) refl small tabled.answer
    where
      go : (t : Bool) → eqb (tree_refusal σ string (length before)) 0 ≡ t → tree_refusal σ string (length before) ≤ 8
          → r ≡ cond t (2 ^ 32 + length (nodes_of σ string)) (tree_refusal σ string (length before)) → tree_refusal σ string (length before) ≡ 0
      go true e h f = eqb-true (tree_refusal σ string (length before)) 0 e
      go false e h f = absurd (omega arith)

  -- The nodes that are read from the table which cutting a string left are those of its tree.
  pub tree_read : nodes_in after ≡ map listed_of (nodes_of σ string)
  unfolding nodes_in
  tree_read =
      ap nodes_in tabled.table
      ∙ (ap (map node_as) (tree_entries σ string before no_refusal 4096 (tree_accepted σ string (length before) no_refusal).few)
      ∙ (listed_nodes (places_of σ string) ∙ ap (map listed_of) (nodes_placed σ string)))
