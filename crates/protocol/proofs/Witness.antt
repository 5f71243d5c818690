-- The conditions of demand 3's second half can hold together: one concrete session, by computation.
use mathlib.Core.Bool.{Bool, true, false, not, ◌&&◌, ◌||◌}
use mathlib.Core.List.{List, [], ◌∷◌, ◌++◌}
use mathlib.Core.Logic.{◌⊎◌, inl, inr, ⊎_elim}
use mathlib.Core.Path.{◌≡◌, refl, sym, ap, ◌∙◌}
use Prim.Native.Nat.{ℕ, ◌≤◌}
use native.Mathlib.Omega.{arith}
use borrow.Author.Tests.{le-leb}
use lib.ListN.{length, replicate}
use Rattle.rows.specs.Rows.{bytes_of}
use Rattle.fnv.specs.Fnv.{next_hash, hash_onward, id_of_block}
use Rattle.spread.specs.Spreading.{spread_of}
use Rattle.partition.specs.Cuts.{number_from, window_at, value_at, lowest as lowest_value, candidate, cons_if, passing, spaced, cuts_of}
use Rattle.partition.specs.Blocks.{blocks_from, blocks_of as blocks}
use Rattle.tree.specs.declared.Settings.{Settings}
use Rattle.tree.specs.Questions.{ask, refusal}
use Rattle.tree.specs.Tree.{children_of, in_turn, tree_of, nodes_of}
use Rattle.entries.specs.Order.{first, earlier}
use Rattle.shingle.specs.declared.Shingle.{Shingle}
use Rattle.shingle.specs.Shingles.{sibling_of, pairs_after, pairs_of, lower, counting, counted, shingles_of}
use Rattle.sketch.specs.Sums.{sum_at, along, sums, neg, minus, difference_of, plus, negated}
use Rattle.sketch.specs.Cells.{four_bytes, shingle_bytes, tag_of, cell_of, five_parts, in_cell, parts_of, all_parts, cells_of}
use Rattle.sketch.specs.Opening.{Signed, signed, signed_parts, is_negative, value_in, shingle_in, lies_in, fits, single, first_from, lowest, held_by, without, peeled, after, take_one, peel, taken_of, all_zero, positives, negatives, shingles_of as taken_shingles, no_shingle_twice, all_held, none_held, kept, before, renewed, new_list, pair_in, no_pair_twice, opens_to}
use Rattle.sort.specs.Sort.{insert_of, sort_of}
use Rattle.shingle.specs.Rising.{same_pair}
use Rattle.shingle.specs.Table.{agree, holds}
use Rattle.shingle.proofs.Agreement.{agree_true}
use Rattle.tree.specs.Laws.{Content}
use Rattle.setup.specs.Questions.{tables_fit, lent_refusal, refusal_of, setup_refusal}
use Rattle.setup.specs.Tables.{shingles_of_string}
use Rattle.protocol.specs.Lent.{Lent, lent}
use Rattle.protocol.specs.Calls.{Every, Some}
use Rattle.protocol.specs.Genuine.{blocks_of, Accepted}
use Rattle.protocol.specs.Demand.{SetupAccepts, In, NoCollision, taken_between, OpensToDifference, Ends, Progress}
use Rattle.protocol.proofs.Progress.{progress}

abbrev σ : Settings
σ = record { window = 2; fan_out = 2; levels = 1; nominal = 2; width = 3 }

abbrev own : List ℕ
own = []

abbrev string : List ℕ
string = 7 ∷ []

abbrev own_root : Shingle
own_root = record { previous = 0; own = 14695981039346656037; level = 0; count = 1 }

abbrev own_leaf : Shingle
own_leaf = record { previous = 0; own = 14695981039346656037; level = 1; count = 1 }

abbrev their_root : Shingle
their_root = record { previous = 0; own = 12638149817160282822; level = 0; count = 1 }

abbrev their_leaf : Shingle
their_leaf = record { previous = 0; own = 12638149817160282822; level = 1; count = 1 }

abbrev own_list : List Shingle
own_list = own_root ∷ own_leaf ∷ []

abbrev their_list : List Shingle
their_list = their_root ∷ their_leaf ∷ []

own_list_lem : shingles_of_string σ own ≡ own_list
unfolding shingles_of_string shingles_of counted counting lower earlier first pairs_of pairs_after sibling_of nodes_of tree_of in_turn children_of blocks blocks_from cuts_of spaced passing cons_if candidate lowest_value value_at window_at number_from spread_of id_of_block hash_onward next_hash
own_list_lem = refl

their_list_lem : shingles_of_string σ string ≡ their_list
unfolding shingles_of_string shingles_of counted counting lower earlier first pairs_of pairs_after sibling_of nodes_of tree_of in_turn children_of blocks blocks_from cuts_of spaced passing cons_if candidate lowest_value value_at window_at number_from spread_of id_of_block hash_onward next_hash
their_list_lem = refl

abbrev own_cells : List ℕ
own_cells = 0 ∷ 0 ∷ 0 ∷ 0 ∷ 0 ∷ 2 ∷ 0 ∷ 10945218004983760458 ∷ 65538 ∷ 8681629458506278047 ∷ 0 ∷ 0 ∷ 0 ∷ 0 ∷ 0 ∷ 0 ∷ 0 ∷ 0 ∷ 0 ∷ 0 ∷ 1 ∷ 0 ∷ 14695981039346656037 ∷ 65537 ∷ 13252105233929516205 ∷ 1 ∷ 0 ∷ 14695981039346656037 ∷ 1 ∷ 13876268298286313458 ∷ 1 ∷ 0 ∷ 14695981039346656037 ∷ 1 ∷ 13876268298286313458 ∷ 1 ∷ 0 ∷ 14695981039346656037 ∷ 65537 ∷ 13252105233929516205 ∷ 0 ∷ 0 ∷ 0 ∷ 0 ∷ 0 ∷ []

abbrev their_cells : List ℕ
their_cells = 1 ∷ 0 ∷ 12638149817160282822 ∷ 65537 ∷ 6581274697322152443 ∷ 0 ∷ 0 ∷ 0 ∷ 0 ∷ 0 ∷ 1 ∷ 0 ∷ 12638149817160282822 ∷ 1 ∷ 7205437761678949696 ∷ 1 ∷ 0 ∷ 12638149817160282822 ∷ 65537 ∷ 6581274697322152443 ∷ 1 ∷ 0 ∷ 12638149817160282822 ∷ 1 ∷ 7205437761678949696 ∷ 0 ∷ 0 ∷ 0 ∷ 0 ∷ 0 ∷ 1 ∷ 0 ∷ 12638149817160282822 ∷ 65537 ∷ 6581274697322152443 ∷ 0 ∷ 0 ∷ 0 ∷ 0 ∷ 0 ∷ 1 ∷ 0 ∷ 12638149817160282822 ∷ 1 ∷ 7205437761678949696 ∷ []

own_cells_lem : cells_of 3 own_list ≡ own_cells
unfolding cells_of sums along sum_at all_parts parts_of in_cell five_parts cell_of tag_of shingle_bytes four_bytes bytes_of hash_onward next_hash
own_cells_lem = refl

their_cells_lem : cells_of 3 their_list ≡ their_cells
unfolding cells_of sums along sum_at all_parts parts_of in_cell five_parts cell_of tag_of shingle_bytes four_bytes bytes_of hash_onward next_hash
their_cells_lem = refl

abbrev taken : List Signed
taken = signed false their_leaf ∷ signed false their_root ∷ signed true own_leaf ∷ signed true own_root ∷ []

all_taken : taken_of 3 1 their_cells own_cells ≡ peeled taken (replicate 45 0)
unfolding taken_of peel take_one after held_by lowest first_from single fits lies_in shingle_in value_in is_negative without signed_parts plus negated neg minus difference_of along sum_at cell_of tag_of shingle_bytes four_bytes bytes_of hash_onward next_hash in_cell five_parts parts_of
all_taken = refl

-- The difference is the true one.
opens_so : opens_to own_list (peeled taken (replicate 45 0)) ≡ true
unfolding opens_to all_zero no_shingle_twice taken_shingles positives negatives all_held none_held holds agree new_list renewed kept sort_of insert_of before earlier first no_pair_twice pair_in same_pair
opens_so = refl

-- A test on the two own shingles and the two of the sender, none of which agrees with another.
either_list : (a b c d : Bool) → (a ≡ true → (c || (d || false)) ≡ false) → (b ≡ true → (c || (d || false)) ≡ false) → (b || (a || false)) ≡ ((a || (b || false)) && not (c || (d || false)))
either_list true b c d h g = rw (h refl) (swap b)
  where
    swap : (b : Bool) → (b || (true || false)) ≡ ((true || (b || false)) && not false)
    swap true = refl
    swap false = refl
either_list false true c d h g = rw (g refl) refl
either_list false false c d h g = refl

not_own : (holds their_root own_list ≡ false) × (holds their_leaf own_list ≡ false)
unfolding holds agree
not_own = (refl, refl)

not_theirs : (holds own_root their_list ≡ false) × (holds own_leaf their_list ≡ false)
unfolding holds agree
not_theirs = (refl, refl)

not_both : (s x : Shingle) (list : List Shingle) → holds x list ≡ false → agree s x ≡ true → holds s list ≡ false
not_both s x list e f = ap (λ (y : Shingle). holds y list) (agree_true s x f) ∙ e

positive_so : (s : Shingle) → holds s (positives taken) ≡ (holds s their_list && not (holds s own_list))
unfolding positives holds
positive_so s =
    either_list (agree s their_root) (agree s their_leaf) (agree s own_root) (agree s own_leaf)
    (not_both s their_root own_list not_own.0) (not_both s their_leaf own_list not_own.1)

negative_so : (s : Shingle) → holds s (negatives taken) ≡ (holds s own_list && not (holds s their_list))
unfolding negatives holds
negative_so s =
    either_list (agree s own_root) (agree s own_leaf) (agree s their_root) (agree s their_leaf)
    (not_both s own_root their_list not_theirs.0) (not_both s own_leaf their_list not_theirs.1)

between : taken_between σ own string ≡ peeled taken (replicate 45 0)
between = rw (own_list_lem, their_list_lem, own_cells_lem, their_cells_lem) all_taken

opens_to_difference : OpensToDifference σ own string
opens_to_difference =
    record {
      opens = rw (between, own_list_lem) opens_so;
      positive = λ s. rw (between, own_list_lem, their_list_lem) (positive_so s);
      negative = λ s. rw (between, own_list_lem, their_list_lem) (negative_so s);
    }

-- The two trees have two different blocks, and their ids differ.
abbrev block : ℕ → List ℕ → Content
block l bytes = record { level = l; bytes = bytes }

all_blocks : blocks_of σ own ++ blocks_of σ string ≡ block 0 own ∷ block 1 own ∷ block 0 string ∷ block 1 string ∷ []
unfolding blocks_of nodes_of tree_of in_turn children_of blocks blocks_from cuts_of spaced passing cons_if candidate lowest_value value_at window_at number_from spread_of id_of_block hash_onward next_hash
all_blocks = refl

one_of_two : (c : Content) → In c (block 0 own ∷ block 1 own ∷ block 0 string ∷ block 1 string ∷ []) → (c.bytes ≡ own) ⊎ (c.bytes ≡ string)
unfolding Some
one_of_two c i =
    ⊎_elim (λ e. inl (sym (ap (λ (x : Content). x.bytes) e))) (λ i.
    ⊎_elim (λ e. inl (sym (ap (λ (x : Content). x.bytes) e))) (λ i.
    ⊎_elim (λ e. inr (sym (ap (λ (x : Content). x.bytes) e))) (λ i.
    ⊎_elim (λ e. inr (sym (ap (λ (x : Content). x.bytes) e))) (λ i. absurd i) i) i) i) i

ids_differ : id_of_block own ≡ id_of_block string → ⊥
unfolding id_of_block hash_onward next_hash
ids_differ e = omega (arith, e)

no_collision : NoCollision (blocks_of σ own ++ blocks_of σ string)
no_collision =
    record {
      apart = λ a b i j e.
          ⊎_elim
          (λ x. ⊎_elim (λ y. x ∙ sym y) (λ y. absurd (ids_differ (sym (ap id_of_block x) ∙ (e ∙ ap id_of_block y)))) (one_of_two b (rw all_blocks at j)))
          (λ x. ⊎_elim (λ y. absurd (ids_differ (sym (ap id_of_block y) ∙ (sym e ∙ ap id_of_block x)))) (λ y. x ∙ sym y) (one_of_two b (rw all_blocks at j)))
          (one_of_two a (rw all_blocks at i));
    }

sender : Accepted σ string
unfolding Every refusal ask nodes_of tree_of in_turn children_of blocks blocks_from cuts_of spaced passing cons_if candidate lowest_value value_at window_at number_from spread_of
sender = record { bytes = (omega arith, tt); questions = refl; few = omega arith }

own_few : length (nodes_of σ own) ≡ 2
unfolding nodes_of tree_of in_turn children_of blocks blocks_from cuts_of spaced passing cons_if candidate lowest_value value_at window_at number_from spread_of
own_few = refl

module _ (nodes shingles cells output : List ℕ) (room : (65536 ≤ length nodes) × (98304 ≤ length shingles) × (360 ≤ length cells) × (1 ≤ length output)) where
  abbrev m : Lent
  m = lent own nodes shingles cells output

  set_up : SetupAccepts σ m
  unfolding setup_refusal refusal_of lent_refusal tables_fit refusal ask
  set_up =
      rw (own_few, le-leb 65536 (length nodes) room.0, le-leb 98304 (length shingles) room.1, le-leb 360 (length cells) room.2) refl

  ends : Ends σ m string
  ends = record { sender = sender; apart = no_collision; difference = opens_to_difference; room = room.3 }

  -- Whatever the tables and the output held before: a session that meets all conditions, and hands the sender's string over.
  pub witness : Progress σ m string 5
  witness = progress σ m 5 set_up string ends
