-- Each way out of cutting a string is a case of the definition: refused by 1 to 6, by 7, by 8, and accepted.
use mathlib.Core.Bool.{Bool, true, false}
use mathlib.Core.List.{List, ◌++◌, append_assoc}
use mathlib.Core.Path.{◌≡◌, refl, ap, ◌∙◌}
use Prim.Native.Nat.{ℕ, ◌+◌, ◌*◌, ◌-◌, ◌^◌, ◌≤◌, ◌<◌}
use native.Mathlib.Nat.{sub-zero}
use native.Mathlib.Omega.{arith}
use native.Mathlib.Decide.{dec_le}
use borrow.Author.Tests.{eq-eqb, ne_eqb, le-leb, lt-leb}
use lib.ListN.{length, take, drop, replicate}
use lib.Seq.{take_at, length_front}
use Rattle.rows.specs.Rows.{clear_from, put}
use Rattle.tree.specs.declared.Settings.{Settings}
use Rattle.tree.specs.Questions.{ask, refusal}
use Rattle.tree.specs.Tree.{nodes_of}
use Rattle.tree.specs.Places.{Placed, placed_tree, places_of}
use Rattle.tree.specs.Table.{entries_of, tree_refusal, tree_answer, tree_table, Tabled}
use Rattle.tree.specs.Wrote.{Wrote, Finished}
use Rattle.std.specs.Prelude.{Option, None, Some, IfSome}
use Rattle.tree.proofs.Wrote.{length_nodes, fits, filled, inside}
use Rattle.tree.proofs.Places.{count_placed}

-- Entries written from the start of a table are its front.
front_put : (t e rest : List ℕ) (n : ℕ) → length e ≡ n → take n (put t 0 e ++ rest) ≡ e
unfolding put
front_put t e rest n h =
    let behind = drop (0 + length e) t in
    ap (take n) (append_assoc e behind rest) ∙ take_at e (behind ++ rest) n h

ask_small : (test : Bool) (number next : ℕ) → number ≤ 6 → next ≤ 6 → ask test number next ≤ 6
unfolding ask
ask_small true number next h k = k
ask_small false number next h k = h

pub refusal_small : (σ : Settings) (n : ℕ) → refusal σ n ≤ 6
unfolding refusal
refusal_small σ n =
    ask_small _ 1 _ (omega arith) (ask_small _ 2 _ (omega arith) (ask_small _ 3 _ (omega arith)
    (ask_small _ 4 _ (omega arith) (ask_small _ 5 _ (omega arith) (ask_small _ 6 _ (omega arith) (omega arith))))))

module _ (σ : Settings) (string before : List ℕ) where
  -- A no at 1 to 7.
  unchanged : (k : ℕ) → tree_refusal σ string (length before) ≡ k → k ≤ 7 → (k ≡ 0 → ⊥) → Tabled σ string before before k
  unfolding tree_answer tree_table
  unchanged k e small some =
      record {
        answer = rw (e, ne_eqb k 0 some);
        table = rw (e, ne_eqb k 0 some, ne_eqb k 8 (λ z. omega arith));
      }

  pub refused_settings : (r : ℕ) → r ≡ refusal σ (length string) → (r ≡ 0 → ⊥) → Tabled σ string before before r
  unfolding tree_refusal ask
  refused_settings r e some =
      unchanged r (rw (← e, ne_eqb r 0 some)) (omega (arith, refusal_small σ (length string))) some

  pub refused_room : refusal σ (length string) ≡ 0 → length before < 65536 → Tabled σ string before before 7
  unfolding tree_refusal ask
  refused_room e h = unchanged 7 (rw (eq-eqb _ 0 e, lt-leb 65536 (length before) h)) (omega arith) (λ z. omega arith)

  -- A node count that is known, of a table with room.
  module _ (asked : refusal σ (length string) ≡ 0) (room : 65536 ≤ length before) where
    refused_eight : (after : List ℕ) → 4096 < length (nodes_of σ string) → after ≡ replicate (length before) 0 → Tabled σ string before after 8
    unfolding tree_refusal tree_answer tree_table ask
    refused_eight after h e =
        let k : tree_refusal σ string (length before) ≡ 8 = rw (eq-eqb _ 0 asked, le-leb 65536 (length before) room, lt-leb (length (nodes_of σ string)) 4096 h) in
        record { answer = rw k; table = e ∙ rw k }

    accepted_with : (after : List ℕ) (r : ℕ) → length (nodes_of σ string) ≤ 4096 → r ≡ 2 ^ 32 + length (nodes_of σ string)
        → after ≡ entries_of (places_of σ string) ++ replicate (length before - 16 * length (nodes_of σ string)) 0 → Tabled σ string before after r
    unfolding tree_refusal tree_answer tree_table ask
    accepted_with after r h a e =
        let k : tree_refusal σ string (length before) ≡ 0 = rw (eq-eqb _ 0 asked, le-leb 65536 (length before) room, le-leb (length (nodes_of σ string)) 4096 h) in
        record { answer = a ∙ rw k; table = e ∙ rw k }

    -- The first 65,536 bytes of the table were lent to be written to, and came back as `part`.
    module _ (part : List ℕ) (kept : length part ≡ length (take 65536 before)) where
      whole : length (part ++ drop 65536 before) ≡ length before
      whole = length_front before part 65536 kept

      refused_count : Wrote (take 65536 before) part 0 (placed_tree σ σ.levels 0 0 0 0 0 string) None
          → (after : List ℕ) → after ≡ clear_from (part ++ drop 65536 before) 0 → Tabled σ string before after 8
      unfolding clear_from places_of
      refused_count wrote after e =
          let count = count_placed σ string in
          refused_eight after
          (elim (dec_le (length (nodes_of σ string)) 4096) [ yes k ↦ let f = (wrote.fit (omega arith)).0 in absurd (cc f) | no k ↦ omega arith ])
          (e ∙ rw (sub-zero, whole))

      accepted_nodes : (used : ℕ) → Wrote (take 65536 before) part 0 (placed_tree σ σ.levels 0 0 0 0 0 string) (Some used)
          → (after : List ℕ) (r : ℕ) → after ≡ clear_from (part ++ drop 65536 before) (used * 16) → r ≡ 2 ^ 32 + used
          → Tabled σ string before after r
      unfolding clear_from places_of
      accepted_nodes used wrote after r e answer =
          let same = count_placed σ string in
          let fit = fits _ _ _ _ _ wrote in
          let is = filled _ _ _ _ _ wrote in
          let written = (wrote.fit fit).1 in
          let ns = places_of σ string in
          let count : length (nodes_of σ string) ≤ 4096 = omega arith in
          let used-is : used ≡ length (nodes_of σ string) = omega arith in
          let front : take (used * 16) (part ++ drop 65536 before) ≡ entries_of ns =
          ap (λ (l : List ℕ). take (used * 16) (l ++ drop 65536 before)) written
          ∙ front_put (take 65536 before) (entries_of ns) (drop 65536 before) (used * 16) (omega (arith, length_nodes ns)) in
          let zeros : length before - used * 16 ≡ length before - 16 * length (nodes_of σ string) = omega arith in
          accepted_with after r count (answer ∙ ap (λ (n : ℕ). 2 ^ 32 + n) used-is) (e ∙ rw (front, whole, zeros))

      pub finished : (used : Option ℕ) → Wrote (take 65536 before) part 0 (placed_tree σ σ.levels 0 0 0 0 0 string) used
          → (after : List ℕ) (r : ℕ) → Finished (part ++ drop 65536 before) after used r → Tabled σ string before after r
      finished None wrote after r f = let done = f.many refl in rw done.0 (refused_count wrote after done.1)
      finished (Some n) wrote after r f = let done = f.few n refl in accepted_nodes n wrote after r done.1 done.0

-- Of nodes that fitted there are at most 4,096.
pub used_inside : (t₀ t₁ : List ℕ) (u : ℕ) (ns : List Placed) (used : Option ℕ) → Wrote t₀ t₁ u ns used → IfSome used (λ n. n ≤ 4096)
used_inside t₀ t₁ u ns None wrote = tt
used_inside t₀ t₁ u ns (Some n) wrote = inside t₀ t₁ u ns n wrote
