-- One pass over entries that counts equal neighbours: what is written and what is still to come are together the whole.
use mathlib.Core.Bool.{true, false}
use mathlib.Core.List.{List, [], ◌∷◌, ◌++◌, append_assoc}
use mathlib.Core.Path.{◌≡◌, refl, sym, ap, ap₂, ◌∙◌}
use Prim.Native.Nat.{ℕ, ◌+◌, ◌/◌, ◌≤◌, ◌<◌}
use native.Mathlib.Numerals.{add-one}
use native.Mathlib.Omega.{arith}
use lib.ListN.{length, get_or, take, drop, drop_of_length-le}
use lib.Seq.{drop-cons, take-suc-set, drop-set-lt}
use Rattle.entries.specs.declared.Entry.{Entry}
use Rattle.entries.specs.Entries.{blank, table_of, Put}
use Rattle.entries.specs.Order.{precedes}
use Rattle.entries.proofs.Entries.{length_table, put_length}
use Rattle.sort.specs.Sort.{sort_of, Sorted}
use Rattle.shingle.specs.Steps.{entry_with_count, equal, tally, tallied, Merged}

pub record Merging (t₀ t : List ℕ) (n : ℕ) (e : Entry) (m w r : ℕ) : Type 0 where
  pub size : n ≡ length t₀ / 24
  pub behind : w < r
  pub inside : r ≤ n
  pub few : m ≤ r
  pub long : length t ≡ length t₀
  pub stretches : take w (table_of t) ++ tally e m (drop r (table_of t)) ≡ tallied (table_of t₀)

no_entries : (l : List Entry) → length l ≡ 0 → l ≡ []
no_entries [] z = refl
no_entries (x ∷ l) z = absurd (omega arith)

pub merged_none : (t : List ℕ) (n : ℕ) → n ≡ length t / 24 → n ≡ 0 → Merged (table_of t) t t 0
unfolding tallied
merged_none t n e z =
    record { long = refl; few = omega arith; stretches = sym (ap tallied (no_entries (table_of t) (omega (arith, length_table t)))) }

pub merging_start : (t : List ℕ) (n : ℕ) (e : Entry) → n ≡ length t / 24 → (n ≡ 0 → ⊥) → e ≡ get_or (table_of t) 0 blank → Merging t t n e 1 0 1
unfolding tallied
merging_start t n e s some is =
    let some' : 0 < n = omega arith in
    let split : table_of t ≡ e ∷ drop 1 (table_of t) =
    drop-cons (table_of t) 0 blank (omega (arith, length_table t)) ∙ ap (λ (x : Entry). x ∷ drop 1 (table_of t)) (sym is) in
    record {
      size = s;
      behind = omega arith;
      inside = omega arith;
      few = omega arith;
      long = refl;
      stretches = sym (ap tallied split);
    }

module _ (t₀ t : List ℕ) (n : ℕ) (e : Entry) (m w r : ℕ) (c : Merging t₀ t n e m w r) where
  count_long : length (table_of t) ≡ n
  count_long = let s = c.size in let l = c.long in omega (arith, length_table t)

  split : (next : Entry) → next ≡ get_or (table_of t) r blank → r < n → drop r (table_of t) ≡ next ∷ drop (r + 1) (table_of t)
  split next at h = drop-cons (table_of t) r blank (omega (arith, count_long)) ∙ rw (add-one, ← at)

  pub merging_same : (next : Entry) → next ≡ get_or (table_of t) r blank → r < n → equal e next ≡ true → Merging t₀ t n e (m + 1) w (r + 1)
  unfolding tally
  merging_same next at h alike =
      let behind = c.behind in
      let inside = c.inside in
      let few = c.few in
      record {
        size = c.size;
        behind = omega arith;
        inside = omega arith;
        few = omega arith;
        long = c.long;
        stretches = rw (split next at h, alike) at c.stretches;
      }

module _ (t₀ t t' : List ℕ) (n : ℕ) (e : Entry) (m w r : ℕ) (c : Merging t₀ t n e m w r) where
  counted : length (table_of t) ≡ n
  counted = count_long t₀ t n e m w r c

  -- The entry `e` with its count goes to place w.
  module _ (x : Entry) (is : x ≡ entry_with_count e m) (p : Put t t' w x) where
    room : w < length (table_of t)
    room = let b = c.behind in let i = c.inside in omega (arith, counted)

    front : take (w + 1) (table_of t') ≡ take w (table_of t) ++ (entry_with_count e m ∷ [])
    front =
        ap (λ (l : List Entry). take (w + 1) l) p.entries
        ∙ rw (add-one w, is) (take-suc-set (table_of t) w (entry_with_count e m) room)

    pub merging_end : n ≤ r → Merged (table_of t₀) t₀ t' (w + 1)
    unfolding tally
    merging_end h =
        let size = c.size in
        let behind = c.behind in
        let inside = c.inside in
        record {
          long = put_length t t' w x p ∙ c.long;
          few = omega arith;
          stretches = front ∙ rw (drop_of_length-le (table_of t) {i = r} (omega (arith, counted))) at c.stretches;
        }

    module _ (next : Entry) (at : next ≡ get_or (table_of t) r blank) (h : r < n) where
      behind_kept : drop (r + 1) (table_of t') ≡ drop (r + 1) (table_of t)
      behind_kept = let b = c.behind in ap (drop (r + 1)) p.entries ∙ drop-set-lt (r + 1) (table_of t) w x (omega arith)

      pub merging_next : equal e next ≡ false → Merging t₀ t' n next 1 (w + 1) (r + 1)
      unfolding tally
      merging_next differ =
          let behind = c.behind in
          let inside = c.inside in
          let rest = tally next 1 (drop (r + 1) (table_of t)) in
          record {
            size = c.size;
            behind = omega arith;
            inside = omega arith;
            few = omega arith;
            long = put_length t t' w x p ∙ c.long;
            stretches =
                ap₂ (λ (a b : List Entry). a ++ tally next 1 b) front behind_kept
                ∙ (append_assoc (take w (table_of t)) (entry_with_count e m ∷ []) rest ∙ (rw (split t₀ t n e m w r c next at h, differ) at c.stretches));
          }

-- What is merged after sorting.
pub merged_sorted : (t t₁ t₂ : List ℕ) (r : ℕ) → Sorted t t₁ → length t₁ ≡ length t → Merged (table_of t₁) t₁ t₂ r
    → Merged (sort_of precedes (table_of t)) t t₂ r
merged_sorted t t₁ t₂ r s l m =
    let few = m.few in
    record { long = m.long ∙ l; few = omega arith; stretches = m.stretches ∙ ap tallied s.entries }
