-- The entries that a table lists: those that were written are read again, and entry k of the list is entry k of the table.
use mathlib.Core.Bool.{Bool, true, false, cond}
use mathlib.Core.List.{List, [], ◌∷◌, ◌++◌, append_assoc}
use mathlib.Core.Path.{◌≡◌, refl, sym, ap, ◌∙◌}
use Prim.Native.Nat.{ℕ, zero, suc, ◌+◌, ◌*◌, ◌-◌, ◌/◌, ◌≤◌, ◌<◌}
use native.Mathlib.Nat.{sub-zero}
use native.Mathlib.Decide.{dec_lt}
use native.Mathlib.Omega.{arith}
use lib.Dec.{eqb, ltb}
use lib.ListN.{length, get_or, drop, replicate, length-append}
use borrow.Author.Tests.{eqb-true, eq-eqb, ne_eqb}
use Rattle.rows.proofs.Rows.{zero_rows}
use Rattle.node_table.specs.declared.Entry.{Entry}
use Rattle.node_table.specs.Entries.{id_at, entry_at, entry_bytes}
use Rattle.node_table.specs.Nodes.{entries_from, entries_in, entries_bytes, from_first, place_of}
use Rattle.node_table.specs.Laws.{Each, none, both, Fits}
use Rattle.node_table.proofs.Entries.{id_nowhere, there, length_entry, entry_first, entry_later}

-- The bytes of entries.
pub length_entries : (es : List Entry) → length (entries_bytes es) ≡ length es * 16
unfolding entries_bytes
length_entries [] = refl
length_entries (e ∷ es) = simp (length-append, length_entry, length_entries es) (omega arith)

pub entries_append : (es fs : List Entry) → entries_bytes (es ++ fs) ≡ entries_bytes es ++ entries_bytes fs
unfolding entries_bytes
entries_append [] fs = refl
entries_append (e ∷ es) fs = ap (λ (l : List ℕ). entry_bytes e ++ l) (entries_append es fs) ∙ sym (append_assoc (entry_bytes e) (entries_bytes es) (entries_bytes fs))

-- The list from entry k on: none at an id 0 or past the table's end, else entry k and then the others.
module _ (t : List ℕ) (k : ℕ) where
  pub from_zero : id_at t k ≡ 0 → (left : ℕ) → entries_from t left k ≡ []
  unfolding entries_from
  from_zero z zero = refl
  from_zero z (suc left) = rw (eq-eqb (id_at t k) 0 z)

  pub from_past : length t / 16 ≤ k → entries_from t (length t / 16 - k) k ≡ []
  from_past h = from_zero (sym (id_nowhere t k h)) (length t / 16 - k)

  module _ (some : id_at t k ≡ 0 → ⊥) where
    pub from_one : (left : ℕ) → entries_from t (suc left) k ≡ entry_at t k ∷ entries_from t left (k + 1)
    unfolding entries_from
    from_one left = rw (ne_eqb (id_at t k) 0 some)

    pub from_here : entries_from t (length t / 16 - k) k ≡ entry_at t k ∷ entries_from t (length t / 16 - (k + 1)) (k + 1)
    from_here =
        let left : length t / 16 - k ≡ suc (length t / 16 - (k + 1)) = omega (arith, there t k some) in
        ap (λ (n : ℕ). entries_from t n k) left ∙ from_one (length t / 16 - (k + 1))

-- Entries that were written, and zeros after them, are read again.
from_later : (e : Entry) → Fits e → (rest : List ℕ) (left k : ℕ) → entries_from (entry_bytes e ++ rest) left (k + 1) ≡ entries_from rest left k
unfolding entries_from
from_later e fits rest zero k = refl
from_later e fits rest (suc left) k =
    let here = entry_later e fits rest k in
    λ i. cond (eqb (here i).id 0) [] (here i ∷ from_later e fits rest left (k + 1) i)

zero_id : (zeros k : ℕ) → id_at (replicate zeros 0) k ≡ 0
unfolding id_at
zero_id zeros k = rw (zero_rows zeros (k * 2)) (either (ltb k (length (replicate zeros 0) / 16)))
  where
    either : (b : Bool) → ◌≡◌ {A = ℕ} (cond b 0 0) 0
    either true = refl
    either false = refl

pub read_back : {es : List Entry} → Each Fits es → (zeros left : ℕ) → length es ≤ left → entries_from (entries_bytes es ++ replicate zeros 0) left 0 ≡ es
unfolding entries_bytes
read_back none zeros left h = from_zero (replicate zeros 0) 0 (zero_id zeros 0) left
read_back (both {n = e} {ns = es} p ps) zeros zero h = absurd (omega arith)
read_back (both {n = e} {ns = es} p ps) zeros (suc left) h =
    let rest = entries_bytes es ++ replicate zeros 0 in
    let here = entry_first e p rest in
    let more = from_later e p rest left 0 ∙ read_back ps zeros left (omega arith) in
    ap (λ (t : List ℕ). entries_from t (suc left) 0) (append_assoc (entry_bytes e) (entries_bytes es) (replicate zeros 0))
    ∙ (from_one (entry_bytes e ++ rest) 0 (λ z. p.some (sym (ap (λ (x : Entry). x.id) here) ∙ z)) left ∙ λ j. here j ∷ more j)

-- Entry j of the list that begins with entry k.
module _ (t : List ℕ) where
  pub from_drop : (left j k : ℕ) → j ≤ length (entries_from t left k) → drop j (entries_from t left k) ≡ entries_from t (left - j) (k + j)
  unfolding entries_from
  from_drop left zero k h = rw (sub-zero left) (ap (entries_from t left) {x = k} {y = k + 0} (omega arith))
  from_drop zero (suc j) k h = absurd (omega arith)
  from_drop (suc left) (suc j) k h = go (eqb (id_at t k) 0) (from_drop left j (k + 1)) h
    where
      go : (b : Bool) → (j ≤ length (entries_from t left (k + 1)) → drop j (entries_from t left (k + 1)) ≡ entries_from t (left - j) (k + 1 + j))
          → suc j ≤ length (cond b [] (entry_at t k ∷ entries_from t left (k + 1)))
          → drop (suc j) (cond b [] (entry_at t k ∷ entries_from t left (k + 1))) ≡ entries_from t (suc left - suc j) (k + suc j)
      go true rest l = absurd (omega arith)
      go false rest l =
          let less : suc left - suc j ≡ left - j = omega arith in
          let on : k + suc j ≡ k + 1 + j = omega arith in
          rw (less, on) (rest (omega arith))

  pub from_entry : (left j k : ℕ) (d : Entry) → j < length (entries_from t left k) → get_or (entries_from t left k) j d ≡ entry_at t (k + j)
  unfolding entries_from
  from_entry zero j k d h = absurd (omega arith)
  from_entry (suc left) j k d h = go (eqb (id_at t k) 0) j (λ i. from_entry left i (k + 1) d) h
    where
      go : (b : Bool) (j : ℕ) → ((i : ℕ) → i < length (entries_from t left (k + 1)) → get_or (entries_from t left (k + 1)) i d ≡ entry_at t (k + 1 + i))
          → j < length (cond b [] (entry_at t k ∷ entries_from t left (k + 1)))
          → get_or (cond b [] (entry_at t k ∷ entries_from t left (k + 1))) j d ≡ entry_at t (k + j)
      go true j rest l = absurd (omega arith)
      go false zero rest l = ap (entry_at t) {x = k} {y = k + 0} (omega arith)
      go false (suc j) rest l = rest j (omega arith) ∙ ap (entry_at t) {x = k + 1 + j} {y = k + suc j} (omega arith)

  -- After the last there is no entry, or one of id 0.
  pub from_end : (left k : ℕ) → length t / 16 ≤ k + left → id_at t (k + length (entries_from t left k)) ≡ 0
  unfolding entries_from
  from_end zero k h = sym (id_nowhere t (k + 0) (omega arith))
  from_end (suc left) k h = go (eqb (id_at t k) 0) refl (from_end left (k + 1) (omega arith))
    where
      go : (b : Bool) → eqb (id_at t k) 0 ≡ b → id_at t (k + 1 + length (entries_from t left (k + 1))) ≡ 0
          → id_at t (k + length (cond b [] (entry_at t k ∷ entries_from t left (k + 1)))) ≡ 0
      go true e rest = ap (id_at t) {x = k + 0} {y = k} (omega arith) ∙ eqb-true (id_at t k) 0 e
      go false e rest =
          ap (id_at t) {x = k + suc (length (entries_from t left (k + 1)))} {y = k + 1 + length (entries_from t left (k + 1))} (omega arith)
          ∙ rest

  pub listed_entry : (k : ℕ) (d : Entry) → k < length (entries_in t) → get_or (entries_in t) k d ≡ entry_at t k
  unfolding entries_in
  listed_entry k d h = from_entry (length t / 16) k 0 d h ∙ ap (entry_at t) {x = 0 + k} {y = k} (omega arith)

  pub listed_drop : (k : ℕ) → k ≤ length (entries_in t) → drop k (entries_in t) ≡ entries_from t (length t / 16 - k) k
  unfolding entries_in
  listed_drop k h = from_drop (length t / 16) k 0 h ∙ ap (entries_from t (length t / 16 - k)) {x = 0 + k} {y = k} (omega arith)

  pub listed_end : id_at t (length (entries_in t)) ≡ 0
  unfolding entries_in
  listed_end = ap (id_at t) {x = length (entries_in t)} {y = 0 + length (entries_in t)} (omega arith) ∙ from_end (length t / 16) 0 (omega arith)

-- The first that passes a test, by its place.
place_within : (test : Entry → Bool) (es : List Entry) → place_of test es ≤ length es
unfolding place_of
place_within test [] = omega arith
place_within test (e ∷ es) = go (test e) (place_within test es)
  where
    go : (b : Bool) → place_of test es ≤ length es → cond b 0 (suc (place_of test es)) ≤ suc (length es)
    go true rest = omega arith
    go false rest = omega arith

place_drop : (test : Entry → Bool) (es : List Entry) → from_first test es ≡ drop (place_of test es) es
unfolding place_of from_first
place_drop test [] = refl
place_drop test (e ∷ es) = go (test e) (place_drop test es)
  where
    go : (b : Bool) → from_first test es ≡ drop (place_of test es) es → cond b (e ∷ es) (from_first test es) ≡ drop (cond b 0 (suc (place_of test es))) (e ∷ es)
    go true rest = refl
    go false rest = rest

place_passes : (test : Entry → Bool) (es : List Entry) (d : Entry) → place_of test es < length es → test (get_or es (place_of test es) d) ≡ true
unfolding place_of
place_passes test [] d h = absurd (omega arith)
place_passes test (e ∷ es) d h = go (test e) refl (place_passes test es d) h
  where
    go : (b : Bool) → test e ≡ b → (place_of test es < length es → test (get_or es (place_of test es) d) ≡ true)
        → cond b 0 (suc (place_of test es)) < suc (length es) → test (get_or (e ∷ es) (cond b 0 (suc (place_of test es))) d) ≡ true
    go true t rest l = t
    go false t rest l = rest (omega arith)

module _ (t : List ℕ) (test : Entry → Bool) where
  abbrev place : ℕ
  place = place_of test (entries_in t)

  from_place : from_first test (entries_in t) ≡ entries_from t (length t / 16 - place) place
  from_place = place_drop test (entries_in t) ∙ listed_drop t place (place_within test (entries_in t))

  pub not_found : id_at t place ≡ 0 → from_first test (entries_in t) ≡ []
  not_found z = from_place ∙ from_zero t place z (length t / 16 - place)

  module _ (some : id_at t place ≡ 0 → ⊥) where
    listed : place < length (entries_in t)
    listed =
        let within = place_within test (entries_in t) in
        elim (dec_lt place (length (entries_in t))) [
          | yes h ↦ h
          | no h ↦
              let last : length (entries_in t) ≡ place = omega (arith, h) in
              absurd (some (rw last at (listed_end t)))
        ]

    pub found : from_first test (entries_in t) ≡ entry_at t place ∷ entries_from t (length t / 16 - (place + 1)) (place + 1)
    found = from_place ∙ from_here t place some

    pub found_passes : test (entry_at t place) ≡ true
    found_passes = ap test (sym (listed_entry t place (entry_at t place) listed)) ∙ place_passes test (entries_in t) (entry_at t place) listed

-- Two tests that agree on the entries of a table find the same.
pub first_alike : (t : List ℕ) (test other : Entry → Bool) → ((k : ℕ) → test (entry_at t k) ≡ other (entry_at t k))
    → (left k : ℕ) → from_first test (entries_from t left k) ≡ from_first other (entries_from t left k)
unfolding entries_from from_first
first_alike t test other alike zero k = refl
first_alike t test other alike (suc left) k = go (eqb (id_at t k) 0) (first_alike t test other alike left (k + 1))
  where
    go : (b : Bool) → from_first test (entries_from t left (k + 1)) ≡ from_first other (entries_from t left (k + 1))
        → from_first test (cond b [] (entry_at t k ∷ entries_from t left (k + 1))) ≡ from_first other (cond b [] (entry_at t k ∷ entries_from t left (k + 1)))
    go true rest = refl
    go false rest = λ i. cond (alike k i) (entry_at t k ∷ entries_from t left (k + 1)) (rest i)
