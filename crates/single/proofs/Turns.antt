-- Taking one single cell after the other: what has been listed and what is still to be taken are all that is taken.
use Rattle.std.proofs.Common.{◌≡◌, ℕ, zero, suc, ◌+◌, ◌-◌, ◌*◌, ◌%◌, ◌<◌, ◌≤◌, Bool, true, false, not, List, [], ◌∷◌, ◌++◌, sym, refl, ap, ◌∙◌, append_assoc, append-nil, arith, le-ltb, lt-ltb}
use Rattle.rows.specs.Rows.{words_of}
use Rattle.entries.specs.Entries.{entry}
use Rattle.shingle.specs.declared.Shingle.{Shingle}
use Rattle.shingle.specs.Table.{entry_of, shingles_in}
use Rattle.sketch.specs.Opening.{signed, signed_parts, is_negative, value_in, shingle_in, lowest, held_by, without}
use Rattle.sketch.specs.Opening.{Peeled, peeled, after, take_one, peel, positives, negatives}
use Rattle.sketch.specs.Putting.{put_in}
use Rattle.sketch.specs.Sums.{plus}
use Rattle.sketch.proofs.Putting.{put_rows}
use Rattle.single.specs.Peeling.{list_table}
use Rattle.single.specs.Steps.{Cleared, Listed, TookOne, TookAll}
use Rattle.single.proofs.Values.{entry_is, entry_back, single_count}
use Rattle.single.proofs.First.{lowest-single}
use Rattle.single.proofs.Tables.{Holds, cleared_list, list_more}

peel_next : (q levels n : ℕ) (rows : List ℕ) → lowest q levels rows < q * 3
    → peel q levels (suc n) rows ≡ after (held_by rows (lowest q levels rows)) (peel q levels n (without q (held_by rows (lowest q levels rows)) rows))
unfolding peel take_one
peel_next q levels n rows h = rw (lt-ltb (lowest q levels rows) (q * 3) h)

peel_stop : (q levels n : ℕ) (rows : List ℕ) → q * 3 ≤ lowest q levels rows → peel q levels n rows ≡ peeled [] rows
unfolding peel take_one
peel_stop q levels zero rows h = refl
peel_stop q levels (suc n) rows h = rw (le-ltb (lowest q levels rows) (q * 3) h)

-- After so many turns n shingles are in the one table and the others in the other.
pub record Taking (q levels turn n : ℕ) (start rows new gone : List ℕ) : Type 0 where
  pub few : n ≤ turn
  pub most : turn ≤ q * 3
  pub new_table : Holds new n
  pub gone_table : Holds gone (turn - n)
  pub positive : shingles_in new ++ positives (peel q levels (q * 3 - turn) rows).taken ≡ positives (peel q levels (q * 3) start).taken
  pub negative : shingles_in gone ++ negatives (peel q levels (q * 3 - turn) rows).taken ≡ negatives (peel q levels (q * 3) start).taken
  pub left : (peel q levels (q * 3 - turn) rows).left ≡ (peel q levels (q * 3) start).left

pub taking_start : (q levels : ℕ) (rows new gone : List ℕ) → Cleared new → Cleared gone → Taking q levels 0 0 rows rows new gone
taking_start q levels rows new gone a b =
    let p = cleared_list new a in
    let g = cleared_list gone b in
    let all : peel q levels (q * 3 - 0) rows ≡ peel q levels (q * 3) rows =
    ap (λ (m : ℕ). peel q levels m rows) {x = q * 3 - 0} {y = q * 3} (omega arith) in
    record {
      few = omega arith;
      most = omega arith;
      new_table = p.1;
      gone_table = g.1;
      positive = rw p.0 (ap (λ (x : Peeled). positives x.taken) all);
      negative = rw g.0 (ap (λ (x : Peeled). negatives x.taken) all);
      left = ap (λ (x : Peeled). x.left) all;
    }

-- No single cell, or 3q turns.
taking_done : (q levels turn n : ℕ) (cells₀ cells new gone : List ℕ) → Taking q levels turn n (words_of cells₀) (words_of cells) new gone
    → peel q levels (q * 3 - turn) (words_of cells) ≡ peeled [] (words_of cells) → TookAll levels q cells₀ cells new gone
unfolding positives negatives
taking_done q levels turn n cells₀ cells new gone t e =
    let new-list = sym (append-nil (shingles_in new)) ∙ (rw e at t.positive) in
    let gone-list = sym (append-nil (shingles_in gone)) ∙ (rw e at t.negative) in
    record {
      positive = record { bytes = t.new_table.bytes ∙ ap (list_table 4608) new-list; list = new-list };
      negative = record { bytes = t.gone_table.bytes ∙ ap (list_table 4608) gone-list; list = gone-list };
      left = sym (ap (λ (x : Peeled). x.left) e) ∙ t.left;
    }

pub taking_stop : (q levels turn n i : ℕ) (cells₀ cells new gone : List ℕ) → i ≡ lowest q levels (words_of cells) → q * 3 ≤ i
    → Taking q levels turn n (words_of cells₀) (words_of cells) new gone → TookAll levels q cells₀ cells new gone
taking_stop q levels turn n i cells₀ cells new gone is h t =
    taking_done q levels turn n cells₀ cells new gone t (peel_stop q levels (q * 3 - turn) (words_of cells) (omega arith))

pub taking_end : (q levels turn n : ℕ) (cells₀ cells new gone : List ℕ) → q * 3 ≤ turn
    → Taking q levels turn n (words_of cells₀) (words_of cells) new gone
    → TookAll levels q cells₀ cells new gone
unfolding peel
taking_end q levels turn n cells₀ cells new gone h t =
    taking_done q levels turn n cells₀ cells new gone t
    (ap (λ (m : ℕ). peel q levels m (words_of cells)) {x = q * 3 - turn} {y = 0} (omega arith))

-- A cell's shingle removed from its cells and written.
pub took_one : (q i n m tail r : ℕ) (b : Bool) (s : Shingle) (cells cells' new new' gone gone' : List ℕ) → 1 ≤ q → q ≤ 64
    → b ≡ is_negative (words_of cells) i
    → s ≡ shingle_in (words_of cells) i → tail ≡ value_in (words_of cells) i 3 → cells' ≡ put_in q (signed (not b) s) cells
    → Listed b n m (entry s.previous s.own tail) new new' gone gone' r → TookOne q i n m cells cells' new new' gone gone' r
unfolding without held_by
took_one q i n m tail r b s cells cells' new new' gone gone' low high sign is t put l =
    record {
      rows = put_rows q (signed (not b) s) cells cells' low high put
          ∙ (λ k. plus (words_of cells) (signed_parts q (signed (not (sign k)) (is k))));
      listed = rw (← entry_is (words_of cells) i tail s is t, ← sign) l;
    }

snoc : {A : Type 0} (a : List A) (x : A) (b : List A) → (a ++ (x ∷ [])) ++ b ≡ a ++ (x ∷ b)
snoc a x b = append_assoc a (x ∷ []) b

-- One turn: the shingle s of the lowest single cell goes to the end of one table.
module _ (q levels turn n m r : ℕ) (start cells cells' new new' gone gone' : List ℕ) (high : q ≤ 64) (more : turn < q * 3) (rest : m ≡ turn - n)
    (t : Taking q levels turn n start (words_of cells) new gone) (found : lowest q levels (words_of cells) < q * 3)
    (took : TookOne q (lowest q levels (words_of cells)) n m cells cells' new new' gone gone' r) where
  abbrev i : ℕ
  i = lowest q levels (words_of cells)

  abbrev s : Shingle
  s = shingle_in (words_of cells) i

  abbrev next : Peeled
  next = peel q levels (q * 3 - (turn + 1)) (words_of cells')

  step : peel q levels (q * 3 - turn) (words_of cells) ≡ after (held_by (words_of cells) i) next
  step =
      ap (λ (k : ℕ). peel q levels k (words_of cells)) {x = q * 3 - turn} {y = suc (q * 3 - (turn + 1))} (omega arith)
      ∙ (peel_next q levels (q * 3 - (turn + 1)) (words_of cells) found
      ∙ ap (λ (l : List ℕ). after (held_by (words_of cells) i) (peel q levels (q * 3 - (turn + 1)) l)) (sym took.rows))

  counted : 1 ≤ (entry_of s).tail % 65536
  counted =
      let one : 1 ≤ s.count = single_count q levels (words_of cells) i (lowest-single q levels (words_of cells) found) in
      let same : (entry_of s).tail % 65536 ≡ s.count = ap (λ (x : Shingle). x.count) (entry_back (words_of cells) i) in
      omega arith

  as_positive : is_negative (words_of cells) i ≡ false → Taking q levels (turn + 1) r start (words_of cells') new' gone'
  unfolding after held_by positives negatives
  as_positive sign =
      let l = took.listed.positive sign in
      let w = list_more new new' n (entry_of s) (omega (arith, t.few)) t.new_table l.0 counted in
      record {
        few = omega (arith, t.few);
        most = omega arith;
        new_table = rw l.1.1 w.1;
        gone_table = rw (l.1.0, l.1.1) (rw other t.gone_table);
        positive = ap (λ (a : List Shingle). a ++ positives next.taken)
            (w.0 ∙ ap (λ (x : Shingle). shingles_in new ++ (x ∷ [])) (entry_back (words_of cells) i))
            ∙ (snoc (shingles_in new) s (positives next.taken) ∙ (rw (step, sign) at t.positive));
        negative = ap (λ (a : List ℕ). shingles_in a ++ negatives next.taken) l.1.0 ∙ (rw (step, sign) at t.negative);
        left = sym (ap (λ (x : Peeled). x.left) step) ∙ t.left;
      }
    where
      other : turn + 1 - (n + 1) ≡ turn - n
      other = omega arith

  as_negative : is_negative (words_of cells) i ≡ true → Taking q levels (turn + 1) r start (words_of cells') new' gone'
  unfolding after held_by positives negatives
  as_negative sign =
      let l = took.listed.negative sign in
      let w = list_more gone gone' m (entry_of s) (omega (arith, t.few)) (rw rest t.gone_table) l.0 counted in
      record {
        few = omega (arith, t.few, l.1.1);
        most = omega arith;
        new_table = rw (l.1.0, l.1.1) t.new_table;
        gone_table = rw l.1.1 (rw (another t.few) w.1);
        positive = ap (λ (a : List ℕ). shingles_in a ++ positives next.taken) l.1.0 ∙ (rw (step, sign) at t.positive);
        negative = ap (λ (a : List Shingle). a ++ negatives next.taken)
            (w.0 ∙ ap (λ (x : Shingle). shingles_in gone ++ (x ∷ [])) (entry_back (words_of cells) i))
            ∙ (snoc (shingles_in gone) s (negatives next.taken) ∙ (rw (step, sign) at t.negative));
        left = sym (ap (λ (x : Peeled). x.left) step) ∙ t.left;
      }
    where
      another : n ≤ turn → turn + 1 - n ≡ m + 1
      another h = omega arith

  either : (b : Bool) → is_negative (words_of cells) i ≡ b → Taking q levels (turn + 1) r start (words_of cells') new' gone'
  either true e = as_negative e
  either false e = as_positive e

pub taking_next : (q levels turn n m i r : ℕ) (start cells cells' new new' gone gone' : List ℕ) → q ≤ 64 → turn < q * 3 → m ≡ turn - n
    → i ≡ lowest q levels (words_of cells) → i < q * 3 → Taking q levels turn n start (words_of cells) new gone
    → TookOne q i n m cells cells' new new' gone gone' r → Taking q levels (turn + 1) r start (words_of cells') new' gone'
taking_next q levels turn n m i r start cells cells' new new' gone gone' high more rest is h t took =
    either q levels turn n m r start cells cells' new new' gone gone' high more rest t (rw is at h) (rw is at took)
    (is_negative (words_of cells) (lowest q levels (words_of cells))) refl
