-- What judging gives to the receiver that takes the opening: the refusal is that of the definition of crate `protocol`, an accepted opening
-- leaves that definition's shingle table, and its announced length fits.
use mathlib.Core.Bool.{Bool, true, false}
use mathlib.Core.List.{List, [], ◌∷◌}
use mathlib.Core.Option.{some}
use mathlib.Core.Path.{◌≡◌, refl, sym, ap, ◌∙◌}
use Prim.Native.Nat.{ℕ, ◌*◌, ◌≤◌}
use native.Mathlib.Nat.{suc-ne-zero}
use native.Mathlib.Omega.{arith}
use borrow.Author.Tests.{eqb-true, leb-true, le-leb, eq-eqb, ne_eqb}
use lib.Dec.{leb, eqb}
use lib.ListN.{length}
use Rattle.partition.specs.Cuts.{rule_number}
use Rattle.tree.specs.declared.Settings.{Settings}
use Rattle.tree.specs.Questions.{ask}
use Rattle.tree.proofs.Questions.{passed, granted}
use Rattle.shingle.specs.Table.{shingles_in}
use Rattle.shingle.proofs.PairOrder.{and_true}
use Rattle.sketch.specs.Opening.{new_list, taken_of, opens_to, opens}
use Rattle.single.specs.Peeling.{rows_in, list_table}
use Rattle.opening.specs.Deciding.{open_refusal}
use Rattle.opening.specs.Renewing.{Renewed}
use Rattle.opening.specs.Opened.{opened_list}
use Rattle.opening.proofs.Opened.{opened}
use Rattle.setup.proofs.Questions.{lent as lent_passed}
use Rattle.message.specs.Messages.{opening, parse}
use Rattle.protocol.specs.Lent.{Lent, refused_by}
use Rattle.protocol.specs.State.{pending, State}
use Rattle.protocol.specs.Receiver.{ends, settle, conclude, find, peeled_of, opening_refusal, take_opening}
use Rattle.announced.specs.Cells.{cell_table}
use Rattle.announced.specs.Judging.{same_settings, length_fits, announced_refusal, Judged}
use Rattle.announced.proofs.Tables.{table_long}
use Rattle.announced.proofs.Values.{rows_are}

-- What the receiver knows when it takes an opening: 1 to 7 are passed, the message is that opening, and what was judged is what the state
-- holds and what is lent.
pub record Heard (s : State) (m : Lent) (σ : Settings) (room : ℕ) (message cells shingles : List ℕ) (n rule w p L M q size root : ℕ)
    (values : List ℕ) : Type 0 where
  pub settings_are : s.settings ≡ σ
  pub passed_seven : refused_by σ m ≡ 0
  pub cells_are : m.cells ≡ cells
  pub shingles_are : m.shingles ≡ shingles
  pub room_is : length m.output ≡ room
  pub message_is : parse message ≡ some (opening n rule w p L M q size root values)

-- The same where what was judged is no copy: a call is then `refusal_is (heard seven is) judged.answer`.
pub heard : {s : State} {m : Lent} {message : List ℕ} {n rule w p L M q size root : ℕ} {values : List ℕ}
    → refused_by s.settings m ≡ 0 → parse message ≡ some (opening n rule w p L M q size root values)
    → Heard s m s.settings (length m.output) message m.cells m.shingles n rule w p L M q size root values
heard seven is = record { settings_are = refl; passed_seven = seven; cells_are = refl; shingles_are = refl; room_is = refl; message_is = is }

-- What passed questions give.
width_equal : (σ : Settings) (rule w p L M q : ℕ) → same_settings σ rule w p L M q ≡ true → q ≡ σ.width
unfolding same_settings
width_equal σ rule w p L M q e =
    let first = and_true (eqb rule rule_number) _ e in
    let second = and_true (eqb w σ.window) _ first.1 in
    let third = and_true (eqb p σ.fan_out) _ second.1 in
    let fourth = and_true (eqb L σ.levels) _ third.1 in
    let fifth = and_true (eqb M σ.nominal) (eqb q σ.width) fourth.1 in
    eqb-true q σ.width fifth.1

both_passed : (σ : Settings) (rule w p L M q size room : ℕ) (message cells shingles : List ℕ)
    → announced_refusal σ rule w p L M q size room message cells shingles ≡ 0
    → (same_settings σ rule w p L M q ≡ true) × (length_fits size room ≡ true)
unfolding announced_refusal
both_passed σ rule w p L M q size room message cells shingles e =
    let twelve = passed _ 12 _ (suc-ne-zero 11) e in
    let thirteen = passed _ 13 _ (suc-ne-zero 12) twelve.1 in
    (twelve.0, thirteen.0)

-- An accepted opening's announced length is at most 65,536 and within the output lent.
pub length_fits_lem : {σ : Settings} {rule w p L M q size room : ℕ} {message cells shingles : List ℕ} {r : ℕ} {new gone : List ℕ}
    → Judged σ rule w p L M q size room message cells shingles r new gone → r ≡ 0 → (size ≤ 65536) × (size ≤ room)
unfolding length_fits
length_fits_lem {size = size} {room = room} j z =
    let fits = and_true (leb size 65536) (leb size room) (both_passed _ _ _ _ _ _ _ _ _ _ _ _ (sym j.answer ∙ z)).1 in
    (leb-true size 65536 fits.0, leb-true size room fits.1)

ask_after : (t : Bool) (number x y : ℕ) → (t ≡ true → x ≡ y) → ask t number x ≡ ask t number y
unfolding ask
ask_after true number x y e = e refl
ask_after false number x y e = refl

module _ (s : State) (m : Lent) (message : List ℕ) (n rule w p L M q size root : ℕ) (values : List ℕ)
    (seven : refused_by s.settings m ≡ 0) (is : parse message ≡ some (opening n rule w p L M q size root values)) where
  abbrev σ : Settings
  σ = s.settings

  abbrev theirs : List ℕ
  theirs = cell_table message q

  -- Where 12 is passed, the copied cells are the message's.
  rows_theirs : same_settings σ rule w p L M q ≡ true → rows_in σ.width theirs ≡ values
  rows_theirs t =
      let e = width_equal σ rule w p L M q t in
      let lent = (lent_passed σ (length m.string) (length m.nodes) (length m.shingles) (length m.cells) true seven).1 in
      ap (λ (k : ℕ). rows_in k theirs) (sym e) ∙ rows_are message n rule w p L M q size root values is (omega (arith, e, lent.width_high))

  -- Of the questions about settings and tables, those that were passed before are passed again.
  only_sketch : open_refusal σ.levels σ.width theirs m.cells m.shingles
      ≡ ask (opens σ.width σ.levels (rows_in σ.width theirs) (rows_in σ.width m.cells) (shingles_in m.shingles)) 14 0
  unfolding open_refusal ask
  only_sketch =
      let lent = (lent_passed σ (length m.string) (length m.nodes) (length m.shingles) (length m.cells) true seven).1 in
      let shape = (granted σ (length m.string) lent.settings).0 in
      rw (
        le-leb 1 σ.levels shape.levels_low,
        le-leb σ.levels 4 shape.levels_high,
        le-leb 1 σ.width lent.width_low,
        le-leb σ.width 64 lent.width_high,
        le-leb (σ.width * 120) (length theirs) (omega (arith, table_long message q, lent.width_high)),
        le-leb (σ.width * 120) (length m.cells) lent.cell_room,
        le-leb 98304 (length m.shingles) lent.shingle_room,
      )

  same_refusal : announced_refusal σ rule w p L M q size (length m.output) message m.cells m.shingles
      ≡ opening_refusal s m rule w p L M q size values
  unfolding announced_refusal opening_refusal same_settings length_fits peeled_of opens
  same_refusal =
      ask_after (same_settings σ rule w p L M q) 12 _ _
      (λ t. ap (ask (length_fits size (length m.output)) 13)
      (only_sketch
      ∙ ap (λ (rows : List ℕ). ask (opens_to (shingles_in m.shingles)
      (taken_of σ.width σ.levels rows (rows_in σ.width m.cells))) 14 0)
      (rows_theirs t)))

  module _ (r : ℕ) (new gone : List ℕ)
      (j : Judged s.settings rule w p L M q size (length m.output) message m.cells m.shingles r new gone) (z : r ≡ 0) where
    same_table : (after : List ℕ) (answer : ℕ) → Renewed new gone m.shingles after answer
        → after ≡ list_table (length m.shingles) (new_list (shingles_in m.shingles) (peeled_of s.settings m values).taken)
    unfolding opened_list peeled_of
    same_table after answer written =
        let d = j.decided z in
        let o = opened _ _ _ _ _ _ _ _ d z after answer written in
        let zero : open_refusal σ.levels σ.width theirs m.cells m.shingles ≡ 0 = sym d.answer ∙ z in
        let same = (both_passed σ rule w p L M q size (length m.output) message m.cells m.shingles (sym j.answer ∙ z)).0 in
        o.table
        ∙ (rw (eq-eqb _ 0 zero)
        (ap (λ (rows : List ℕ). list_table (length m.shingles) (new_list (shingles_in m.shingles)
        (taken_of σ.width σ.levels rows (rows_in σ.width m.cells)).taken)) (rows_theirs same)))

-- The same of what was judged.
module _ {s : State} {m : Lent} {σ : Settings} {room : ℕ} {message cells shingles : List ℕ} {n rule w p L M q size root : ℕ}
    {values : List ℕ} (h : Heard s m σ room message cells shingles n rule w p L M q size root values) where
  own_seven : refused_by s.settings m ≡ 0
  own_seven = rw h.settings_are h.passed_seven

  -- The refusal is that of the receiver's definition.
  module _ {r : ℕ} (answer : r ≡ announced_refusal σ rule w p L M q size room message cells shingles) where
    own_answer : r ≡ announced_refusal s.settings rule w p L M q size (length m.output) message m.cells m.shingles
    own_answer = rw (h.settings_are, h.cells_are, h.shingles_are, h.room_is) answer

    pub refusal_is : r ≡ opening_refusal s m rule w p L M q size values
    refusal_is = own_answer ∙ same_refusal s m message n rule w p L M q size root values own_seven h.message_is

    -- Taking the opening is refused.
    pub opening_refused : (r ≡ 0 → ⊥) → take_opening s m rule w p L M q size root values ≡ ends r s m
    unfolding take_opening
    opening_refused fails = rw (← refusal_is, ne_eqb r 0 fails)

  module _ {r : ℕ} {new gone : List ℕ} (j : Judged σ rule w p L M q size room message cells shingles r new gone) where
    own_judged : Judged s.settings rule w p L M q size (length m.output) message m.cells m.shingles r new gone
    own_judged = rw (h.settings_are, h.cells_are, h.shingles_are, h.room_is) j

    -- What writing the new list of an accepted opening leaves is the receiver's shingle table.
    pub table_is : r ≡ 0 → {after : List ℕ} {answer : ℕ} → Renewed new gone shingles after answer
        → after ≡ list_table (length m.shingles) (new_list (shingles_in m.shingles) (peeled_of s.settings m values).taken)
    table_is z {after} {answer} written =
        same_table s m message n rule w p L M q size root values own_seven h.message_is r new gone own_judged z after answer
        (rw h.shingles_are written)

    -- Taking the opening is concluded with the table that was written.
    pub opening_taken : r ≡ 0 → {after : List ℕ} {answer : ℕ} → Renewed new gone shingles after answer
        → take_opening s m rule w p L M q size root values
        ≡ conclude s m after size root 0 (settle (find m) size [] (pending 0 root ∷ []))
    unfolding take_opening
    opening_taken z written = rw (← refusal_is j.answer, eq-eqb r 0 z, ← table_is z written)
