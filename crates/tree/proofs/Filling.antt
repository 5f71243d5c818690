-- The nodes that name an entry as their parent fill it. A subtree that stands at entry `at` has all its nodes' parents, but its own root's, among
-- its own entries, so that nothing outside names a node of it.
use mathlib.Core.Bool.{Bool, true, false, cond, ◌&&◌}
use mathlib.Core.List.{List, [], ◌∷◌, ◌++◌, map, map-append, flatten, append-nil}
use mathlib.Core.Path.{◌≡◌, refl, sym, ap, ◌∙◌, subst}
use Prim.Native.Nat.{ℕ, zero, suc, ◌+◌, ◌-◌, ◌≤◌, ◌<◌}
use native.Mathlib.Nat.{zero-add}
use native.Mathlib.Decide.{dec_lt}
use native.Mathlib.Omega.{arith}
use lib.Dec.{eqb}
use lib.ListN.{length, get_or, length-append, length-map, get_or-append}
use lib.Seq.{get_or-append-add}
use borrow.Author.Tests.{eq-eqb, ne_eqb}
use Rattle.node_table.specs.declared.Entry.{Entry}
use Rattle.node_table.specs.Laws.{Each, none as Each-none, both}
use Rattle.tree.specs.declared.Settings.{Settings}
use Rattle.tree.specs.Tree.{node, children_of}
use Rattle.tree.specs.Places.{Placed, placed, placed_in_turn, placed_tree, places_of}
use Rattle.tree.specs.Table.{entry_of}
use Rattle.tree.specs.Filling.{naming, EndToEnd, done, next, ChildrenFill}
use Rattle.tree.proofs.Tree.{children_join}

naming-append : (k l : ℕ) (ns ms : List Entry) → naming k l (ns ++ ms) ≡ naming k l ns ++ naming k l ms
unfolding naming
naming-append k l [] ms = refl
naming-append k l (n ∷ ns) ms = at (eqb n.parent k && eqb n.level (l + 1)) (naming-append k l ns ms)
  where
    at : (b : Bool) → naming k l (ns ++ ms) ≡ naming k l ns ++ naming k l ms
        → cond b (n ∷ naming k l (ns ++ ms)) (naming k l (ns ++ ms)) ≡ cond b (n ∷ naming k l ns) (naming k l ns) ++ naming k l ms
    at true e = ap (λ (x : List Entry). n ∷ x) e
    at false e = e

-- Each of the nodes names the entry `parent`, or one from `low` up to `high`.
data Names (parent low high : ℕ) : List Entry → Type 0 where
  none : Names parent low high []
  same : {n : Entry} {ns : List Entry} → n.parent ≡ parent → Names parent low high ns → Names parent low high (n ∷ ns)
  among : {n : Entry} {ns : List Entry} → low ≤ n.parent → n.parent < high → Names parent low high ns → Names parent low high (n ∷ ns)

names_both : {parent low high : ℕ} {ns ms : List Entry} → Names parent low high ns → Names parent low high ms → Names parent low high (ns ++ ms)
names_both none h = h
names_both (same a ns) h = same a (names_both ns h)
names_both (among a b ns) h = among a b (names_both ns h)

wider : {parent low high into past : ℕ} {ns : List Entry} → Names parent low high ns → into ≤ low → high ≤ past → Names parent into past ns
wider none a b = none
wider (same e ns) a b = same e (wider ns a b)
wider {into = into} {past = past} (among {n} x y ns) a b = among {n = n} (omega arith) (omega arith) (wider ns a b)

-- With the parent among the others.
own : {at low high into past : ℕ} (parent : ℕ) {ns : List Entry} → Names at low high ns → into ≤ at → at < past → into ≤ low → high ≤ past → Names parent into past ns
own parent none a b c d = none
own parent (same {n} e ns) a b c d = among {n = n} (omega arith) (omega arith) (own parent ns a b c d)
own parent (among {n} x y ns) a b c d = among {n = n} (omega arith) (omega arith) (own parent ns a b c d)

-- They name entries below `past`.
names_below : {parent low high : ℕ} (past : ℕ) {ns : List Entry} → Names parent low high ns → parent < past → high ≤ past → Each (λ e. e.parent < past) ns
names_below past none a b = Each-none
names_below past (same {n} e ns) a b = both {n = n} (omega arith) (names_below past ns a b)
names_below past (among {n} x y ns) a b = both {n = n} (omega arith) (names_below past ns a b)

-- None of them names an entry that is neither.
unnamed_low : (k l : ℕ) {parent low high : ℕ} {ns : List Entry} → Names parent low high ns → (k ≡ parent → ⊥) → k < low → naming k l ns ≡ []
unfolding naming
unnamed_low k l none a b = refl
unnamed_low k l (same {n} e ns) a b = rw (ne_eqb n.parent k (λ q. a (omega arith))) (unnamed_low k l ns a b)
unnamed_low k l (among {n} x y ns) a b = rw (ne_eqb n.parent k (λ q. omega arith)) (unnamed_low k l ns a b)

unnamed_high : (k l : ℕ) {parent low high : ℕ} {ns : List Entry} → Names parent low high ns → (k ≡ parent → ⊥) → high ≤ k → naming k l ns ≡ []
unfolding naming
unnamed_high k l none a b = refl
unnamed_high k l (same {n} e ns) a b = rw (ne_eqb n.parent k (λ q. a (omega arith))) (unnamed_high k l ns a b)
unnamed_high k l (among {n} x y ns) a b = rw (ne_eqb n.parent k (λ q. omega arith)) (unnamed_high k l ns a b)

-- One node that names another entry, or is not of the level.
other_parent : (k l : ℕ) (n : Entry) (ns : List Entry) → (n.parent ≡ k → ⊥) → naming k l (n ∷ ns) ≡ naming k l ns
unfolding naming
other_parent k l n ns e = rw (ne_eqb n.parent k e)

other_level : (k l : ℕ) (n : Entry) (ns : List Entry) → (n.level ≡ l + 1 → ⊥) → naming k l (n ∷ ns) ≡ naming k l ns
unfolding naming
other_level k l n ns e = rw (ne_eqb n.level (l + 1) e) (at (eqb n.parent k))
  where
    at : (b : Bool) → cond (b && false) (n ∷ naming k l ns) (naming k l ns) ≡ naming k l ns
    at true = refl
    at false = refl

named : (k l : ℕ) (n : Entry) (ns : List Entry) → n.parent ≡ k → n.level ≡ l + 1 → naming k l (n ∷ ns) ≡ n ∷ naming k l ns
unfolding naming
named k l n ns e f = rw (eq-eqb n.parent k e, eq-eqb n.level (l + 1) f)

-- The nodes from entry `at` on, each of which above the last level is filled by those among them that name it.
pub record AllFilled (levels at : ℕ) (ns : List Entry) : Type 0 where
  pub filled : (j : ℕ) (d : Entry) → j < length ns → (get_or ns j d).level < levels → ChildrenFill ns (at + j) (get_or ns j d)

-- What holds of a subtree that stands at entry `at`.
record Subtree (levels level start at parent place : ℕ) (bytes : List ℕ) (ns : List Entry) : Type 0 where
  below : List Entry
  is : ns ≡ entry_of (placed (node level start bytes) parent place) ∷ below
  names : Names at (at + 1) (at + length ns) below
  all : parent ≤ at → AllFilled levels at ns

-- What holds of the children in turn.
record Turn (levels level parent start at place : ℕ) (bs : List (List ℕ)) (ns : List Entry) : Type 0 where
  fills : parent < at → EndToEnd (start + length (flatten bs)) start place (naming parent level ns)
  names : Names parent at (at + length ns) ns
  all : parent < at → AllFilled levels at ns

-- The same nodes fill an entry.
filled_same : (ns ms : List Entry) (k j : ℕ) (n m : Entry) → n ≡ m → k ≡ j → naming j m.level ns ≡ naming j m.level ms → ChildrenFill ms j m
    → ChildrenFill ns k n
filled_same ns ms k j n m alike e q f = rw (alike, e) (record { fills = rw q f.fills })

-- A subtree, and then the others.
module _ (levels level parent start at place : ℕ) (b : List ℕ) (bs : List (List ℕ)) (X Y : List Entry)
    (S : Subtree levels (level + 1) start at parent place b X)
    (R : Turn levels level parent (start + length b) (at + length X) (place + 1) bs Y) where
  abbrev root : Entry
  root = entry_of (placed (node (level + 1) start b) parent place)

  size : length X ≡ suc (length S.below)
  size = ap length S.is

  long : length (X ++ Y) ≡ length X + length Y
  long = length-append X Y

  turn_names : Names parent at (at + length (X ++ Y)) (X ++ Y)
  turn_names =
      names_both
      (subst (λ (ns : List Entry). Names parent at (at + length (X ++ Y)) ns) (sym S.is)
      (same refl (own parent S.names (omega arith) (omega (arith, long, size)) (omega arith) (omega (arith, long)))))
      (wider R.names (omega arith) (omega (arith, long)))

  front : (k l : ℕ) → naming k l X ≡ naming k l (root ∷ S.below)
  front k l = ap (naming k l) S.is

  turn_fills : parent < at → EndToEnd (start + length (flatten (b ∷ bs))) start place (naming parent level (X ++ Y))
  unfolding flatten
  turn_fills h =
      let e : naming parent level (X ++ Y) ≡ root ∷ naming parent level Y =
      naming-append parent level X Y
      ∙ ap (λ (x : List Entry). x ++ naming parent level Y)
      (front parent level ∙ named parent level root S.below refl refl
      ∙ ap (λ (x : List Entry). root ∷ x) (unnamed_low parent level S.names (λ q. omega arith) (omega arith))) in
      let total : start + length (flatten (b ∷ bs)) ≡ start + length b + length (flatten bs) = omega (arith, length-append b (flatten bs)) in
      rw (e, total) (next refl refl (R.fills (omega arith)))

  turn_all : parent < at → AllFilled levels at (X ++ Y)
  turn_all h = record { filled = λ j d l lev. at_place j d l lev (dec_lt j (length X)) }
    where
      at_place : (j : ℕ) (d : Entry) → j < length (X ++ Y) → (get_or (X ++ Y) j d).level < levels → Dec (j < length X)
          → ChildrenFill (X ++ Y) (at + j) (get_or (X ++ Y) j d)
      at_place j d l lev (yes q) =
          let n = get_or X j d in
          let e : get_or (X ++ Y) j d ≡ n = get_or-append X Y d j q in
          filled_same (X ++ Y) X (at + j) (at + j) (get_or (X ++ Y) j d) n e refl
          (naming-append (at + j) n.level X Y
          ∙ ap (λ (ms : List Entry). naming (at + j) n.level X ++ ms) (unnamed_low (at + j) n.level R.names (λ x. omega arith) (omega arith))
          ∙ append-nil (naming (at + j) n.level X))
          ((S.all (omega arith)).filled j d q (rw e at lev))
      at_place j d l lev (no q) =
          let i = j - length X in
          let n = get_or Y i d in
          let p : j ≡ length X + i = omega arith in
          let e : get_or (X ++ Y) j d ≡ n = ap (λ (k : ℕ). get_or (X ++ Y) k d) p ∙ get_or-append-add X Y i d in
          let k = at + length X + i in
          let none : naming k n.level X ≡ [] =
          front k n.level ∙ other_parent k n.level root S.below (λ x. omega arith)
          ∙ unnamed_high k n.level S.names (λ x. omega (arith, size)) (omega arith) in
          filled_same (X ++ Y) Y (at + j) k (get_or (X ++ Y) j d) n e (omega arith)
          (naming-append k n.level X Y ∙ ap (λ (ms : List Entry). ms ++ naming k n.level Y) none)
          ((R.all (omega arith)).filled i d (omega (arith, long)) (rw e at lev))

in_turn_turn : (levels level : ℕ) (f : (start at parent place : ℕ) → List ℕ → List Placed)
    → ((start at parent place : ℕ) (b : List ℕ) → Subtree levels (level + 1) start at parent place b (map entry_of (f start at parent place b)))
    → (parent start at place : ℕ) (bs : List (List ℕ)) → Turn levels level parent start at place bs (map entry_of (placed_in_turn f parent start at place bs))
unfolding placed_in_turn naming flatten
in_turn_turn levels level f h parent start at place [] =
    record {
      fills = λ x. subst (λ (e : ℕ). EndToEnd e start place []) (let e : start ≡ start + 0 = omega arith in e) done;
      names = none;
      all = λ x. record { filled = λ j d l lev. absurd (omega arith) };
    }
in_turn_turn levels level f h parent start at place (b ∷ bs) =
    let P = f start at parent place b in
    let Q = placed_in_turn f parent (start + length b) (at + length P) (place + 1) bs in
    let X = map entry_of P in
    let S = h start at parent place b in
    let R = subst (λ (n : ℕ). Turn levels level parent (start + length b) (at + n) (place + 1) bs (map entry_of Q)) (sym (length-map P entry_of))
    (in_turn_turn levels level f h parent (start + length b) (at + length P) (place + 1) bs) in
    subst (Turn levels level parent start at place (b ∷ bs)) (sym (map-append entry_of P Q))
    (record {
      fills = turn_fills levels level parent start at place b bs X _ S R;
      names = turn_names levels level parent start at place b bs X _ S R;
      all = turn_all levels level parent start at place b bs X _ S R;
    })

tree_subtree : (σ : Settings) (levels left level start at parent place : ℕ) (bytes : List ℕ) → level + left ≡ levels
    → Subtree levels level start at parent place bytes (map entry_of (placed_tree σ left level start at parent place bytes))
unfolding placed_tree
tree_subtree σ levels zero level start at parent place bytes depth =
    record {
      below = [];
      is = refl;
      names = none;
      all = λ h. record { filled = λ j d l lev. absurd (last j d l lev) };
    }
  where
    last : (j : ℕ) (d : Entry) → j < 1 → (get_or (entry_of (placed (node level start bytes) parent place) ∷ []) j d).level < levels → ⊥
    last zero d l lev = omega arith
    last (suc j) d l lev = omega arith
tree_subtree σ levels (suc left) level start at parent place bytes depth =
    let T = in_turn_turn levels level (placed_tree σ left (level + 1)) (λ s a q i b. tree_subtree σ levels left (level + 1) s a q i b (omega arith))
    at start (at + 1) 0 (children_of σ (level + 1) bytes) in
    record {
      below = _;
      is = refl;
      names = wider T.names (omega arith) (omega arith);
      all = λ h. record { filled = here T h };
    }
  where
    here : {C : List Entry} → Turn levels level at start (at + 1) 0 (children_of σ (level + 1) bytes) C → parent ≤ at → (j : ℕ) (d : Entry)
        → j < suc (length C) → (get_or (entry_of (placed (node level start bytes) parent place) ∷ C) j d).level < levels
        → ChildrenFill (entry_of (placed (node level start bytes) parent place) ∷ C) (at + j) (get_or (entry_of (placed (node level start bytes) parent place) ∷ C) j d)
    here {C} T h zero d l lev =
        let n = entry_of (placed (node level start bytes) parent place) in
        let e : start + length (flatten (children_of σ (level + 1) bytes)) ≡ start + length bytes = ap (λ (b : List ℕ). start + length b) (children_join σ (level + 1) bytes) in
        let alike : naming (at + 0) level (n ∷ C) ≡ naming at level C =
        ap (λ (k : ℕ). naming k level (n ∷ C)) (let z : at + 0 ≡ at = omega arith in z) ∙ other_level at level n C (λ x. omega arith) in
        record { fills = rw alike (rw e at (T.fills (omega arith))) }
    here {C} T h (suc j) d l lev =
        let n = entry_of (placed (node level start bytes) parent place) in
        let k = at + 1 + j in
        filled_same (n ∷ C) C (at + suc j) k (get_or C j d) (get_or C j d) refl (omega arith)
        (other_parent k (get_or C j d).level n C (λ x. omega arith))
        ((T.all (omega arith)).filled j d (omega arith) lev)

module _ (σ : Settings) (bytes : List ℕ) where
  abbrev entries : List Entry
  entries = map entry_of (places_of σ bytes)

  whole : Subtree σ.levels 0 0 0 0 0 bytes entries
  unfolding places_of
  whole = tree_subtree σ σ.levels σ.levels 0 0 0 0 0 bytes (zero-add σ.levels)

  -- "the root names itself, at place 0"
  pub root_itself : (d : Entry) → (0 < length entries) × (get_or entries 0 d ≡ entry_of (placed (node 0 0 bytes) 0 0))
  root_itself d =
      let size : length entries ≡ suc (length whole.below) = ap length whole.is in
      (omega arith, ap (λ (es : List Entry). get_or es 0 d) whole.is)

  -- "the nodes naming a parent, one level down, fill it end to end in order of place": of every tree, whether it was accepted or not.
  pub children_fill : (k : ℕ) (d : Entry) → k < length entries → (get_or entries k d).level < σ.levels → ChildrenFill entries k (get_or entries k d)
  children_fill k d h above = rw (zero-add k) at ((whole.all (omega arith)).filled k d h above)

  -- A node's parent stands in the table.
  pub parents_listed : Each (λ e. e.parent < length entries) entries
  parents_listed =
      let size : length entries ≡ suc (length whole.below) = ap length whole.is in
      subst (Each (λ e. e.parent < length entries)) (sym whole.is) (both (omega arith) (names_below _ whole.names (omega arith) (omega arith)))
