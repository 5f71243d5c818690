-- Demand 3's first half: what is handed over has the length and id that the accepted opening announced. The state carries what was
-- announced, and 19 asks both of the buffer lent to the call that hands over.
use mathlib.Core.Bool.{Bool, true, false, cond, ◌&&◌}
use mathlib.Core.List.{List, [], ◌∷◌}
use mathlib.Core.Option.{Option, none, some}
use mathlib.Core.Path.{◌≡◌, refl, sym, ap, subst, ◌∙◌}
use Prim.Native.Nat.{ℕ, ◌+◌}
use lib.Dec.{eqb}
use lib.ListN.{length, take}
use borrow.Author.Tests.{eqb-true}
use Rattle.shingle.proofs.PairOrder.{and_true}
use Rattle.fnv.specs.Fnv.{id_of_block}
use Rattle.tree.specs.declared.Settings.{Settings}
use Rattle.message.specs.Messages.{Msg, opening_query, node_query, opening, composition, literal, no_node, parse}
use Rattle.protocol.specs.Lent.{Lent, refused_by, with_output, with_shingles}
use Rattle.protocol.specs.State.{Pending, State, Phase, unopened, opened, ended, initial, going, over, running, outstanding}
use Rattle.protocol.specs.Receiver.{handed, Result, result, unchanged, ends, Settled, too_long, left, output_with, conclude, opening_refusal, take_opening, take_node, act, hear, matches, take_message}
use Rattle.protocol.specs.Calls.{Call, takes, writes, step, goes_on, event, accepts, counting, events, Every}
use Rattle.protocol.specs.Demand.{Announces, TakesOwn, OpensWithOwn, HandsOverAlike, FirstHalf}
use Rattle.protocol.proofs.Cases.{chosen, built_front, size_in, refused_not, waiting_not, wrote_not, opening_first, composed, given, missing, node_later}

-- What the accepted opening announced, if there was one, is the string's length and id.
unfoldable Announced : List ℕ → Phase → ℕ → ℕ → Type 0
Announced string unopened size root = Unit {0}
Announced string opened size root = (size ≡ length string) × (root ≡ id_of_block string)
Announced string ended size root = Unit {0}

-- A result is good: what its state holds was announced, and what it hands over is alike.
record Good (string : List ℕ) (r : Result) : Type 0 where
  state : Announced string r.state.phase r.state.size r.state.root
  hands : (size : ℕ) → r.answer ≡ handed size
      → (length (take size r.lent.output) ≡ length string) × (id_of_block (take size r.lent.output) ≡ id_of_block string)

-- What an opening announces.
unfoldable size_announced : Option Msg → ℕ
size_announced none = 0
size_announced (some (opening_query n)) = 0
size_announced (some (node_query n l i)) = 0
size_announced (some (opening n rule w p L M q size root cells)) = size
size_announced (some (composition n l i x refs)) = 0
size_announced (some (literal n l i bytes)) = 0
size_announced (some (no_node n l i)) = 0

unfoldable root_announced : Option Msg → ℕ
root_announced none = 0
root_announced (some (opening_query n)) = 0
root_announced (some (node_query n l i)) = 0
root_announced (some (opening n rule w p L M q size root cells)) = root
root_announced (some (composition n l i x refs)) = 0
root_announced (some (literal n l i bytes)) = 0
root_announced (some (no_node n l i)) = 0

module _ (string : List ℕ) (s : State) (m : Lent) where
  good_unchanged : (k : ℕ) → Announced string s.phase s.size s.root → Good string (unchanged k s m)
  unfolding unchanged
  good_unchanged k a = record { state = a; hands = λ size e. absurd (refused_not e) }

  good_ends : (k : ℕ) → Good string (ends k s m)
  unfolding ends over Announced
  good_ends k = record { state = tt; hands = λ size e. absurd (refused_not e) }

  good_conclude : (shingles : List ℕ) (size root taken : ℕ) (t : Settled)
      → (goes_on (conclude s m shingles size root taken t).answer ≡ true → (size ≡ length string) × (root ≡ id_of_block string))
      → Good string (conclude s m shingles size root taken t)
  unfolding conclude goes_on going over size_in Announced
  good_conclude shingles size root taken too_long h = good_ends 18
  good_conclude shingles size root taken (left built (e ∷ es)) h = record { state = h refl; hands = λ n f. absurd (waiting_not f) }
  good_conclude shingles size root taken (left built []) h = go (eqb (length built) size && eqb (id_of_block built) root) refl h
    where
      go : (t : Bool) → (eqb (length built) size && eqb (id_of_block built) root) ≡ t
          → (goes_on (cond t (result (handed size) (over s) (with_shingles (with_output m (output_with built m.output)) shingles)) (ends 19 s m)).answer ≡ true → (size ≡ length string) × (root ≡ id_of_block string))
          → Good string (cond t (result (handed size) (over s) (with_shingles (with_output m (output_with built m.output)) shingles)) (ends 19 s m))
      go false e k = good_ends 19
      go true e k =
          let right = and_true (eqb (length built) size) _ e in
          let own = k refl in
          let long : length built ≡ size = eqb-true _ _ right.0 in
          let same : id_of_block built ≡ root = eqb-true _ _ right.1 in
          record {
            state = tt;
            hands = λ n f.
                let front = built_front built m.output n (sym (ap size_in f) ∙ sym long) in
                (ap length front ∙ (long ∙ own.0), ap id_of_block front ∙ (same ∙ own.1));
          }

  good_opening : (rule w p L M q size root : ℕ) (cells : List ℕ)
      → (goes_on (take_opening s m rule w p L M q size root cells).answer ≡ true → (size ≡ length string) × (root ≡ id_of_block string))
      → Good string (take_opening s m rule w p L M q size root cells)
  unfolding take_opening
  good_opening rule w p L M q size root cells =
      chosen Wanted (eqb (opening_refusal s m rule w p L M q size cells) 0) _ _
      (λ e h. good_conclude _ size root 0 _ h)
      (λ e h. good_ends (opening_refusal s m rule w p L M q size cells))
    where
      Wanted : Result → Type 0
      Wanted r = (goes_on r.answer ≡ true → (size ≡ length string) × (root ≡ id_of_block string)) → Good string r

  good_node : (refusal : ℕ) (bytes : List ℕ) (pile : List Pending) → (s.size ≡ length string) × (s.root ≡ id_of_block string)
      → Good string (take_node s m refusal bytes pile)
  unfolding take_node
  good_node refusal bytes pile own =
      chosen (Good string) (eqb refusal 0) _ _
      (λ e. good_conclude m.shingles s.size s.root (s.taken + 1) _ (λ h. own))
      (λ e. good_ends refusal)

  known : s.phase ≡ opened → Announced string s.phase s.size s.root → (s.size ≡ length string) × (s.root ≡ id_of_block string)
  unfolding Announced
  known e a = subst (λ (p : Phase). Announced string p s.size s.root) e a

  -- A message that announces the string and is read as an opening has the string's length and id.
  announced : {message : List ℕ} {n rule w p L M q size root : ℕ} {cells : List ℕ}
      → parse message ≡ some (opening n rule w p L M q size root cells) → Announces string message → (size ≡ length string) × (root ≡ id_of_block string)
  unfolding size_announced root_announced
  announced e a =
      let same = sym e ∙ a.is in
      (ap size_announced same, ap root_announced same)

  -- A message that matches.
  module _ (message : List ℕ) (a : Announced string s.phase s.size s.root) where
    abbrev OwnIf : Result → Type 0
    OwnIf r = goes_on r.answer ≡ true → s.phase ≡ unopened → Announces string message

    good_act : (x : Msg) → parse message ≡ some x → matches (outstanding s) x ≡ true → OwnIf (act s m x) → Good string (act s m x)
    unfolding act
    good_act (opening_query n) e f h = good_unchanged 11 a
    good_act (node_query n l i) e f h = good_unchanged 11 a
    good_act (opening n rule w p L M q size root cells) e f h =
        good_opening rule w p L M q size root cells (λ g. announced e (h g (opening_first s n rule w p L M q size root cells f)))
    good_act (composition n l i x refs) e f h = good_node _ [] _ (known (node_later s (composed n l i x refs) f) a)
    good_act (literal n l i bytes) e f h = good_node _ bytes _ (known (node_later s (given n l i bytes) f) a)
    good_act (no_node n l i) e f h = good_node _ [] [] (known (node_later s (missing n l i) f) a)

    good_hear : (x : Option Msg) → parse message ≡ x → OwnIf (hear s m x) → Good string (hear s m x)
    unfolding hear
    good_hear none e h = good_unchanged 10 a
    good_hear (some x) e h =
        chosen (λ (r : Result). OwnIf r → Good string r) (matches (outstanding s) x) (act s m x) (unchanged 11 s m)
        (λ f h. good_act x e f h)
        (λ f h. good_unchanged 11 a)
        h

    good_take : OwnIf (take_message s m message) → Good string (take_message s m message)
    unfolding take_message
    good_take =
        chosen Wanted (eqb (refused_by s.settings m) 0) _ (unchanged (refused_by s.settings m) s m)
        (λ e. chosen Wanted (running s) (hear s m (parse message)) (unchanged 9 s m) (λ f h. good_hear (parse message) refl h) (λ f h. good_unchanged 9 a))
        (λ e h. good_unchanged (refused_by s.settings m) a)
      where
        Wanted : Result → Type 0
        Wanted r = OwnIf r → Good string r

-- One call: what it leaves was announced, and what it hands over is alike.
good_step : (string : List ℕ) (k : ℕ) (s : State) (c : Call) → Announced string s.phase s.size s.root
    → OpensWithOwn string (event k s c) → Good string (step s c)
unfolding step TakesOwn accepts
good_step string k s (takes m message) a own = good_take string s m message a (λ h f. own h f)
good_step string k s (writes m buffer) a own = record { state = a; hands = λ size e. absurd (wrote_not e) }

every_call : (string : List ℕ) (k : ℕ) (s : State) (cs : List Call) → Announced string s.phase s.size s.root
    → Every (OpensWithOwn string) (events k s cs) → Every (HandsOverAlike string) (events k s cs)
unfolding events Every
every_call string k s [] a own = tt
every_call string k s (c ∷ cs) a own =
    let good = good_step string k s c a own.0 in (
      λ out h. alike good h.size out h.answer h.bytes,
      every_call string (counting (accepts (event k s c)) k) (step s c).state cs good.state own.1,
    )
  where
    alike : {r : Result} → Good string r → (size : ℕ) (out : List ℕ) → r.answer ≡ handed size → out ≡ take size r.lent.output
        → (length out ≡ length string) × (id_of_block out ≡ id_of_block string)
    alike good size out e f = rw f (good.hands size e)

-- "if the opening accepted was the sender's own, any string handed over has the length and id of the sender's."
pub first_half : (σ : Settings) (n : ℕ) (cs : List Call) → FirstHalf (events 0 (initial σ n) cs)
unfolding initial Announced
first_half σ n cs string own = every_call string 0 (initial σ n) cs tt own
