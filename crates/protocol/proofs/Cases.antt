-- How a test, a message or a state decides what a call does: the case distinctions that the other proofs share.
use mathlib.Core.Bool.{Bool, true, false, cond}
use mathlib.Core.List.{List, [], ◌∷◌}
use mathlib.Core.Option.{Option, none, some}
use mathlib.Core.Path.{◌≡◌, refl, sym, ap}
use Prim.Native.Nat.{ℕ}
use native.Mathlib.Omega.{arith}
use lib.Dec.{eqb}
use lib.ListN.{length, take, drop}
use lib.Seq.{take-append_seam}
use Rattle.entries.proofs.Linear.{both}
use Rattle.shingle.proofs.PairOrder.{and_true}
use Rattle.message.specs.Messages.{Msg, opening_query, opening, composition, literal, no_node, type_of}
use Rattle.protocol.specs.State.{Pending, State, Phase, unopened, opened, ended, running, query_of, outstanding}
use Rattle.protocol.specs.Receiver.{Answer, refused, waiting, handed, wrote, session_of, fits, matches, output_with}

-- What holds of both arms holds of the chosen one.
pub chosen : {A : Type 0} (P : A → Type 0) (t : Bool) (x y : A) → (t ≡ true → P x) → (t ≡ false → P y) → P (cond t x y)
chosen P true x y this other = this refl
chosen P false x y this other = other refl

pub either : {C : Type 0} (t : Bool) → (t ≡ true → C) → (t ≡ false → C) → C
either true this other = this refl
either false this other = other refl

-- An opening matches only before one is taken, a node reply only after.
phase_opening : (t : Bool) (n : ℕ) (p : Phase) (pile : List Pending) (n' rule w q L M width size root : ℕ) (cells : List ℕ)
    → matches (cond t (query_of n p pile) none) (opening n' rule w q L M width size root cells) ≡ true → p ≡ unopened
unfolding matches query_of fits type_of session_of
phase_opening false n p pile n' rule w q L M width size root cells e = absurd (both e refl)
phase_opening true n unopened pile n' rule w q L M width size root cells e = refl
phase_opening true n opened [] n' rule w q L M width size root cells e = absurd (both e refl)
phase_opening true n opened (x ∷ pile) n' rule w q L M width size root cells e =
    absurd (both (and_true (eqb n' n) false e).1 refl)
phase_opening true n ended pile n' rule w q L M width size root cells e = absurd (both e refl)

pub opening_first : (s : State) (n rule w p L M q size root : ℕ) (cells : List ℕ)
    → matches (outstanding s) (opening n rule w p L M q size root cells) ≡ true → s.phase ≡ unopened
unfolding outstanding
opening_first s n rule w p L M q size root cells e = phase_opening (running s) s.session s.phase s.pile n rule w p L M q size root cells e

-- The message is a node reply.
pub data NodeReply : Msg → Type 0 where
  composed : (n l i : ℕ) (x : Option ℕ) (refs : _) → NodeReply (composition n l i x refs)
  given : (n l i : ℕ) (bytes : List ℕ) → NodeReply (literal n l i bytes)
  missing : (n l i : ℕ) → NodeReply (no_node n l i)

type_not_three : {m : Msg} → NodeReply m → eqb (type_of m) 3 ≡ false
unfolding type_of
type_not_three (composed n l i x refs) = refl
type_not_three (given n l i bytes) = refl
type_not_three (missing n l i) = refl

phase_node : (t : Bool) (n : ℕ) (p : Phase) (pile : List Pending) (m : Msg) → NodeReply m
    → matches (cond t (query_of n p pile) none) m ≡ true → p ≡ opened
unfolding matches query_of fits type_of session_of
phase_node false n p pile m r e = absurd (both e refl)
phase_node true n unopened pile m r e = absurd (both (and_true (eqb (session_of m) n) (eqb (type_of m) 3) e).1 (type_not_three r))
phase_node true n opened pile m r e = refl
phase_node true n ended pile m r e = absurd (both e refl)

pub node_later : (s : State) {m : Msg} → NodeReply m → matches (outstanding s) m ≡ true → s.phase ≡ opened
unfolding outstanding
node_later s {m} r e = phase_node (running s) s.session s.phase s.pile m r e

-- The bytes built are the front of the output.
pub built_front : (built output : List ℕ) (n : ℕ) → n ≡ length built → take n (output_with built output) ≡ built
unfolding output_with
built_front built output n e = rw e (take-append_seam built (drop (length built) output))

-- Answers apart.
unfoldable kind_of : Answer → ℕ
kind_of (refused k) = 0
kind_of waiting = 1
kind_of (handed n) = 2
kind_of (wrote n) = 3

unfoldable pub size_in : Answer → ℕ
size_in (refused k) = 0
size_in waiting = 0
size_in (handed n) = n
size_in (wrote n) = 0

pub refused_not : {k size : ℕ} → refused k ≡ handed size → ⊥
unfolding kind_of
refused_not {k} {size} e = let z : ◌≡◌ {A = ℕ} 0 2 = ap kind_of e in omega arith

pub waiting_not : {size : ℕ} → waiting ≡ handed size → ⊥
unfolding kind_of
waiting_not e = let z : ◌≡◌ {A = ℕ} 1 2 = ap kind_of e in omega arith

pub wrote_not : {k size : ℕ} → wrote k ≡ handed size → ⊥
unfolding kind_of
wrote_not e = let z : ◌≡◌ {A = ℕ} 3 2 = ap kind_of e in omega arith

-- Messages under `some`.
unfoldable message_in : Option Msg → Msg
message_in none = opening_query 0
message_in (some m) = m

pub same_message : {a b : Msg} → some a ≡ some b → a ≡ b
unfolding message_in
same_message e = ap message_in e

pub no_message : {a : Msg} → none ≡ some a → ⊥
no_message {a} e = both refl (ap is_some (sym e))
  where
    is_some : Option Msg → Bool
    is_some none = false
    is_some (some x) = true
