-- Demand 3, both halves.
use mathlib.Core.Bool.{true}
use mathlib.Core.List.{List, [], ◌∷◌}
use mathlib.Core.Logic.{◌⊎◌, inl, inr, ⊎_elim}
use mathlib.Core.Path.{◌≡◌, refl, sym, ◌∙◌}
use Prim.Native.Nat.{ℕ, suc, ◌%◌, ◌^◌}
use native.Mathlib.Omega.{arith}
use lib.ListN.{length, take}
use Rattle.entries.proofs.Linear.{both}
use Rattle.fnv.specs.Fnv.{id_of_block}
use Rattle.tree.specs.declared.Settings.{Settings}
use Rattle.tree.specs.Tree.{nodes_of}
use Rattle.tree.specs.Laws.{Content}
use Rattle.protocol.specs.Lent.{Lent}
use Rattle.protocol.specs.State.{initial}
use Rattle.protocol.specs.Receiver.{Answer, refused, waiting, handed, wrote}
use Rattle.protocol.specs.Calls.{Call, Event, events, Every, Some, HandsOver}
use Rattle.protocol.specs.Genuine.{blocks_of}
use Rattle.protocol.specs.Demand.{SetupAccepts, left_by_setup, In, Chained, TakesGenuine, Delivered, Ends, Owed, Demand3}
use Rattle.protocol.proofs.Exactly.{hands, HandsSome, then, only_then}
use Rattle.protocol.proofs.FirstHalf.{first_half}
use Rattle.protocol.proofs.Members.{some_left, some_right, every_map}
use Rattle.protocol.proofs.Stages.{Starts, starts}
use Rattle.protocol.proofs.Session.{AllKept, all_kept, session_runs}
use Rattle.protocol.proofs.Memory.{session_starts}

-- Handing something over, and handing the string over.
unfoldable size_handed : Answer → ℕ
size_handed (refused k) = 0
size_handed waiting = 0
size_handed (handed n) = n
size_handed (wrote n) = 0

handed_size : (a : Answer) → hands a ≡ true → a ≡ handed (size_handed a)
unfolding hands size_handed
handed_size (refused k) e = absurd (both e refl)
handed_size waiting e = absurd (both e refl)
handed_size (handed n) e = refl
handed_size (wrote n) e = absurd (both e refl)

hands-handed : {n : ℕ} (a : Answer) → a ≡ handed n → hands a ≡ true
unfolding hands
hands-handed a e = rw e refl

abbrev Whole : List ℕ → Event → Type 0
Whole string e = (size : ℕ) → e.result.answer ≡ handed size → take size e.result.lent.output ≡ string

some_handed : (string : List ℕ) (es : List Event) → Every (Whole string) es → Some HandsSome es → Some (λ (e : Event). HandsOver e string) es
unfolding Every Some
some_handed string [] whole h = h
some_handed string (e ∷ es) whole h =
    ⊎_elim
    (λ g. let size = handed_size e.result.answer g in
    inl (record { size = size_handed e.result.answer; answer = size; bytes = sym (whole.0 (size_handed e.result.answer) size) }))
    (λ g. inr (some_handed string es whole.1 g))
    h

handed_some : (string : List ℕ) (es : List Event) → Some (λ (e : Event). HandsOver e string) es → Some HandsSome es
unfolding Some
handed_some string [] h = h
handed_some string (e ∷ es) h = ⊎_elim (λ g. inl (hands-handed e.result.answer g.answer)) (λ g. inr (handed_some string es g)) h

module _ (σ : Settings) (m : Lent) (n : ℕ) (set-up : SetupAccepts σ m) (string : List ℕ) (given : Ends σ m string) where
  abbrev known : List Content
  known = blocks_of σ m.string

  abbrev theirs : List Content
  theirs = blocks_of σ string

  pub theirs_apart : (a b : Content) → In a theirs → In b theirs → id_of_block a.bytes ≡ id_of_block b.bytes → a.bytes ≡ b.bytes
  theirs_apart a b i j e = given.apart.apart a b (some_right _ known theirs i) (some_right _ known theirs j) e

  -- What the two setups leave is the start of a session.
  pub the_start : Starts σ string m.string n (suc (length (nodes_of σ string))) (initial σ n) (left_by_setup σ m)
  the_start =
      session_starts σ m set-up string n (λ a b i j e. given.apart.apart a b (some_left _ known theirs i) (some_right _ known theirs j) e) given.room

  module _ (cs : List Call) where
    abbrev es : List Event
    es = events 0 (initial σ n) cs

    module _ (chained : Chained (left_by_setup σ m) es) (genuine : Every (λ (e : Event). TakesGenuine σ string (n % 2 ^ 24) e.call) es) where
      kept : AllKept σ string m.string n given.sender theirs_apart given.difference (suc (length (nodes_of σ string))) es
      kept =
          all_kept σ string m.string n given.sender theirs_apart given.difference (suc (length (nodes_of σ string))) 0 (initial σ n) (left_by_setup σ m) cs
          (starts the_start) chained genuine

      pub handed_string : Some HandsSome es → Some (λ (e : Event). HandsOver e string) es
      handed_string h = some_handed string es kept.whole h

      pub owed : Owed σ string (n % 2 ^ 24) (initial σ n) cs es
      owed =
          record {
            accepting = every_map es (λ e law. law.complete) kept.laws;
            few = omega (arith, kept.few, given.sender.few);
            no_other = every_map es (λ e whole out h. h.bytes ∙ whole h.size h.answer) kept.whole;
            then = λ points. handed_string (then (Delivered σ string (n % 2 ^ 24)) 0 (initial σ n) cs kept.laws (session_runs σ n) points);
            only_then = λ h. only_then (Delivered σ string (n % 2 ^ 24)) 0 (initial σ n) cs kept.laws (handed_some string es h);
            sound = every_map es (λ e law. law.sound) kept.laws;
            unmoved = every_map es (λ e law. law.same) kept.laws;
          }

-- "For every list of receiver calls .. from an accepted setup": both halves.
pub demand3 : Demand3
demand3 σ m n set-up cs = (first_half σ n cs, λ string given. owed σ m n set-up string given.ends cs given.chained given.genuine)
