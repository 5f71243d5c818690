-- Demand 3 of the calls that C makes: by the promise of each, their events are those of the definitions, of which demand 3 holds.
use mathlib.Core.Bool.{Bool}
use mathlib.Core.List.{List, [], ◌∷◌, map}
use mathlib.Core.Path.{◌≡◌, refl, sym, ap, subst, ◌∙◌}
use Prim.Native.Nat.{ℕ, ◌%◌, ◌^◌, ◌≤◌}
use lib.Dec.{leb}
use lib.ListN.{length}
use Rattle.tree.specs.declared.Settings.{Settings}
use Rattle.setup.specs.Questions.{setup_refusal}
use Rattle.setup.specs.Tables.{node_front, shingle_front, cell_front, setup_table}
use Rattle.setup.proofs.Accepted.{yes_answer, other_after_yes}
use Rattle.protocol.specs.Lent.{Lent, lent}
use Rattle.protocol.specs.State.{State, initial}
use Rattle.protocol.specs.Receiver.{Result, result, wrote}
use Rattle.protocol.specs.Calls.{Call, step, Event, event, accepts, counting, events}
use Rattle.protocol.specs.Demand.{SetupAccepts, left_by_setup, FirstHalf, SecondHalf}
use Rattle.protocol.proofs.Demand.{demand3}
use Rattle.held.specs.Held.{decode, HeldSetUp}
use Rattle.demand.specs.Made.{Made, took, asked, Kept, state_lent, state_left, InTurn, answer_of, call_of, result_of, event_of, events_of}
use Rattle.demand.specs.Demand.{Demand3OfCalls}
use Rattle.demand.proofs.Answers.{told_take}

-- What came of a call that kept its promise is what the definition says.
result_is : (c : Made) → Kept c → result_of c ≡ step (decode (state_lent c)) (call_of c)
unfolding Kept state_lent call_of result_of step
result_is (took state string nodes shingles cells message output r state' shingles' output') kept =
    let answer = ap answer_of kept.leaves.answer ∙ (told_take (decode state) (lent string nodes shingles cells output) message).told in
    λ i. result (answer i) (kept.leaves.state_is i) (sym kept.leaves.memory i)
result_is (asked state string nodes shingles cells buffer r buffer') kept =
    λ i. result (wrote (kept.answer_is [] i)) (decode state) (lent string nodes shingles cells [])

left_is : (c : Made) → (result_of c).state ≡ decode (state_left c)
unfolding result_of state_left
left_is (took state string nodes shingles cells message output r state' shingles' output') = refl
left_is (asked state string nodes shingles cells buffer r buffer') = refl

-- The events of calls in turn are those of the definitions, from the state that the first one's bytes hold.
events_are : (k : ℕ) (state : List ℕ) (s : State) (cs : List Made) → decode state ≡ s → InTurn state cs → events_of k cs ≡ events k s (map call_of cs)
unfolding InTurn events_of events
events_are k state s [] e turn = refl
events_are k state s (c ∷ cs) e turn =
    let before : decode (state_lent c) ≡ s = ap decode turn.0 ∙ e in
    let becomes : result_of c ≡ step s (call_of c) = result_is c turn.1 ∙ ap (λ (t : State). step t (call_of c)) before in
    let one : event_of k c ≡ event k s (call_of c) = λ i. record { count = k; before = before i; call = call_of c; result = becomes i } in
    let later = (step s (call_of c)).state in
    let rest = events_are (counting (accepts (event_of k c)) k) (state_left c) later cs (sym (left_is c) ∙ ap (λ (R : Result). R.state) becomes) turn.2 in
    let counted = ap (λ (x : Event). events (counting (accepts x) k) later (map call_of cs)) one in
    λ i. one i ∷ (rest ∙ counted) i

module _ (σ : Settings) (n : ℕ) (string nodes nodes' shingles shingles' cells cells' state state' output : List ℕ) (r : ℕ)
    (made : HeldSetUp σ n string nodes nodes' shingles shingles' cells cells' state state' r) (high : 2 ^ 32 ≤ r) where
  abbrev m : Lent
  m = lent string nodes shingles cells output

  accepted : setup_refusal σ string (leb 2144 (length state)) nodes shingles cells ≡ 0
  accepted = yes_answer _ _ _ _ _ _ _ _ _ _ made.tables high

  set_up : SetupAccepts σ m
  set_up = subst (λ (b : Bool). setup_refusal σ string b nodes shingles cells ≡ 0) (other_after_yes _ _ _ _ _ _ _ _ _ _ made.tables accepted) accepted

  both_halves : (cs : List Made) → InTurn state' cs
      → FirstHalf (events_of 0 cs) × SecondHalf σ m (n % 2 ^ 24) (initial σ n) (map call_of cs) (events_of 0 cs)
  both_halves cs turn =
      subst (λ (es : List Event). FirstHalf es × SecondHalf σ m (n % 2 ^ 24) (initial σ n) (map call_of cs) es)
      (sym (events_are 0 state' (initial σ n) cs (made.held accepted) turn))
      (demand3 σ m n set_up (map call_of cs))

  -- What such a setup leaves is what the second half starts from.
  pub left_by_setup_lem : lent string nodes' shingles' cells' output ≡ left_by_setup σ m
  left_by_setup_lem =
      let nodes-are = made.tables.node_table ∙ ap (λ (k : ℕ). setup_table k (node_front σ string) nodes) accepted in
      let shingles_are = made.tables.shingle_table ∙ ap (λ (k : ℕ). setup_table k (shingle_front σ string) shingles) accepted in
      let cells_are = made.tables.cell_table ∙ ap (λ (k : ℕ). setup_table k (cell_front σ string) cells) accepted in
      λ i. lent string (nodes-are i) (shingles_are i) (cells_are i) output

pub demand3_of_calls : Demand3OfCalls
demand3_of_calls σ n string nodes nodes' shingles shingles' cells cells' state state' output r made high =
    both_halves σ n string nodes nodes' shingles shingles' cells cells' state state' output r made high
