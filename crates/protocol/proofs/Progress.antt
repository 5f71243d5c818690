-- A session between such ends goes through: taking a genuine reply to the outstanding query again and again hands the string over, with at
-- most one call for each node of the sender's tree and one for the opening.
use mathlib.Core.Bool.{true}
use mathlib.Core.List.{List, [], ◌∷◌}
use mathlib.Core.Logic.{inl, inr}
use mathlib.Core.Option.{some}
use mathlib.Core.Path.{◌≡◌, refl, ap, ◌∙◌}
use Prim.Native.Nat.{ℕ, zero, suc, ◌%◌, ◌^◌, ◌≤◌, ◌<◌}
use native.Mathlib.Nat.{mod-lt}
use native.Mathlib.Omega.{arith}
use lib.ListN.{length}
use Rattle.partition.specs.Cuts.{rule_number}
use Rattle.entries.proofs.Linear.{both}
use Rattle.fnv.specs.Fnv.{id_of_block}
use Rattle.fnv.proofs.Fnv.{block_id_small}
use Rattle.tree.specs.declared.Settings.{Settings}
use Rattle.tree.specs.Tree.{nodes_of}
use Rattle.sketch.specs.Cells.{cells_of}
use Rattle.setup.specs.Tables.{shingles_of_string}
use Rattle.message.specs.Words.{plain}
use Rattle.message.specs.Fields.{one, value}
use Rattle.message.specs.Messages.{Msg, opening_query, node_query, opening, composition, literal, no_node, encode, headed, words_then, size_of, Parts, Valid}
use Rattle.protocol.specs.Lent.{Lent}
use Rattle.protocol.specs.State.{State, initial, running, outstanding}
use Rattle.protocol.specs.Receiver.{take_message, session_of}
use Rattle.protocol.specs.Calls.{Call, takes, step, Event, event, accepts, counting, events, Every, Some}
use Rattle.protocol.specs.Genuine.{blocks_of, first_of, found_reply, IsReply, GenuineReply, Genuine}
use Rattle.protocol.specs.Demand.{SetupAccepts, left_by_setup, LentTo, left_by, Chained, TakesGenuine, DeliveredTo, Ends, Progress}
use Rattle.protocol.proofs.Cases.{either}
use Rattle.protocol.proofs.Exactly.{hands, HandsSome}
use Rattle.protocol.proofs.Blocks.{blocks_shallow}
use Rattle.protocol.proofs.Pending.{room_left}
use Rattle.protocol.proofs.Stages.{Stage, starts, pends, closed}
use Rattle.protocol.proofs.Accepting.{low}
use Rattle.protocol.proofs.Session.{Accepts, delivered_accepted, starts_asks, pends_asks, closed_idle, session_runs}
use Rattle.protocol.proofs.Demand.{theirs_apart, the_start, handed_string}

-- The reply to a query.
module _ (σ : Settings) (string : List ℕ) where
  unfoldable answer_to : Msg → Msg
  answer_to (opening_query n) =
      opening n rule_number σ.window σ.fan_out σ.levels σ.nominal σ.width (length string) (id_of_block string)
      (cells_of σ.width (shingles_of_string σ string))
  answer_to (node_query n l i) = found_reply σ string n l i (first_of l i (blocks_of σ string))
  answer_to (opening n rule w p L M q size root cells) = opening_query n
  answer_to (composition n l i x refs) = opening_query n
  answer_to (literal n l i bytes) = opening_query n
  answer_to (no_node n l i) = opening_query n

  opening_replies : (n : ℕ) → IsReply σ string (opening_query n) (answer_to (opening_query n))
  unfolding IsReply answer_to
  opening_replies n = refl

  query_replies : (n l i : ℕ) → IsReply σ string (node_query n l i) (answer_to (node_query n l i))
  unfolding IsReply answer_to
  query_replies n l i = refl

-- The queries of a receiver are within their fields.
pub valid_opening_query : (n : ℕ) → n < 2 ^ 24 → Valid (opening_query n)
unfolding Parts size_of words_then headed one
valid_opening_query n h = record { size = omega arith; parts = h }

pub valid_node_query : (n l i : ℕ) → n < 2 ^ 24 → l ≤ 4 → i < 18446744073709551616 → Valid (node_query n l i)
unfolding Parts size_of words_then headed one value plain
valid_node_query n l i h k j = record { size = omega arith; parts = (h, omega (arith, k), omega (arith, j)) }

module _ (σ : Settings) (m₀ : Lent) (n : ℕ) (set-up : SetupAccepts σ m₀) (string : List ℕ) (given : Ends σ m₀ string) where
  abbrev own : List ℕ
  own = m₀.string

  abbrev session : ℕ
  session = n % 2 ^ 24

  session_small : session < 2 ^ 24
  session_small = mod-lt n (omega arith)

  -- The outstanding query, with a genuine reply to it.
  record Asked (s : State) : Type 0 where
    query : Msg
    asked : outstanding s ≡ some query
    of : session_of query ≡ session
    small : Valid query
    replies : IsReply σ string query (answer_to σ string query)

  asked_in : (still : ℕ) (s : State) (m : Lent) → Stage σ string own n still s m → running s ≡ true → Asked s
  unfolding session_of
  asked_in still s m (starts p) runs =
      record {
        query = opening_query session;
        asked = ap outstanding p.is ∙ starts_asks σ string own n given.sender (theirs_apart σ m₀ n set-up string given) given.difference;
        of = refl;
        small = valid_opening_query session session_small;
        replies = opening_replies σ string session;
      }
  asked_in still s m (pends p) runs =
      let c = p.top in
      let deep = blocks_shallow σ string c (unfold Every in p.holding.real.0) in
      record {
        query = node_query session c.level (id_of_block c.bytes);
        asked = ap outstanding p.is ∙ pends_asks σ string own n given.sender (theirs_apart σ m₀ n set-up string given) given.difference p;
        of = refl;
        small = valid_node_query session c.level (id_of_block c.bytes) session_small (omega (arith, deep, low σ string own n given.sender)) (block_id_small c.bytes);
        replies = query_replies σ string session c.level (id_of_block c.bytes);
      }
  asked_in still s m (closed e) runs = absurd (both runs (closed_idle s e))

  genuine_reply : {s : State} (a : Asked s) → GenuineReply σ string session a.query (encode (answer_to σ string a.query))
  genuine_reply a =
      record {
        settings = σ;
        sender = string;
        message = answer_to σ string a.query;
        setup = given.sender;
        asked = a.small;
        replies = a.replies;
        written = refl;
        serves = λ e. (refl, refl);
      }

  -- More replies may come in a stage than will.
  stage_more : {less more : ℕ} {s : State} {m : Lent} → less ≤ more → Stage σ string own n less s m → Stage σ string own n more s m
  stage_more h (starts p) = starts (record { is = p.is; memory = p.memory; cells = p.cells; count = omega (arith, h, p.count) })
  stage_more h (pends p) =
      pends (record {
        top = p.top;
        rest = p.rest;
        built = p.built;
        taken = p.taken;
        is = p.is;
        front = p.front;
        holding = p.holding;
        memory = p.memory;
        count = omega (arith, h, p.count);
      })
  stage_more h (closed e) = closed e

  stage_some : (s : State) (m : Lent) → Stage σ string own n 0 s m → running s ≡ true → ⊥
  stage_some s m (starts p) runs = omega (arith, p.count)
  stage_some s m (pends p) runs = omega (arith, p.count, room_left σ string p.holding)
  stage_some s m (closed e) runs = both runs (closed_idle s e)

  -- The calls from a stage on.
  record Going (still k : ℕ) (s : State) (m : Lent) : Type 0 where
    calls : List Call
    few : length calls ≤ still
    chained : Chained m (events k s calls)
    genuine : Every (λ (e : Event). TakesGenuine σ string session e.call) (events k s calls)
    handed : Some HandsSome (events k s calls)

  first_call : (still k : ℕ) (s : State) (m : Lent) (bytes : List ℕ) → Genuine σ string session bytes
      → Accepts σ string own n given.sender (theirs_apart σ m₀ n set-up string given) given.difference (suc still) (take_message s m bytes)
      → (running (take_message s m bytes).state ≡ true
      → Going still (counting (accepts (event k s (takes m bytes))) k) (take_message s m bytes).state (take_message s m bytes).lent)
      → Going (suc still) k s m
  unfolding events Every Some Chained LentTo left_by TakesGenuine step
  first_call still k s m bytes genuine accepts-it rest =
      either (hands (take_message s m bytes).answer)
      (λ e. record { calls = takes m bytes ∷ []; few = omega arith; chained = (refl, tt); genuine = (genuine, tt); handed = inl e })
      (λ e.
      let after = rest (accepts-it.outcome.alive e) in
      record {
        calls = takes m bytes ∷ after.calls;
        few = omega (arith, after.few);
        chained = (refl, after.chained);
        genuine = (genuine, after.genuine);
        handed = inr after.handed;
      })

  goes : (still k : ℕ) (s : State) (m : Lent) → Stage σ string own n still s m → running s ≡ true → Going still k s m
  goes zero k s m stage runs = absurd (stage_some s m stage runs)
  goes (suc still) k s m stage runs =
      let a = asked_in (suc still) s m stage runs in
      let bytes = encode (answer_to σ string a.query) in
      let c = takes m bytes in
      let delivered : DeliveredTo σ string session s bytes = record { query = a.query; asked = a.asked; reply = genuine_reply a } in
      let accepts-it = delivered_accepted σ string own n given.sender (theirs_apart σ m₀ n set-up string given) given.difference (suc still) s m bytes stage delivered in
      let genuine : Genuine σ string session bytes = record { query = a.query; reply = genuine_reply a } in
      first_call still k s m bytes genuine accepts-it
      (λ next. goes still (counting (accepts (event k s c)) k) (take_message s m bytes).state (take_message s m bytes).lent
      (stage_more (omega (arith, accepts-it.fewer)) accepts-it.outcome.stage) next)

  pub progress : Progress σ m₀ string n
  progress =
      let g = goes (suc (length (nodes_of σ string))) 0 (initial σ n) (left_by_setup σ m₀) (starts (the_start σ m₀ n set-up string given)) (session_runs σ n) in
      record {
        calls = g.calls;
        few = g.few;
        conditions = record { ends = given; chained = g.chained; genuine = g.genuine };
        handed = handed_string σ m₀ n set-up string given g.calls g.chained g.genuine g.handed;
      }
