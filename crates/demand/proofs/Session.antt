-- A session between two ends that are both at hand goes through: each round delivers a genuine reply while its query is outstanding, so it is
-- accepted, and fewer are still to come. There are at most as many as the sender's tree has nodes, and the opening.
use mathlib.Core.Bool.{true}
use mathlib.Core.List.{List}
use mathlib.Core.Logic.{◌⊎◌, inl, inr, ⊎_elim}
use mathlib.Core.Option.{some}
use mathlib.Core.Path.{◌≡◌, refl, sym, ap, subst, ◌∙◌}
use Prim.Native.Nat.{ℕ, zero, suc, ◌+◌, ◌%◌, ◌^◌, ◌≤◌, ◌<◌}
use native.Mathlib.Nat.{mod-lt}
use native.Mathlib.Omega.{arith}
use lib.ListN.{length, take}
use lib.Seq.{length-take-le}
use borrow.Author.Tests.{eq-eqb, ne_eqb}
use Rattle.entries.proofs.Linear.{both}
use Rattle.fnv.specs.Fnv.{id_of_block}
use Rattle.fnv.proofs.Fnv.{block_id_small}
use Rattle.tree.specs.declared.Settings.{Settings}
use Rattle.tree.specs.Laws.{Content}
use Rattle.message.specs.Messages.{Msg, opening_query, node_query, encode}
use Rattle.protocol.specs.Lent.{Lent, refused_by}
use Rattle.protocol.specs.State.{State, initial, going, running, outstanding}
use Rattle.protocol.specs.Sender.{reply_to}
use Rattle.protocol.specs.Receiver.{Answer, refused, waiting, handed, wrote, number_of, Result, take_message}
use Rattle.protocol.specs.Calls.{goes_on, Every}
use Rattle.protocol.specs.Genuine.{blocks_of}
use Rattle.protocol.specs.Demand.{SetupAccepts, left_by_setup, In, DeliveredTo, Ends}
use Rattle.protocol.proofs.Cases.{size_in}
use Rattle.protocol.proofs.Exactly.{hands}
use Rattle.protocol.proofs.Blocks.{blocks_shallow}
use Rattle.protocol.proofs.Stages.{Stage, starts, pends, closed}
use Rattle.protocol.proofs.Memory.{asks}
use Rattle.protocol.proofs.Accepting.{low}
use Rattle.protocol.proofs.Session.{Accepts, delivered_accepted, starts_asks, pends_asks, closed_idle, session_runs}
use Rattle.protocol.proofs.Own.{replies_genuine}
use Rattle.protocol.proofs.Demand.{theirs_apart, the_start}
use Rattle.session.specs.Session.{Standing, standing, after, round, rounds, refused_at, filled, session_between}
use Rattle.demand.specs.Session.{HandedOver, GoesThrough, RunGoesThrough}
use Rattle.demand.proofs.Answers.{told_take}
use Rattle.demand.proofs.Sizes.{reply_fits}
use Rattle.demand.proofs.Round.{put, put_long, Query, opening_query_lem, node_query_lem, round_is}

-- An accepted reply leaves the session waiting, or hands over.
how_it_goes : (a : Answer) → goes_on a ≡ true → (a ≡ waiting) ⊎ (a ≡ handed (size_in a))
unfolding goes_on size_in
how_it_goes (refused k) e = absurd (both e refl)
how_it_goes waiting e = inl refl
how_it_goes (handed n) e = inr refl
how_it_goes (wrote n) e = absurd (both e refl)

-- A round that answers something else than 0 is the last.
rounds_stop : (budget : ℕ) (σ : Settings) (theirs : Lent) (now : Standing) → (now.answer ≡ 0 → ⊥) → rounds budget σ theirs now ≡ now
unfolding rounds
rounds_stop zero σ theirs now last = refl
rounds_stop (suc budget) σ theirs now last = rw (ne_eqb now.answer 0 last) refl

-- An accepted setup fills the tables.
filled_is : (σ : Settings) (m : Lent) → SetupAccepts σ m → filled σ m ≡ left_by_setup σ m
unfolding filled refused_at
filled_is σ m yes-m = rw yes-m refl

-- Two ends that were set up, and a size of buffer that holds every reply of the sender.
module _ (σ : Settings) (n : ℕ) (sender receiver : Lent) (yes-sender : SetupAccepts σ sender) (yes-receiver : SetupAccepts σ receiver)
    (given : Ends σ receiver sender.string)
    (size : ℕ) (fits : (query x : Msg) → reply_to σ (left_by_setup σ sender) query ≡ some x → length (encode x) ≤ size) where
  abbrev string : List ℕ
  string = sender.string

  abbrev own : List ℕ
  own = receiver.string

  abbrev theirs : Lent
  theirs = left_by_setup σ sender

  abbrev session : ℕ
  session = n % 2 ^ 24

  abbrev apart : (a b : Content) → In a (blocks_of σ string) → In b (blocks_of σ string) → id_of_block a.bytes ≡ id_of_block b.bytes → a.bytes ≡ b.bytes
  apart = theirs_apart σ receiver n yes-receiver string given

  abbrev StageOf : ℕ → State → Lent → Type 0
  StageOf still s m = Stage σ string own n still s m

  abbrev AcceptsOf : ℕ → Result → Type 0
  AcceptsOf still r = Accepts σ string own n given.sender apart given.difference still r

  session_small : session < 2 ^ 24
  session_small = mod-lt n (omega arith)

  -- The outstanding query, of a receiver that no question refuses.
  record Asks (s : State) (m : Lent) : Type 0 where
    query : Msg
    asked : outstanding s ≡ some query
    allowed : refused_by s.settings m ≡ 0
    known : Query σ theirs query

  asks_in : (still : ℕ) (s : State) (m : Lent) → StageOf still s m → running s ≡ true → Asks s m
  asks_in still s m (starts p) runs =
      record {
        query = opening_query session;
        asked = ap outstanding p.is ∙ starts_asks σ string own n given.sender apart given.difference;
        allowed = ap (λ (t : State). refused_by t.settings m) p.is ∙ (unfold initial in p.memory.asks);
        known = opening_query_lem σ theirs session session_small;
      }
  asks_in still s m (pends p) runs =
      let c = p.top in
      let deep = blocks_shallow σ string c (unfold Every in p.holding.real.0) in
      record {
        query = node_query session c.level (id_of_block c.bytes);
        asked = ap outstanding p.is ∙ pends_asks σ string own n given.sender apart given.difference p;
        allowed = ap (λ (t : State). refused_by t.settings m) p.is ∙ (unfold going initial in p.memory.asks);
        known = node_query_lem σ theirs session c.level (id_of_block c.bytes) session_small (omega (arith, deep, low σ string own n given.sender))
            (block_id_small c.bytes);
      }
  asks_in still s m (closed e) runs = absurd (both runs (closed_idle s e))

  -- A round takes a reply that is accepted.
  record Exchange (still : ℕ) (s : State) (m : Lent) (buffer : List ℕ) : Type 0 where
    bytes : List ℕ
    left : List ℕ
    long : length left ≡ size
    is : round σ theirs s m buffer ≡ after (take_message s m bytes) left
    accepted : AcceptsOf still (take_message s m bytes)

  exchange : (still : ℕ) (s : State) (m : Lent) (buffer : List ℕ) → StageOf still s m → running s ≡ true → length buffer ≡ size
      → Exchange still s m buffer
  exchange still s m buffer stage runs long =
      let a = asks_in still s m stage runs in
      let x = a.known.reply in
      let room : length (encode x) ≤ length buffer = omega (arith, long, fits a.query x a.known.replies) in
      let delivered : DeliveredTo σ string session s (encode x) =
      record {
        query = a.query;
        asked = a.asked;
        reply = record {
          settings = σ;
          sender = string;
          message = x;
          setup = given.sender;
          asked = a.known.fields;
          replies = replies_genuine σ sender yes-sender a.query x a.known.replies;
          written = refl;
          serves = λ e. (refl, refl);
        };
      } in
      record {
        bytes = encode x;
        left = (put (encode x) buffer).buffer;
        long = put_long (encode x) buffer room ∙ long;
        is = round_is σ theirs s m buffer a.query a.known a.asked a.allowed (asks σ sender yes-sender) room;
        accepted = delivered_accepted σ string own n given.sender apart given.difference still s m (encode x) stage delivered;
      }

  -- Where the session then stands: the string is handed over.
  abbrev Through : Standing → Type 0
  Through now = HandedOver string now.answer now.lent.output

  -- Once the reply hands over there is no further round. If it does not, what is left of the rounds decides.
  module _ (budget still : ℕ) (s : State) (m : Lent) (buffer : List ℕ) (x : Exchange still s m buffer) where
    abbrev R : Result
    R = take_message s m x.bytes

    hands_over : (k : ℕ) → R.answer ≡ handed k → Through (rounds budget σ theirs (after R x.left))
    unfolding number_of
    hands_over k e =
        let front : take k R.lent.output ≡ string = x.accepted.outcome.whole k e in
        let long : k ≡ length string = sym (length-take-le k R.lent.output ((told_take s m x.bytes).holds k e)) ∙ ap length front in
        let answer : number_of R.answer ≡ 2 ^ 32 + k = ap number_of e in
        subst Through (sym (rounds_stop budget σ theirs (after R x.left) (λ z. omega (arith, answer, z)))) (record {
          length_is = answer ∙ ap (λ (j : ℕ). 2 ^ 32 + j) long;
          bytes_are = ap (λ (j : ℕ). take j R.lent.output) (sym long) ∙ front;
        })

    first_round : (running R.state ≡ true → Through (rounds budget σ theirs (standing 0 R.state R.lent x.left)))
        → Through (rounds (suc budget) σ theirs (standing 0 s m buffer))
    unfolding rounds number_of hands
    first_round rest =
        subst (λ (now : Standing). Through (rounds budget σ theirs now)) (sym x.is)
        (⊎_elim
        (λ e. subst (λ (k : ℕ). Through (rounds budget σ theirs (standing k R.state R.lent x.left))) (sym (ap number_of e))
        (rest (x.accepted.outcome.alive (ap hands e))))
        (hands_over _)
        (how_it_goes R.answer x.accepted.outcome.goes))

  -- As many rounds as replies are still to come are enough.
  through : (budget still : ℕ) (s : State) (m : Lent) (buffer : List ℕ) → still ≤ budget → StageOf still s m → running s ≡ true
      → length buffer ≡ size → Through (rounds budget σ theirs (standing 0 s m buffer))
  through zero still s m buffer enough stage runs long =
      absurd (omega (arith, enough, (exchange still s m buffer stage runs long).accepted.fewer))
  through (suc budget) still s m buffer enough stage runs long =
      let x = exchange still s m buffer stage runs long in
      let r = take_message s m x.bytes in
      first_round budget still s m buffer x
      (λ next. through budget x.accepted.less r.state r.lent x.left (omega (arith, enough, x.accepted.fewer))
      x.accepted.outcome.stage next x.long)

pub goes_through : GoesThrough
unfolding session_between refused_at
goes_through σ n sender receiver buffer ready =
    let ours = ready.receiver_accepted in
    let theirs = ready.sender_accepted in
    let given = ready.ends in
    rw (eq-eqb _ 0 theirs, eq-eqb _ 0 ours, filled_is σ sender theirs, filled_is σ receiver ours)
    (through σ n sender receiver theirs ours given (length buffer)
    (reply_fits σ (left_by_setup σ sender) given.sender.questions (length buffer) ready.opening_fits ready.literal_fits)
    _ _ (initial σ n) (left_by_setup σ receiver) buffer (omega (arith, given.sender.few))
    (starts (the_start σ receiver n ours sender.string given)) (session_runs σ n) refl)

pub run_goes_through : RunGoesThrough
run_goes_through σ n sender sender' receiver receiver' buffer buffer' r ready ran =
    let whole = goes_through σ n sender receiver buffer ready in
    record {
      length_is = ran.receiver.answer ∙ whole.length_is;
      bytes_are = ap (λ (m : Lent). take (length sender.string) m.output) ran.receiver.memory ∙ whole.bytes_are;
    }
