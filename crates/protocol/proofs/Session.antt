-- A session between genuine ends, call by call: a genuine message is a delivered reply and is accepted, or it is refused and changes
-- nothing. So every list of such calls keeps the laws of `Exactly`.
use mathlib.Core.Bool.{Bool, true, false, cond}
use mathlib.Core.List.{List, [], ◌∷◌}
use mathlib.Core.Logic.{◌⊎◌, inl, inr, ⊎_elim}
use mathlib.Core.Option.{none, some}
use mathlib.Core.Path.{◌≡◌, refl, sym, ap, subst, ◌∙◌}
use Prim.Native.Nat.{ℕ, suc, ◌-◌, ◌%◌, ◌^◌, ◌≤◌}
use native.Mathlib.Omega.{arith}
use lib.Dec.{eqb}
use lib.ListN.{length, take}
use borrow.Author.Tests.{eq-eqb}
use Rattle.partition.specs.Cuts.{rule_number}
use Rattle.entries.proofs.Linear.{both}
use Rattle.fnv.specs.Fnv.{id_of_block}
use Rattle.tree.specs.declared.Settings.{Settings}
use Rattle.tree.specs.Tree.{nodes_of}
use Rattle.tree.specs.Laws.{Content}
use Rattle.sketch.specs.Cells.{cells_of}
use Rattle.setup.specs.Tables.{shingles_of_string}
use Rattle.message.specs.Messages.{Msg, opening_query, node_query, opening, parse}
use Rattle.message.proofs.Messages.{parse-encode}
use Rattle.protocol.specs.Lent.{Lent, refused_by}
use Rattle.protocol.specs.State.{State, ended, initial, going, live, shallow, query_of, running, outstanding}
use Rattle.protocol.specs.Receiver.{handed, Result, unchanged, session_of, fits, matches, act, hear, take_message}
use Rattle.protocol.specs.Calls.{Call, takes, writes, step, goes_on, Event, event, accepts, counting, events, Every, accepted}
use Rattle.protocol.specs.Genuine.{blocks_of, Accepted, IsReply, GenuineReply, Genuine}
use Rattle.protocol.specs.Demand.{In, OpensToDifference, LentTo, left_by, Chained, TakesGenuine, DeliveredTo, DeliveredBy, Delivered}
use Rattle.protocol.proofs.Cases.{either, refused_not, wrote_not, same_message, no_message}
use Rattle.protocol.proofs.Exactly.{hands, Lawful}
use Rattle.protocol.proofs.Matching.{reply_fits, only_opening, only_node}
use Rattle.protocol.proofs.Pending.{room_left}
use Rattle.protocol.proofs.Stages.{state_of, Pends, Starts, Stage, starts, pends, closed, Outcome, still_running}
use Rattle.protocol.proofs.Accepting.{low, opening_accepted, node_accepted}
use Rattle.protocol.proofs.Renewed.{new_is_theirs}
use Rattle.protocol.proofs.Tables.{list_read, list_long}
use Rattle.protocol.proofs.Valid.{valid_reply}

-- The sender's opening.
abbrev opening_of : Settings → List ℕ → ℕ → Msg
opening_of σ string session =
    opening session rule_number σ.window σ.fan_out σ.levels σ.nominal σ.width (length string) (id_of_block string)
    (cells_of σ.width (shingles_of_string σ string))

opening_is : (σ : Settings) (string : List ℕ) (n : ℕ) (m : Msg) → IsReply σ string (opening_query n) m → m ≡ opening_of σ string n
unfolding IsReply
opening_is σ string n m r = r

-- A session that has ended refuses everything.
pub closed_idle : (s : State) → s.phase ≡ ended → running s ≡ false
unfolding running live
closed_idle s e = rw e refl

pub idle_take : (s : State) (m : Lent) (bytes : List ℕ) → running s ≡ false → (k : ℕ) × (take_message s m bytes ≡ unchanged k s m)
unfolding take_message
idle_take s m bytes e = go (eqb (refused_by s.settings m) 0)
  where
    go : (t : Bool)
        → (k : ℕ) × (cond t (cond (running s) (hear s m (parse bytes)) (unchanged 9 s m)) (unchanged (refused_by s.settings m) s m) ≡ unchanged k s m)
    go true = (9, rw e refl)
    go false = (refused_by s.settings m, refl)

-- A session runs from its setup on.
pub session_runs : (σ : Settings) (n : ℕ) → running (initial σ n) ≡ true
unfolding running initial live shallow
session_runs σ n = refl

-- A message that is read, by a session that runs.
module _ (s : State) (m : Lent) (bytes : List ℕ) (x query : Msg) (asks : refused_by s.settings m ≡ 0) (runs : running s ≡ true)
    (read : parse bytes ≡ some x) (asked : outstanding s ≡ some query) where
  heard : take_message s m bytes ≡ cond (fits query x) (act s m x) (unchanged 11 s m)
  unfolding take_message hear matches
  heard = rw (eq-eqb _ 0 asks, runs, read, asked) refl

  heard_fitting : fits query x ≡ true → take_message s m bytes ≡ act s m x
  heard_fitting e = heard ∙ rw e refl

  heard_other : fits query x ≡ false → take_message s m bytes ≡ unchanged 11 s m
  heard_other e = heard ∙ rw e refl

module _ (σ : Settings) (string own : List ℕ) (n : ℕ) (sender : Accepted σ string)
    (apart : (a b : Content) → In a (blocks_of σ string) → In b (blocks_of σ string) → id_of_block a.bytes ≡ id_of_block b.bytes → a.bytes ≡ b.bytes)
    (difference : OpensToDifference σ own string) where
  abbrev session : ℕ
  session = n % 2 ^ 24

  -- What is read of a genuine reply.
  read_reply : {query : Msg} {bytes : List ℕ} (g : GenuineReply σ string session query bytes) → parse bytes ≡ some g.message
  read_reply {query} g =
      rw g.written (parse-encode g.message (valid_reply g.settings g.sender query g.message g.setup g.asked g.replies))

  own_reply : {query : Msg} {bytes : List ℕ} (g : GenuineReply σ string session query bytes) → session_of query ≡ session → IsReply σ string query g.message
  own_reply {query} g e =
      let same = g.serves e in
      subst (λ (τ : Settings). IsReply τ string query g.message) same.0
      (subst (λ (t : List ℕ). IsReply g.settings t query g.message) same.1 g.replies)

  -- What is outstanding.
  pub starts_asks : outstanding (initial σ n) ≡ some (opening_query session)
  unfolding outstanding running initial live query_of shallow
  starts_asks = refl

  pub pends_asks : {still : ℕ} {s : State} {m : Lent} (p : Pends σ string own n still s m)
      → outstanding (state_of σ string own n p.built p.taken (p.top ∷ p.rest)) ≡ some (node_query session p.top.level (id_of_block p.top.bytes))
  unfolding outstanding going initial query_of
  pends_asks p = rw (still_running σ string own n (low σ string own n sender) p.holding) refl

  -- A delivered reply is accepted, and one fewer will be after it.
  pub record Accepts (still : ℕ) (r : Result) : Type 0 where
    pub less : ℕ
    pub fewer : suc less ≤ still
    pub outcome : Outcome σ string own n less r

  starts_accepts : (still : ℕ) (s : State) (m : Lent) (bytes : List ℕ) → Starts σ string own n still s m → DeliveredTo σ string session s bytes
      → Accepts still (take_message s m bytes)
  starts_accepts still s m bytes p d =
      let asked : outstanding s ≡ some (opening_query session) = ap outstanding p.is ∙ starts_asks in
      let which : d.query ≡ opening_query session = same_message (sym d.asked ∙ asked) in
      let g = subst (λ (q : Msg). GenuineReply σ string session q bytes) which d.reply in
      let r = own_reply g (unfold session_of in refl) in
      let runs : running s ≡ true = ap running p.is ∙ session_runs σ n in
      let asks : refused_by s.settings m ≡ 0 = ap (λ (t : State). refused_by t.settings m) p.is ∙ (unfold initial in p.memory.asks) in
      let through = heard_fitting s m bytes g.message (opening_query session) asks runs (read_reply g) asked (reply_fits σ string (opening_query session) g.message r) in
      let is = opening_is σ string session g.message r in
      let acts : take_message s m bytes ≡ act (initial σ n) m (opening_of σ string session) = through ∙ (λ i. act (p.is i) m (is i)) in
      record {
        less = length (nodes_of σ string);
        fewer = p.count;
        outcome = subst (λ (r : Result). Outcome σ string own n (length (nodes_of σ string)) r) (sym acts)
            (opening_accepted σ string own n sender difference.opens (new_is_theirs σ own string difference)
            (list_read σ string (low σ string own n sender) sender.few) (list_long σ string (low σ string own n sender) sender.few) m p.memory p.cells session);
      }

  pends_accepts : (still : ℕ) (s : State) (m : Lent) (bytes : List ℕ) → Pends σ string own n still s m → DeliveredTo σ string session s bytes
      → Accepts still (take_message s m bytes)
  pends_accepts still s m bytes p d =
      let c = p.top in
      let query = node_query session c.level (id_of_block c.bytes) in
      let asked : outstanding s ≡ some query = ap outstanding p.is ∙ pends_asks p in
      let which : d.query ≡ query = same_message (sym d.asked ∙ asked) in
      let g = subst (λ (q : Msg). GenuineReply σ string session q bytes) which d.reply in
      let r = own_reply g (unfold session_of in refl) in
      let runs : running s ≡ true = ap running p.is ∙ still_running σ string own n (low σ string own n sender) p.holding in
      let asks : refused_by s.settings m ≡ 0 = ap (λ (t : State). refused_by t.settings m) p.is ∙ (unfold going initial in p.memory.asks) in
      let through = heard_fitting s m bytes g.message query asks runs (read_reply g) asked (reply_fits σ string query g.message r) in
      let few = room_left σ string p.holding in
      let acts : take_message s m bytes ≡ act (state_of σ string own n p.built p.taken (c ∷ p.rest)) m g.message = through ∙ ap (λ (t : State). act t m g.message) p.is in
      record {
        less = still - 1;
        fewer = omega (arith, p.count, few);
        outcome = subst (λ (r : Result). Outcome σ string own n (still - 1) r) (sym acts)
            (node_accepted σ string own n sender apart (still - 1) m p.memory c p.rest p.built p.taken p.front p.holding
            (omega (arith, p.count, few)) session g.message r);
      }

  no_query : (s : State) → s.phase ≡ ended → outstanding s ≡ none
  unfolding outstanding
  no_query s e = rw (closed_idle s e) refl

  pub delivered_accepted : (still : ℕ) (s : State) (m : Lent) (bytes : List ℕ) → Stage σ string own n still s m → DeliveredTo σ string session s bytes
      → Accepts still (take_message s m bytes)
  delivered_accepted still s m bytes (starts p) d = starts_accepts still s m bytes p d
  delivered_accepted still s m bytes (pends p) d = pends_accepts still s m bytes p d
  delivered_accepted still s m bytes (closed e) d = absurd (no_message (sym (no_query s e) ∙ d.asked))

  -- A genuine message is delivered to the query outstanding, or it is refused and changes nothing.
  abbrev Ignored : State → Lent → List ℕ → Type 0
  Ignored s m bytes = (k : ℕ) × (take_message s m bytes ≡ unchanged k s m)

  genuine_heard : (still : ℕ) (s : State) (m : Lent) (bytes : List ℕ) → Stage σ string own n still s m → Genuine σ string session bytes
      → DeliveredTo σ string session s bytes ⊎ Ignored s m bytes
  genuine_heard still s m bytes (closed e) g = inr (idle_take s m bytes (closed_idle s e))
  genuine_heard still s m bytes (starts p) g =
      let asked : outstanding s ≡ some (opening_query session) = ap outstanding p.is ∙ starts_asks in
      let runs : running s ≡ true = ap running p.is ∙ session_runs σ n in
      let asks : refused_by s.settings m ≡ 0 = ap (λ (t : State). refused_by t.settings m) p.is ∙ (unfold initial in p.memory.asks) in
      let x = g.reply.message in
      either (fits (opening_query session) x)
      (λ e. inl (record {
        query = opening_query session;
        asked = asked;
        reply = subst (λ (q : Msg). GenuineReply σ string session q bytes)
            (only_opening g.reply.settings g.reply.sender g.query x session g.reply.replies e) g.reply;
      }))
      (λ e. inr (11, heard_other s m bytes x (opening_query session) asks runs (read_reply g.reply) asked e))
  genuine_heard still s m bytes (pends p) g =
      let c = p.top in
      let query = node_query session c.level (id_of_block c.bytes) in
      let asked : outstanding s ≡ some query = ap outstanding p.is ∙ pends_asks p in
      let runs : running s ≡ true = ap running p.is ∙ still_running σ string own n (low σ string own n sender) p.holding in
      let asks : refused_by s.settings m ≡ 0 = ap (λ (t : State). refused_by t.settings m) p.is ∙ (unfold going initial in p.memory.asks) in
      let x = g.reply.message in
      either (fits query x)
      (λ e. inl (record {
        query = query;
        asked = asked;
        reply = subst (λ (q : Msg). GenuineReply σ string session q bytes)
            (only_node g.reply.settings g.reply.sender g.query x session c.level (id_of_block c.bytes) g.reply.replies e) g.reply;
      }))
      (λ e. inr (11, heard_other s m bytes x query asks runs (read_reply g.reply) asked e))

  -- The laws of one call, and the stage that it leads to.
  record Kept (still : ℕ) (e : Event) (m : Lent) : Type 0 where
    law : Lawful (Delivered σ string session) e
    next : accepts e ≡ true → (less : ℕ) × (suc less ≤ still) × Stage σ string own n less e.result.state (left_by m e.call e.result.lent)
    same : accepts e ≡ false → Stage σ string own n still e.result.state (left_by m e.call e.result.lent)
    whole : (size : ℕ) → e.result.answer ≡ handed size → take size e.result.lent.output ≡ string

  refused_goes : (k : ℕ) (s : State) (m : Lent) → goes_on (unchanged k s m).answer ≡ false
  unfolding unchanged goes_on
  refused_goes k s m = refl

  module _ (still k : ℕ) (s : State) (m : Lent) (bytes : List ℕ) (stage : Stage σ string own n still s m) (g : Genuine σ string session bytes) where
    abbrev here : Event
    here = event k s (takes m bytes)

    not_idle : DeliveredTo σ string session s bytes → running s ≡ false → ⊥
    unfolding outstanding
    not_idle d e = no_message (rw e at d.asked)

    take_delivered : DeliveredTo σ string session s bytes → Kept still here m
    unfolding accepts step left_by DeliveredBy
    take_delivered d =
        let a = delivered_accepted still s m bytes stage d in
        record {
          law = record {
            same = λ e. absurd (both a.outcome.goes e);
            sound = λ e. d;
            complete = λ d. a.outcome.goes;
            alive = λ e f. a.outcome.alive f;
            dead = λ f. (a.outcome.goes, a.outcome.dead f);
            idle = λ e. absurd (not_idle d e);
          };
          next = λ e. (a.less, a.fewer, a.outcome.stage);
          same = λ e. absurd (both a.outcome.goes e);
          whole = a.outcome.whole;
        }

    take_ignored : Ignored s m bytes → Kept still here m
    unfolding accepts step left_by DeliveredBy unchanged hands
    take_ignored i =
        let not-accepted : goes_on (take_message s m bytes).answer ≡ false = ap (λ (r : Result). goes_on r.answer) i.1 ∙ refused_goes i.0 s m in
        let state : (take_message s m bytes).state ≡ s = ap (λ (r : Result). r.state) i.1 in
        let left : (take_message s m bytes).lent ≡ m = ap (λ (r : Result). r.lent) i.1 in
        let answer = ap (λ (r : Result). r.answer) i.1 in
        record {
          law = record {
            same = λ e. state;
            sound = λ e. absurd (both e not-accepted);
            complete = λ d. absurd (both (delivered_accepted still s m bytes stage d).outcome.goes not-accepted);
            alive = λ e f. absurd (both e not-accepted);
            dead = λ f. absurd (both f (ap hands answer));
            idle = λ e. not-accepted;
          };
          next = λ e. absurd (both e not-accepted);
          same = λ e. rw (state, left) stage;
          whole = λ size e. absurd (refused_not (sym answer ∙ e));
        }

    take_kept : Kept still here m
    take_kept = ⊎_elim take_delivered take_ignored (genuine_heard still s m bytes stage g)

  write_kept : (still k : ℕ) (s : State) (m m' : Lent) (buffer : List ℕ) → Stage σ string own n still s m → Kept still (event k s (writes m' buffer)) m
  unfolding accepts step left_by DeliveredBy goes_on hands
  write_kept still k s m m' buffer stage =
      record {
        law = record {
          same = λ e. refl;
          sound = λ e. absurd (both e refl);
          complete = λ d. absurd d;
          alive = λ e f. absurd (both e refl);
          dead = λ f. absurd (both f refl);
          idle = λ e. refl;
        };
        next = λ e. absurd (both e refl);
        same = λ e. stage;
        whole = λ size e. absurd (wrote_not e);
      }

  call_kept : (still k : ℕ) (s : State) (m : Lent) (c : Call) → Stage σ string own n still s m → LentTo m c → TakesGenuine σ string session c
      → Kept still (event k s c) m
  unfolding LentTo TakesGenuine
  call_kept still k s m (takes m' bytes) stage lent g = rw lent (take_kept still k s m bytes stage g)
  call_kept still k s m (writes m' buffer) stage lent g = write_kept still k s m m' buffer stage

  one_more : (t : Bool) {x still : ℕ} → t ≡ true → suc x ≤ still → counting t x ≤ still
  unfolding counting
  one_more true e h = h
  one_more false e h = absurd (both e refl)

  no_more : (t : Bool) {x still : ℕ} → t ≡ false → x ≤ still → counting t x ≤ still
  unfolding counting
  no_more true e h = absurd (both refl e)
  no_more false e h = h

  -- Every call of a list.
  pub record AllKept (still : ℕ) (es : List Event) : Type 0 where
    pub laws : Every (Lawful (Delivered σ string session)) es
    pub few : accepted es ≤ still
    pub whole : Every (λ (e : Event). (size : ℕ) → e.result.answer ≡ handed size → take size e.result.lent.output ≡ string) es

  pub all_kept : (still k : ℕ) (s : State) (m : Lent) (cs : List Call) → Stage σ string own n still s m → Chained m (events k s cs)
      → Every (λ (e : Event). TakesGenuine σ string session e.call) (events k s cs) → AllKept still (events k s cs)
  unfolding events Every Chained accepted
  all_kept still k s m [] stage chain genuine = record { laws = tt; few = omega arith; whole = tt }
  all_kept still k s m (c ∷ cs) stage chain genuine =
      let e = event k s c in
      let kept = call_kept still k s m c stage chain.0 genuine.0 in
      go (accepts e) refl kept
      (λ less at. all_kept less (counting (accepts e) k) (step s c).state (left_by m c (step s c).lent) cs at chain.1 genuine.1)
    where
      go : (t : Bool) → accepts (event k s c) ≡ t → Kept still (event k s c) m
          → ((less : ℕ) → Stage σ string own n less (step s c).state (left_by m c (step s c).lent) → AllKept less (events (counting (accepts (event k s c)) k) (step s c).state cs))
          → AllKept still (event k s c ∷ events (counting (accepts (event k s c)) k) (step s c).state cs)
      go true e kept rest =
          unfold Every accepted in
          let next = kept.next e in
          let after = rest next.0 next.2 in
          record { laws = (kept.law, after.laws); few = one_more (accepts (event k s c)) e (omega (arith, after.few, next.1)); whole = (kept.whole, after.whole) }
      go false e kept rest =
          unfold Every accepted in
          let after = rest still (kept.same e) in
          record { laws = (kept.law, after.laws); few = no_more (accepts (event k s c)) e after.few; whole = (kept.whole, after.whole) }
