-- Demand 3 of document 00, both halves, as one statement about every list of receiver calls. Each condition is a definition of its own.
use Rattle.std.specs.Prelude.{true, false, not, ◌&&◌, List, [], ◌∷◌, ◌++◌, ◌≡◌, ℕ, suc, ◌%◌, ◌^◌, ◌≤◌, length}
use Rattle.std.proofs.Math.Option.{some}
use Rattle.fnv.specs.Fnv.{id_of_block}
use Rattle.tree.specs.declared.Settings.{Settings}
use Rattle.tree.specs.Tree.{nodes_of}
use Rattle.tree.specs.Laws.{Content}
use Rattle.shingle.specs.declared.Shingle.{Shingle}
use Rattle.shingle.specs.Table.{holds}
use Rattle.sketch.specs.Cells.{cells_of}
use Rattle.sketch.specs.Opening.{Peeled, taken_of, opens_to, positives, negatives}
use Rattle.setup.specs.Questions.{setup_refusal}
use Rattle.setup.specs.Tables.{shingles_of_string, node_front, shingle_front, cell_front, setup_table}
use Rattle.message.specs.Messages.{Msg, opening, parse}
use Rattle.protocol.specs.Lent.{Lent, lent}
use Rattle.protocol.specs.State.{State, unopened, initial, running, outstanding}
use Rattle.protocol.specs.Calls.{Call, takes, writes, Event, accepts, events, Every, Some, EveryPoint, accepted, HandsOver}
use Rattle.protocol.specs.Genuine.{blocks_of, Accepted, Genuine, GenuineReply}

-- "from an accepted setup": no question refuses what is lent to the receiver's setup, and these are the tables that it leaves. The output of
-- `m` is the one that the first call is lent.
abbrev pub SetupAccepts : Settings → Lent → Type 0
SetupAccepts σ m = setup_refusal σ m.string true m.nodes m.shingles m.cells ≡ 0

abbrev pub left_by_setup : Settings → Lent → Lent
left_by_setup σ m =
    lent m.string
    (setup_table 0 (node_front σ m.string) m.nodes)
    (setup_table 0 (shingle_front σ m.string) m.shingles)
    (setup_table 0 (cell_front σ m.string) m.cells)
    m.output

-- A message that announces the string's length and id. The sender's own opening does: "An opening announces the lent string's length
-- and the id of the node table's first entry."
pub record Announces (string message : List ℕ) : Type 0 where
  pub session : ℕ
  pub rule : ℕ
  pub settings : Settings
  pub cells : List ℕ
  pub is : parse message ≡ some (opening session rule settings.window settings.fan_out settings.levels settings.nominal
      settings.width (length string) (id_of_block string) cells)

-- "if the opening accepted was the sender's own": every event that accepts an opening took such a message.
unfoldable pub TakesOwn : List ℕ → Call → Type 0
TakesOwn string (takes m message) = Announces string message
TakesOwn string (writes m buffer) = ⊥

abbrev pub OpensWithOwn : List ℕ → Event → Type 0
OpensWithOwn string e = accepts e ≡ true → e.before.phase ≡ unopened → TakesOwn string e.call

-- "any string handed over has the length and id of the sender's"
abbrev pub HandsOverAlike : List ℕ → Event → Type 0
HandsOverAlike string e = (out : List ℕ) → HandsOver e out → (length out ≡ length string) × (id_of_block out ≡ id_of_block string)

-- The first half: "whatever messages were lost, repeated, late, reordered or forged and whatever the lent memory holds".
abbrev pub FirstHalf : List Event → Type 0
FirstHalf es = (string : List ℕ) → Every (OpensWithOwn string) es → Every (HandsOverAlike string) es

-- "no two different blocks of the two trees, roots included, share an id"
abbrev pub In : Content → List Content → Type 0
In c cs = Some (λ (x : Content). x ≡ c) cs

pub record NoCollision (cs : List Content) : Type 0 where
  pub apart : (a b : Content) → In a cs → In b cs → id_of_block a.bytes ≡ id_of_block b.bytes → a.bytes ≡ b.bytes

-- "the sketch opens to the true difference", which "is what the sender's shingle list has and the own lacks, as positive, and the
-- reverse, as negative".
abbrev pub taken_between : Settings → (own string : List ℕ) → Peeled
taken_between σ own string =
    taken_of σ.width σ.levels (cells_of σ.width (shingles_of_string σ string)) (cells_of σ.width (shingles_of_string σ own))

pub record OpensToDifference (σ : Settings) (own string : List ℕ) : Type 0 where
  pub opens : opens_to (shingles_of_string σ own) (taken_between σ own string) ≡ true
  pub positive : (s : Shingle) → holds s (positives (taken_between σ own string).taken)
      ≡ (holds s (shingles_of_string σ string) && not (holds s (shingles_of_string σ own)))
  pub negative : (s : Shingle) → holds s (negatives (taken_between σ own string).taken)
      ≡ (holds s (shingles_of_string σ own) && not (holds s (shingles_of_string σ string)))

-- "state and lent memory come back unaltered"; "own string, tables and output come as last left, the output first with any content". A call
-- that writes the query changes nothing of it, and may be lent anything. The state is passed on by `events` itself.
unfoldable pub LentTo : Lent → Call → Type 0
LentTo m (takes m' message) = m' ≡ m
LentTo m (writes m' buffer) = Unit {0}

unfoldable pub left_by : Lent → Call → Lent → Lent
left_by m (takes m' message) after = after
left_by m (writes m' buffer) after = m

unfoldable pub Chained : Lent → List Event → Type 0
Chained m [] = Unit {0}
Chained m (e ∷ es) = LentTo m e.call × Chained (left_by m e.call e.result.lent) es

-- "takes genuine messages only", and "each session number serves one string"
unfoldable pub TakesGenuine : Settings → List ℕ → ℕ → Call → Type 0
TakesGenuine σ string session (takes m message) = Genuine σ string session message
TakesGenuine σ string session (writes m buffer) = Unit {0}

-- "A reply is delivered while outstanding when it is a genuine reply to the words of the query outstanding just before, whenever it was
-- written."
pub record DeliveredTo (σ : Settings) (string : List ℕ) (session : ℕ) (s : State) (message : List ℕ) : Type 0 where
  pub query : Msg
  pub asked : outstanding s ≡ some query
  pub reply : GenuineReply σ string session query message

unfoldable pub DeliveredBy : Settings → List ℕ → ℕ → State → Call → Type 0
DeliveredBy σ string session s (takes m message) = DeliveredTo σ string session s message
DeliveredBy σ string session s (writes m buffer) = ⊥

abbrev pub Delivered : Settings → List ℕ → ℕ → Event → Type 0
Delivered σ string session e = DeliveredBy σ string session e.before e.call

-- "each query has had one so delivered", where "each query means every one outstanding at any point", and "After each accepted reply the
-- outstanding query counts as a new one, even in the same words": a query is known by the number of replies accepted before it.
abbrev pub EachQueryAnswered : Settings → List ℕ → ℕ → State → List Call → List Event → Type 0
EachQueryAnswered σ string session s cs es =
    EveryPoint (λ k t. running t ≡ true → Some (λ (e : Event). (e.count ≡ k) × Delivered σ string session e) es) 0 s cs

-- What the second half is owed under. Of the two ends: "both setups were accepted with equal settings, no two different blocks of the two
-- trees, roots included, share an id, the sketch opens to the true difference, the buffer holds the string".
pub record Ends (σ : Settings) (m : Lent) (string : List ℕ) : Type 0 where
  pub sender : Accepted σ string
  pub apart : NoCollision (blocks_of σ m.string ++ blocks_of σ string)
  pub difference : OpensToDifference σ m.string string
  pub room : length string ≤ length m.output

-- And of the calls: "state and lent memory come back unaltered, and each session number serves one string", with genuine messages only.
pub record Conditions (σ : Settings) (m : Lent) (string : List ℕ) (session : ℕ) (es : List Event) : Type 0 where
  pub ends : Ends σ m string
  pub chained : Chained (left_by_setup σ m) es
  pub genuine : Every (λ (e : Event). TakesGenuine σ string session e.call) es

-- What it owes: "each reply delivered while its query is outstanding is accepted, at most 4,097 replies are, and the sender's string is
-- handed over, and no other, exactly when each query has had one so delivered." The last two go beyond the demand: no other reply is
-- accepted, and a call that accepts none leaves the session where it was, so that no message out of turn costs a query its reply.
pub record Owed (σ : Settings) (string : List ℕ) (session : ℕ) (s : State) (cs : List Call) (es : List Event) : Type 0 where
  pub accepting : Every (λ (e : Event). Delivered σ string session e → accepts e ≡ true) es
  pub few : accepted es ≤ 4097
  pub no_other : Every (λ (e : Event). (out : List ℕ) → HandsOver e out → out ≡ string) es
  pub then : EachQueryAnswered σ string session s cs es → Some (λ (e : Event). HandsOver e string) es
  pub only_then : Some (λ (e : Event). HandsOver e string) es → EachQueryAnswered σ string session s cs es
  -- Beyond the demand.
  pub sound : Every (λ (e : Event). accepts e ≡ true → Delivered σ string session e) es
  pub unmoved : Every (λ (e : Event). accepts e ≡ false → e.result.state ≡ e.before) es

abbrev pub SecondHalf : Settings → Lent → ℕ → State → List Call → List Event → Type 0
SecondHalf σ m session s cs es = (string : List ℕ) → Conditions σ m string session es → Owed σ string session s cs es

-- Demand 3: for every accepted setup and every list of receiver calls from it, both halves.
abbrev pub Demand3 : Type 0
Demand3 =
    (σ : Settings) (m : Lent) (n : ℕ) → SetupAccepts σ m → (cs : List Call)
    → FirstHalf (events 0 (initial σ n) cs) × SecondHalf σ m (n % 2 ^ 24) (initial σ n) cs (events 0 (initial σ n) cs)

-- Progress: between such ends there is a list of calls under these conditions that hands the string over, of at most one call for each node
-- of the sender's tree and one for the opening. So no receiver that ignores or refuses everything meets demand 3.
pub record Progress (σ : Settings) (m : Lent) (string : List ℕ) (n : ℕ) : Type 0 where
  pub calls : List Call
  pub few : length calls ≤ suc (length (nodes_of σ string))
  pub conditions : Conditions σ m string (n % 2 ^ 24) (events 0 (initial σ n) calls)
  pub handed : Some (λ (e : Event). HandsOver e string) (events 0 (initial σ n) calls)
