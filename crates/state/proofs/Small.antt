-- What writing a query answers is small: a call for C adds its mark without leaving 64 bits.
use Rattle.std.proofs.Common.{Bool, true, false, cond, List, [], ◌∷◌, ◌++◌, ℕ, ◌+◌, ◌^◌, ◌<◌, ◌≤◌, length, arith}
use Rattle.std.proofs.Math.Dec.{leb}
use lib.ListN.{drop}
use mathlib.Core.Option.{none}
use Rattle.message.specs.Fields.{one, value}
use Rattle.message.specs.Messages.{Msg, opening_query, node_query, size_of, words_then, headed, encode}
use Rattle.message.proofs.Messages.{length-encode}
use Rattle.protocol.specs.State.{Pending, Phase, unopened, opened, ended, State, running, query_of, outstanding}
use Rattle.protocol.specs.Sender.{unwritten, writing}
use Rattle.protocol.specs.Receiver.{querying}

written_small : (query : Msg) (buffer : List ℕ) → length (encode query) ≤ 24 → (writing (encode query) buffer).answer < 2 ^ 63
unfolding writing
written_small query buffer short = go (leb (length (encode query)) (length buffer))
  where
    go : (t : Bool)
        → (cond t (record { answer = 2 ^ 32 + length (encode query); buffer = encode query ++ drop (length (encode query)) buffer }) (unwritten 20 buffer)).answer
        < 2 ^ 63
    go true = omega (arith, short)
    go false = omega arith

found_small : (n : ℕ) (phase : Phase) (pile : List Pending) (buffer : List ℕ) → (querying (query_of n phase pile) buffer).answer < 2 ^ 63
unfolding querying query_of size_of words_then headed one value
found_small n unopened pile buffer = written_small (opening_query n) buffer (omega (arith, length-encode (opening_query n)))
found_small n opened [] buffer = omega arith
found_small n opened (e ∷ es) buffer =
    written_small (node_query n e.level e.id) buffer (omega (arith, length-encode (node_query n e.level e.id)))
found_small n ended pile buffer = omega arith

pub querying_small : (s : State) (buffer : List ℕ) → (querying (outstanding s) buffer).answer < 2 ^ 63
unfolding querying outstanding
querying_small s buffer = go (running s)
  where
    go : (t : Bool) → (querying (cond t (query_of s.session s.phase s.pile) none) buffer).answer < 2 ^ 63
    go true = found_small s.session s.phase s.pile buffer
    go false = omega arith
