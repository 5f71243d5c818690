-- The calls on trails: ids and pairs in lent bytes, rows of 64 bits, most significant byte first.
use Rattle.std.specs.Prelude.{Bool, cond, ◌&&◌, List, [], ◌∷◌, ◌++◌, ◌≡◌, ℕ, zero, suc, ◌+◌, ◌*◌, ◌%◌, ◌^◌, eqb, leb, length, get_or, drop}
use Rattle.rows.specs.Rows.{words_of, bytes_of}
use Rattle.tree.specs.Questions.{ask}
use Rattle.trail.specs.declared.Pairs.{Pairs}
use Rattle.trail.specs.Trails.{total, order_of, only_over}
use Rattle.trail.specs.Calls.{NumberAnswer, number_answer, orderable}

-- So many rows, from a place on and then every `step`; 0 past the table's end.
unfoldable pub column : ℕ → ℕ → ℕ → List ℕ → List ℕ
column zero step place words = []
column (suc k) step place words = get_or words place 0 ∷ column k step (place + step) words

-- The bytes of ids, one after the other.
unfoldable pub bytes_of_ids : List ℕ → List ℕ
bytes_of_ids [] = []
bytes_of_ids (x ∷ xs) = bytes_of x ++ bytes_of_ids xs

-- Document 02, request 5: "The trail search now also says whether its trail is the only one". Where it is, an answer is 2^33 more.
unfoldable pub marked : ℕ → (only : Bool) → ℕ
marked answer only = cond only (2 ^ 33 + answer) answer

abbrev pub marked_number : NumberAnswer → ℕ
marked_number order = marked order.answer order.only

-- The number of the order that ids of 8 bytes give. A length that is no multiple of 8 holds no such ids.
unfoldable pub trail_number_answer : List ℕ → ℕ
trail_number_answer ids = cond (eqb (length ids % 8) 0) (marked_number (number_answer (words_of ids))) 17

-- The pairs of a table with three rows each: previous id, own id, count.
abbrev pub pairs_in : List ℕ → Pairs
pairs_in table = record { previous = column 32 3 0 (words_of table); own = column 32 3 1 (words_of table); count = column 32 3 2 (words_of table) }

-- Whether there is one trail over them and no other.
abbrev pub only_in : List ℕ → Bool
only_in table = only_over (pairs_in table).previous (pairs_in table).own (pairs_in table).count

-- How many ids a trail over them has.
abbrev pub size_in : List ℕ → ℕ
size_in table = total (pairs_in table).count

-- 0, or the question that fails: 17, asked of a table of at most 32 whole entries, then "20 reply fits the buffer lent?".
unfoldable pub trail_order_refusal : List ℕ → ℕ → ℕ → ℕ
trail_order_refusal table number room =
    ask (eqb (length table % 24) 0 && leb (length table) 768) 17
    (ask (orderable (pairs_in table) number) 17
    (ask (leb (size_in table * 8) room) 20
    0))

-- What the call answers, and the ids' buffer after it: unchanged by a no, else the trail's ids, and what lies past them untouched.
pub record Ordered (table : List ℕ) (number : ℕ) (before after : List ℕ) (r : ℕ) : Type 0 where
  pub answer :
      r
      ≡ cond (eqb (trail_order_refusal table number (length before)) 0)
      (marked (2 ^ 32 + size_in table) (only_in table))
      (trail_order_refusal table number (length before))
  pub ids :
      after
      ≡ cond (eqb (trail_order_refusal table number (length before)) 0)
      (bytes_of_ids (order_of (pairs_in table).previous (pairs_in table).own (pairs_in table).count number) ++ drop (size_in table * 8) before)
      before
