-- What the two calls answer: from 2^32 on accepted, and the rest is the number, or k; else 17, document 01's question. Beside it whether the trail
-- is the only one; of a refusal it is not said to be.
use Rattle.std.specs.Prelude.{Bool, true, false, cond, ◌&&◌, List, [], ◌∷◌, ◌++◌, ℕ, ◌+◌, ◌-◌, ◌^◌, ltb, length, replicate, Result, Ok, Err}
use Rattle.trail.specs.Trails.{total, trail_number, trails_over, order_of, only_trail, only_over}
use Rattle.refusal.specs.declared.Refusal.{Refusal}
use Rattle.refusal.specs.Answer.{number_of}
use Rattle.trail.specs.declared.Numbered.{Numbered}
use Rattle.trail.specs.declared.Pairs.{Pairs}
use Rattle.trail.specs.declared.Trail.{Trail}

-- An order's number, or a refusal's, and whether no other order has the same pairs.
pub record NumberAnswer : Type 0 where
  pub answer : ℕ
  pub only : Bool

-- A trail's length, or a refusal's number; its k ids, zeros after them; and whether it is the only one over its pairs.
pub record OrderAnswer : Type 0 where
  pub answer : ℕ
  pub k : ℕ
  pub ids : List ℕ
  pub only : Bool

-- What a numbering returns, as an answer.
abbrev pub numbered : Result Numbered Refusal → NumberAnswer
numbered (Ok order) = record { answer = 2 ^ 32 + order.place; only = order.only }
numbered (Err question) = record { answer = number_of question; only = false }

-- What an ordering returns, as an answer.
abbrev pub ordered : Result Trail Refusal → OrderAnswer
ordered (Ok trail) = record { answer = 2 ^ 32 + trail.k; k = trail.k; ids = trail.ids; only = trail.only }
ordered (Err question) = record { answer = number_of question; k = 0; ids = replicate 32 0; only = false }

-- All ids are nonzero.
unfoldable pub nonzero : List ℕ → Bool
nonzero [] = true
nonzero (x ∷ xs) = ltb 0 x && nonzero xs

-- "Numbering an order takes 1 to 32 nonzero ids, else 17".
unfoldable pub numberable : List ℕ → Bool
numberable xs = ltb 0 (length xs) && (ltb (length xs) 33 && nonzero xs)

-- Refused: 17.
abbrev pub unnumbered : NumberAnswer
unnumbered = record { answer = 17; only = false }

unfoldable pub number_answer : List ℕ → NumberAnswer
number_answer xs = cond (numberable xs) (record { answer = 2 ^ 32 + trail_number xs; only = only_trail xs }) unnumbered

-- "their sum k from 1 to 32, number at most 4,095, that trail exists"
unfoldable pub orderable : Pairs → ℕ → Bool
orderable pairs number =
    ltb 0 (total pairs.count) && (ltb (total pairs.count) 33 && (ltb number 4096 && ltb number (length (trails_over pairs.previous pairs.own pairs.count))))

-- Refused: 17, and no ids.
abbrev pub refusal : OrderAnswer
refusal = record { answer = 17; k = 0; ids = replicate 32 0; only = false }

-- The trail's k ids, with zeros up to 32 places; or the refusal.
unfoldable pub order_answer : Pairs → ℕ → OrderAnswer
order_answer pairs number =
    cond (orderable pairs number)
    (record {
      answer = 2 ^ 32 + total pairs.count;
      k = total pairs.count;
      ids = order_of pairs.previous pairs.own pairs.count number ++ replicate (32 - total pairs.count) 0;
      only = only_over pairs.previous pairs.own pairs.count;
    })
    refusal
