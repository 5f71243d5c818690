-- The six types of message, written and read. `parse` is question 10: "message well formed: whole words, kinds, order, fixed bits, first part of a
-- 64-bit value at most 255, cells as many as its q, reference counts 1 to 32, no index twice, end right". By document 02, request 2, the indexes
-- also rise: "A sender of the old kind is met by number 10 when its order falls."
use Rattle.std.specs.Prelude.{cond, List, [], ◌∷◌, ◌++◌, ℕ, ◌+◌, ◌*◌, ◌%◌, ◌^◌, ◌<◌, eqb, length}
use Rattle.std.proofs.Math.Option.{Option, none, some}
use Rattle.message.specs.Words.{link_words, link_bytes, Ref, end_word, is_end_word}
use Rattle.message.specs.Fields.{read, head, number, value, values, maybe_number, references, text}

-- The six types, with the session first. An opening's cells are given as their values in order, five for each cell. A composition's trail number
-- may be left out.
pub data Msg : Type 0 where
  opening_query : (session : ℕ) → Msg
  node_query : (session level id : ℕ) → Msg
  opening : (session rule w p L M q len root : ℕ) (cells : List ℕ) → Msg
  composition : (session level id : ℕ) (trail : Option ℕ) (refs : List Ref) → Msg
  literal : (session level id : ℕ) (bytes : List ℕ) → Msg
  no_node : (session level id : ℕ) → Msg

-- The type's number in the head.
unfoldable pub type_of : Msg → ℕ
type_of (opening_query n) = 1
type_of (node_query n l i) = 2
type_of (opening n rule w p L M q len root cells) = 3
type_of (composition n l i x refs) = 4
type_of (literal n l i bytes) = 5
type_of (no_node n l i) = 6

-- How many values the cells of an opening have: 3q cells, "cells in order with five values each".
unfoldable pub cell_values : ℕ → ℕ
cell_values q = q * 3 * 5

-- The head's word in front of some words.
unfoldable pub headed : (type session : ℕ) → List ℕ → List ℕ
headed t n ws = head.to (record { type = t; session = n }) ++ ws

-- The words of a message up to its end, and then `tail`. "Types, between head and end: 1 opening query, empty; 2 node query: level, id;
-- 3 opening: rule (the number 1), w, p, L, M, q, string length, root id, cells in order with five values each; 4 composition: level, id,
-- trail number, references in any order, each index once; 5 literal: level, id, bytes; 6 none: level, id." The order is no longer any: document 02,
-- request 2, "References now rise by index." Nor is the number always there: request 5, "A composition whose trail is the only one omits the number
-- word, and one with others carries it."
unfoldable pub words_then : Msg → List ℕ → List ℕ
words_then (opening_query n) tail = headed 1 n tail
words_then (node_query n l i) tail = headed 2 n (number.to l ++ (value.to i ++ tail))
words_then (opening n rule w p L M q len root cells) tail =
    headed 3 n
    (number.to rule ++ (number.to w ++ (number.to p ++ (number.to L ++ (number.to M ++ (number.to q ++ (number.to len
    ++ (value.to root ++ ((values (cell_values q)).to cells ++ tail)))))))))
words_then (composition n l i x refs) tail = headed 4 n (number.to l ++ (value.to i ++ (maybe_number.to x ++ (references.to refs ++ tail))))
words_then (literal n l i bytes) tail = headed 5 n (number.to l ++ (value.to i ++ (text.to bytes ++ tail)))
words_then (no_node n l i) tail = headed 6 n (number.to l ++ (value.to i ++ tail))

-- How many words the message has, its end among them.
unfoldable pub size_of : Msg → ℕ
size_of m = length (words_then m []) + 1

-- The words of a message and its bytes on the link. The end counts all words.
unfoldable pub encode_words : Msg → List ℕ
encode_words m = words_then m (end_word (size_of m) ∷ [])

unfoldable pub encode : Msg → List ℕ
encode m = link_bytes (encode_words m)

-- After the last field comes the end, which counts all words, and nothing after it.
unfoldable pub finish : ℕ → Msg → List ℕ → Option Msg
finish count m ws = cond (is_end_word count ws) (some m) none

-- What follows the head, type by type, in a message of `count` words. A type that has no form is not well formed.
unfoldable pub body_of : (count session type : ℕ) → List ℕ → Option Msg
body_of count n t ws =
    cond (eqb t 1) (finish count (opening_query n) ws)
    (cond (eqb t 2) (read number ws λ l ws. read value ws λ i ws. finish count (node_query n l i) ws)
    (cond (eqb t 3)
    (read number ws λ rule ws. read number ws λ w ws. read number ws λ p ws. read number ws λ L ws. read number ws λ M ws. read number ws λ q ws.
    read number ws λ len ws. read value ws λ root ws. read (values (cell_values q)) ws λ cells ws.
    finish count (opening n rule w p L M q len root cells) ws)
    (cond (eqb t 4)
    (read number ws λ l ws. read value ws λ i ws. read maybe_number ws λ x ws. read references ws λ refs ws. finish count (composition n l i x refs) ws)
    (cond (eqb t 5) (read number ws λ l ws. read value ws λ i ws. read text ws λ bytes ws. finish count (literal n l i bytes) ws)
    (cond (eqb t 6) (read number ws λ l ws. read value ws λ i ws. finish count (no_node n l i) ws) none)))))

unfoldable pub parse_words : List ℕ → Option Msg
parse_words ws = read head ws λ h rest. body_of (length ws) h.session h.type rest

-- Question 10, of the bytes of a message.
unfoldable pub parse : List ℕ → Option Msg
parse s = cond (eqb (length s % 4) 0) (parse_words (link_words s)) none

-- Each part is within its field.
unfoldable pub Parts : Msg → Type 0
Parts (opening_query n) = n < 2 ^ 24
Parts (node_query n l i) = (n < 2 ^ 24) × number.Fits l × value.Fits i
Parts (opening n rule w p L M q len root cells) =
    (n < 2 ^ 24) × number.Fits rule × number.Fits w × number.Fits p × number.Fits L × number.Fits M × number.Fits q × number.Fits len
    × value.Fits root × (values (cell_values q)).Fits cells
Parts (composition n l i x refs) = (n < 2 ^ 24) × number.Fits l × value.Fits i × maybe_number.Fits x × references.Fits refs
Parts (literal n l i bytes) = (n < 2 ^ 24) × number.Fits l × value.Fits i × text.Fits bytes
Parts (no_node n l i) = (n < 2 ^ 24) × number.Fits l × value.Fits i

-- What a message has to be so that its words say it: each part within its field, and fewer than 2^28 words.
pub record Valid (m : Msg) : Type 0 where
  pub size : size_of m < 2 ^ 28
  pub parts : Parts m
