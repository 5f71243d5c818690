-- A composition's references as they stand in a message, and the children that question 17 lets them give.
use Rattle.std.specs.Prelude.{Bool, true, false, cond, ◌&&◌, List, [], ◌∷◌, ◌++◌, ℕ, zero, suc, ◌+◌, ◌-◌, leb, length, get_or, replicate, None, Some}
use Rattle.std.specs.Prelude.{Option as Answer}
use Rattle.std.proofs.Math.Option.{Option}
use Rattle.tree.specs.declared.Settings.{Settings}
use Rattle.shingle.specs.declared.Shingle.{Shingle}
use Rattle.trail.specs.Trails.{total, order_of}
use Rattle.message.specs.Words.{link_words, Ref, reference_word}
use Rattle.protocol.specs.Numbers.{meant_by}
use Rattle.protocol.specs.Receiver.{previouses, owns, counts, composes}
use Rattle.composition.specs.declared.Children.{Children}

-- What words say as references, so many of them from word k on. Where no word is left a 0 is read.
unfoldable pub refs_from : List ℕ → (count k : ℕ) → List Ref
refs_from words zero k = []
refs_from words (suc count) k = reference_word.of (get_or words k 0) ∷ refs_from words count (k + 1)

-- So many references of a message, from word `at` on.
unfoldable pub refs_in : List ℕ → (at count : ℕ) → List Ref
refs_in message at count = refs_from (link_words message) count at

-- Whether question 17 is answered yes; and how many children there are, and their ids, with zeros up to 32 places.
pub record Composing : Type 0 where
  pub composed : Bool
  pub count : ℕ
  pub ids : List ℕ

-- No children.
abbrev pub refused : Composing
refused = record { composed = false; count = 0; ids = replicate 32 0 }

-- What composing returns.
abbrev pub composing : Answer Children → Composing
composing (Some children) = record { composed = true; count = children.count; ids = children.ids }
composing None = refused

-- The children's ids, with zeros up to 32 places, if question 17 is answered yes. More than 32 references are refused too: each of a message
-- that is well formed counts 1 at least, so that their sum is then above 32.
unfoldable pub composed_children : Settings → List Shingle → (level : ℕ) → (trail : Option ℕ) → List Ref → (rest : ℕ) → Composing
composed_children σ list l trail refs rest =
    cond (leb (length refs) 32 && composes σ list l trail refs rest)
    (record {
      composed = true;
      count = total (counts refs);
      ids = order_of (previouses list refs) (owns list refs) (counts refs) (meant_by trail) ++ replicate (32 - total (counts refs)) 0;
    })
    refused
