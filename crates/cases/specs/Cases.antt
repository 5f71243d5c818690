-- Document 01, 'Checked by hand': the cases with a star, as entries of one table. Where nothing else is said they are
-- "With w=2, p=2, L=1, M=2 (h=1, s=4)". Without a star stand beside them h and s of two levels, since with L=1 no level differs from the
-- last, and the tree that document 01 prints.
use mathlib.Core.List.{List, [], ◌∷◌, flatten}
use Rattle.std.specs.Prelude.{ℕ, zero, suc, ◌-◌, ◌^◌, length, get_or}
use Rattle.partition.specs.Cuts.{window_at, value_at, cuts_of}
use Rattle.tree.specs.declared.Settings.{Settings}
use Rattle.tree.specs.Questions.{spacing, modulus}
use Rattle.tree.specs.Tree.{Node, nodes_of}
use Rattle.trail.specs.Trails.{trails_over}
use Rattle.message.specs.Words.{reference_word}
use Rattle.message.specs.Fields.{text_to}
use Rattle.message.specs.Messages.{opening_query, encode_words}

-- What a definition gives, and what the document says.
pub record Case : Type 0 where
  pub got : List ℕ
  pub want : List ℕ

abbrev pub case : List ℕ → List ℕ → Case
case got want = record { got = got; want = want }

abbrev settings : Settings
settings = record { window = 2; fan_out = 2; levels = 1; nominal = 2; width = 64 }

abbrev two_levels : Settings
two_levels = record { window = 2; fan_out = 3; levels = 2; nominal = 20; width = 64 }

-- h and s of a level.
abbrev rule : Settings → ℕ → List ℕ
rule σ l = spacing σ l ∷ modulus σ l ∷ []

-- The cuts of level 1.
abbrev cuts : List ℕ → List ℕ
cuts bytes = cuts_of settings.window (spacing settings 1) (modulus settings 1) bytes

-- The window values at so many positions from i on.
unfoldable pub values_from : ℕ → ℕ → List ℕ → List ℕ
values_from zero i bytes = []
values_from (suc k) i bytes = value_at settings.window (modulus settings 1) bytes i ∷ values_from k (suc i) bytes

-- Level, start and length of each node, one after the other.
unfoldable pub extents : List Node → List ℕ
extents [] = []
extents (n ∷ ns) = n.level ∷ n.start ∷ length n.bytes ∷ extents ns

-- How many trails, and their ids one after the other.
unfoldable pub counted : List (List ℕ) → List ℕ
counted trails = length trails ∷ flatten trails

abbrev six_bytes : List ℕ
six_bytes = 0 ∷ 3 ∷ 0 ∷ 0 ∷ 1 ∷ 0 ∷ []

-- "with ids a<b: pairs 0a, aa, ab, ba have two trails, a a b a then a b a a."
abbrev two_trails : ℕ → ℕ → Case
two_trails a b =
    case (counted (trails_over (0 ∷ a ∷ a ∷ b ∷ []) (a ∷ a ∷ b ∷ a ∷ []) (1 ∷ 1 ∷ 1 ∷ 1 ∷ [])))
    (2 ∷ a ∷ a ∷ b ∷ a ∷ a ∷ b ∷ a ∷ a ∷ [])

-- "0a, bc has none."
abbrev no_trail : ℕ → ℕ → ℕ → Case
no_trail a b c = case (counted (trails_over (0 ∷ b ∷ []) (a ∷ c ∷ []) (1 ∷ 1 ∷ []))) (0 ∷ [])

unfoldable pub cases : List Case
cases =
    -- "With w=2, p=2, L=1, M=2 (h=1, s=4)"
    case (rule settings 1) (1 ∷ 4 ∷ [])
    -- "At level l (1 to L), h = M / p^l rounded down and s = w × p^(L−l+1)", with w=2, p=3, L=2, M=20.
    ∷ case (rule two_levels 1) (6 ∷ 18 ∷ [])
    ∷ case (rule two_levels 2) (2 ∷ 6 ∷ [])
    -- "the starred cases and printed tree are worked out again": by rule 3, 01 02 has value 2; ff ff has value 1.
    ∷ case (values_from 1 0 (1 ∷ 2 ∷ [])) (2 ∷ [])
    ∷ case (values_from 1 0 (255 ∷ 255 ∷ [])) (1 ∷ [])
    -- w=3, before s: 01 00 00 gives 43710.
    ∷ case (window_at 3 (1 ∷ 0 ∷ 0 ∷ []) 0 ∷ []) (43710 ∷ [])
    -- 00 03 00 00 01 00 has values 3 1 1 3 2, one cut at 1.
    ∷ case (values_from 5 0 six_bytes) (3 ∷ 1 ∷ 1 ∷ 3 ∷ 2 ∷ [])
    ∷ case (cuts six_bytes) (1 ∷ [])
    -- The printed tree of the six bytes.
    ∷ case (extents (nodes_of settings six_bytes)) (0 ∷ 0 ∷ 6 ∷ 1 ∷ 0 ∷ 1 ∷ 1 ∷ 1 ∷ 5 ∷ [])
    -- "The starred four and five bytes 07 now have no cut." "Three: none."
    ∷ case (cuts (7 ∷ 7 ∷ 7 ∷ 7 ∷ 7 ∷ [])) []
    ∷ case (cuts (7 ∷ 7 ∷ 7 ∷ 7 ∷ [])) []
    ∷ case (cuts (7 ∷ 7 ∷ 7 ∷ [])) []
    -- "Empty: one empty block per level."
    ∷ case (extents (nodes_of settings [])) (0 ∷ 0 ∷ 0 ∷ 1 ∷ 0 ∷ 0 ∷ [])
    -- The trails, with small ids and with ids from 2^63 on: "unsigned".
    ∷ two_trails 1 2
    ∷ two_trails 1 (2 ^ 63)
    ∷ two_trails 1 (2 ^ 64 - 1)
    ∷ no_trail 1 2 3
    ∷ no_trail 1 (2 ^ 63) 3
    ∷ no_trail 1 (2 ^ 64 - 1) 3
    -- "bytes 61 62 are word 0x52616200; index 4,095, count 32 is 0x4003FFE0; opening query of session 5 is 0x11000005 0x60000002."
    ∷ case (text_to (0x61 ∷ 0x62 ∷ [])) (0x52616200 ∷ [])
    ∷ case (reference_word.to (record { index = 4095; count = 32 }) ∷ []) (0x4003FFE0 ∷ [])
    ∷ case (encode_words (opening_query 5)) (0x11000005 ∷ 0x60000002 ∷ [])
    ∷ []

-- The case of place k in a table, counted from 0. After the last there are only empty ones.
abbrev pub case_at : List Case → ℕ → Case
case_at table k = get_or table k (case [] [])
