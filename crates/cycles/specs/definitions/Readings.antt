-- A text of readings: its lines, a header and records.
use Rattle.std.specs.Prelude.{ℕ, ◌≡◌, List, [], ◌∷◌, false, cond, eqb}
use Rattle.cycles.specs.definitions.Fields.{lengthened}

-- what line feeds end; "A last line feed is optional", so the text's end ends a line too, unless nothing stands there
unfoldable pub lines : List ℕ → List (List ℕ)
unfolding lengthened
lines [] = []
lines (b ∷ bs) = cond (eqb b 10) ([] ∷ lines bs) (lengthened b (lines bs))

-- bytes that have no line feed: a part of a line
abbrev pub PartOfLine : List ℕ → Type 0
PartOfLine [] = Unit {0}
PartOfLine (b ∷ t) = (eqb b 10 ≡ false) × PartOfLine t

-- the first line is the header; a text that has no line has an empty one
unfoldable pub header_line : List (List ℕ) → List ℕ
header_line [] = []
header_line (l ∷ ls) = l

-- each further line is a record
unfoldable pub record_lines : List (List ℕ) → List (List ℕ)
record_lines [] = []
record_lines (l ∷ ls) = ls
