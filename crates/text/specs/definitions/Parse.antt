-- The parser: the file that all tokens of a text make (document 01, the table's 13).
use Rattle.std.specs.Prelude.{ℕ, zero, suc, List, [], ◌∷◌, drop}
use Rattle.text.specs.definitions.Tokens.{Token}
use Rattle.text.specs.definitions.Syntax.{File}
use Rattle.text.specs.definitions.Readers.{Parse, read, unfit_after}
use Rattle.text.specs.definitions.Grammar.{file_reader}

-- a grammatical file, or the refused offset
pub data ParseVerdict : Type 0 where
  grammatical : File → ParseVerdict
  ungrammatical_at : ℕ → ParseVerdict

-- where the first of these tokens stands; "the length if the text ends early"
unfoldable pub offset_of : ℕ → List Token → ℕ
offset_of end [] = end
offset_of end (t ∷ ts) = t.at

-- a file with nothing after it
unfoldable pub ended : ℕ → File → List Token → ParseVerdict
ended end f [] = grammatical f
ended end f (t ∷ ts) = ungrammatical_at t.at

unfoldable pub parsed : ℕ → List Token → Parse File → ParseVerdict
unfolding offset_of ended
parsed end ts (read f n) = ended end f (drop n ts)
parsed end ts (unfit_after n) = ungrammatical_at (offset_of end (drop n ts))

-- 13, place: "first word that no grammatical file has after those before it", in a text of this length
unfoldable pub parse : ℕ → List Token → ParseVerdict
unfolding parsed file_reader
parse end ts = parsed end ts (file_reader ts)
