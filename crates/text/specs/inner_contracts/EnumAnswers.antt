-- The answers of the lexer, of the parser and of reading a text as document 01's numbers: one definition for each enum.
use Rattle.std.specs.Prelude.{ℕ, List, drop, Result, Ok, Err}
use Rattle.text.specs.declared.SyntaxError.{SyntaxError}
use Rattle.text.specs.declared.SyntaxError.TheVariants.{TooLong, NoTokenAt, UnfitAt, NoRoom}
use Rattle.text.specs.declared.grammar.Unfit.{Unfit}
use Rattle.text.specs.definitions.Tokens.{Token}
use Rattle.text.specs.definitions.Parse.{offset_of as token_offset}
use Rattle.text.specs.definitions.Answers.{refusal_answer}

-- "11, 32768"; "12, place"; "13, place"; 31 where a column is too short: the number, and the offset
unfoldable pub code_of : SyntaxError → ℕ
code_of TooLong = 11
code_of (NoTokenAt p) = 12
code_of (UnfitAt p) = 13
code_of NoRoom = 31

unfoldable pub offset_of : SyntaxError → ℕ
offset_of TooLong = 32768
offset_of (NoTokenAt p) = p
offset_of (UnfitAt p) = p
offset_of NoRoom = 0

-- "Acceptance returns 0"
unfoldable pub syntax_answer : Result ℕ SyntaxError → ℕ
unfolding code_of offset_of
syntax_answer (Ok n) = 0
syntax_answer (Err e) = refusal_answer (code_of e) (offset_of e)

-- "13, place .. the length if the text ends early", of these tokens in a text of `end` bytes
unfoldable pub parsing_answer : ℕ → List Token → Result (Unit {0}) Unfit → ℕ
unfolding token_offset
parsing_answer end ts (Ok u) = 0
parsing_answer end ts (Err u) = refusal_answer 13 (token_offset end (drop u.at ts))
