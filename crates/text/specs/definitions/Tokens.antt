-- The tokens of a bench file, which document 01 calls words ("Text of a bench file").
use Rattle.std.specs.Prelude.{ℕ, zero, suc, ◌+◌, ◌-◌, ◌*◌, List, [], ◌∷◌, Bool, true, false, ◌&&◌, leb, eqb, length, take, drop}
use Rattle.std.proofs.Math.Option.{Option, none, some, get_or}
use Rattle.values.specs.definitions.Bytes.{same_bytes}
use Rattle.text.specs.definitions.Bytes.{ascii, is_letter, is_digit, is_name_byte, is_blank, is_comment_byte, run}

-- a token's class: a name, a number without or with `r`, a reserved word, or a mark
abbrev pub NAME : ℕ
NAME = 0

abbrev pub WHOLE_NUMBER : ℕ
WHOLE_NUMBER = 1

abbrev pub REAL_NUMBER : ℕ
REAL_NUMBER = 2

abbrev pub INTERFACE : ℕ
INTERFACE = 3

abbrev pub ATTRIBUTE : ℕ
ATTRIBUTE = 4

abbrev pub EVENT : ℕ
EVENT = 5

abbrev pub ACTION : ℕ
ACTION = 6

abbrev pub ENTITY : ℕ
ENTITY = 7

abbrev pub RULES : ℕ
RULES = 8

abbrev pub WHEN : ℕ
WHEN = 9

abbrev pub FROM : ℕ
FROM = 10

abbrev pub WITH : ℕ
WITH = 11

abbrev pub VALUE : ℕ
VALUE = 12

abbrev pub CHANGED : ℕ
CHANGED = 13

abbrev pub TRIGGER : ℕ
TRIGGER = 14

abbrev pub ON : ℕ
ON = 15

abbrev pub END : ℕ
END = 16

abbrev pub AND : ℕ
AND = 17

abbrev pub OR : ℕ
OR = 18

abbrev pub TRUE : ℕ
TRUE = 19

abbrev pub FALSE : ℕ
FALSE = 20

abbrev pub WHOLE : ℕ
WHOLE = 21

abbrev pub BOOL : ℕ
BOOL = 22

abbrev pub REAL : ℕ
REAL = 23

abbrev pub BRACE_OPEN : ℕ
BRACE_OPEN = 24

abbrev pub BRACE_CLOSE : ℕ
BRACE_CLOSE = 25

abbrev pub ROUND_OPEN : ℕ
ROUND_OPEN = 26

abbrev pub ROUND_CLOSE : ℕ
ROUND_CLOSE = 27

abbrev pub COLON : ℕ
COLON = 28

abbrev pub EQUALS : ℕ
EQUALS = 29

abbrev pub COMMA : ℕ
COMMA = 30

abbrev pub DOT : ℕ
DOT = 31

abbrev pub PLUS : ℕ
PLUS = 32

abbrev pub MINUS : ℕ
MINUS = 33

abbrev pub TIMES : ℕ
TIMES = 34

abbrev pub DIVIDE : ℕ
DIVIDE = 35

-- document 02's word, after document 01's classes
abbrev pub RANK : ℕ
RANK = 36

-- a token: its class, the offset of its first byte, its bytes and, of a number, its value
pub record Token : Type 0 where
  pub class : ℕ
  pub at : ℕ
  pub bytes : List ℕ
  pub value : ℕ

-- a token that is always spelled so
pub record Fixed : Type 0 where
  pub spelling : List ℕ
  pub class : ℕ

abbrev pub spelled : List ℕ → ℕ → Fixed
spelled bs c = record { spelling = bs; class = c }

-- "Reserved, never names"; document 02, order 6: "`rank` becomes reserved"
unfoldable pub reserved : List Fixed
unfolding ascii
reserved =
    spelled (ascii "interface") INTERFACE ∷ spelled (ascii "attribute") ATTRIBUTE ∷ spelled (ascii "event") EVENT ∷
    spelled (ascii "action") ACTION ∷ spelled (ascii "entity") ENTITY ∷ spelled (ascii "rules") RULES ∷
    spelled (ascii "when") WHEN ∷ spelled (ascii "from") FROM ∷ spelled (ascii "with") WITH ∷
    spelled (ascii "value") VALUE ∷ spelled (ascii "changed") CHANGED ∷ spelled (ascii "trigger") TRIGGER ∷
    spelled (ascii "on") ON ∷ spelled (ascii "end") END ∷ spelled (ascii "and") AND ∷
    spelled (ascii "or") OR ∷ spelled (ascii "true") TRUE ∷ spelled (ascii "false") FALSE ∷
    spelled (ascii "whole") WHOLE ∷ spelled (ascii "bool") BOOL ∷ spelled (ascii "real") REAL ∷
    spelled (ascii "rank") RANK ∷ []

-- "a mark: one of `{ } ( ) : = , . + - * /`"
unfoldable pub marks : List Fixed
unfolding ascii
marks =
    spelled (ascii "{") BRACE_OPEN ∷ spelled (ascii "}") BRACE_CLOSE ∷ spelled (ascii "(") ROUND_OPEN ∷ spelled (ascii ")") ROUND_CLOSE ∷
    spelled (ascii ":") COLON ∷ spelled (ascii "=") EQUALS ∷ spelled (ascii ",") COMMA ∷ spelled (ascii ".") DOT ∷
    spelled (ascii "+") PLUS ∷ spelled (ascii "-") MINUS ∷ spelled (ascii "*") TIMES ∷ spelled (ascii "/") DIVIDE ∷ []

unfoldable pub class_in : List Fixed → List ℕ → Option ℕ
unfolding same_bytes
class_in [] bs = none
class_in (f ∷ fs) bs = elim (same_bytes bs f.spelling) [ true ↦ some f.class | false ↦ class_in fs bs ]

-- what begins at a byte: a gap, a token with its class and value, each with how many bytes come after the first, or neither
pub data Lexeme : Type 0 where
  gap : ℕ → Lexeme
  found : ℕ → ℕ → ℕ → Lexeme
  bad : Lexeme

-- "a name: a letter, then letters, digits or `_`, 24 bytes at most (a longer run is no word)"; "Reserved, never names"
unfoldable pub name_item : List ℕ → Lexeme
unfolding class_in reserved
name_item bs = elim (leb (length bs) 24) [ true ↦ found (get_or (class_in reserved bs) NAME) 0 (length bs - 1) | false ↦ bad ]

-- the value of a run of digits, after those that gave n
unfoldable pub digits_value : ℕ → List ℕ → ℕ
digits_value n [] = n
digits_value n (d ∷ ds) = digits_value (n * 10 + (d - 48)) ds

-- "with `r` after it, that whole as a real"
unfoldable pub number_token : ℕ → ℕ → List ℕ → Lexeme
number_token value more [] = found WHOLE_NUMBER value more
number_token value more (b ∷ bs) = elim (eqb b 114) [ true ↦ found REAL_NUMBER value (suc more) | false ↦ found WHOLE_NUMBER value more ]

-- "a number: 1 to 10 digits, at most 2147483647 ..; a longer run of digits or a larger number is no word"
unfoldable pub number_item : List ℕ → List ℕ → Lexeme
unfolding number_token digits_value
number_item ds after = elim (leb (length ds) 10 && leb (digits_value 0 ds) 2147483647) [
  | true ↦ number_token (digits_value 0 ds) (length ds - 1) after
  | false ↦ bad
]

unfoldable pub mark_item : Option ℕ → Lexeme
mark_item none = bad
mark_item (some c) = found c 0 0

-- what begins at the byte b, before the bytes bs: a blank, "`#` starts a comment", a name, a number, a mark, or nothing allowed
unfoldable pub item : ℕ → List ℕ → Lexeme
unfolding is_letter is_digit is_name_byte is_blank is_comment_byte run mark_item number_item name_item class_in marks
item b bs = elim (is_blank b) [
  | true ↦ gap 0
  | false ↦ elim (eqb b 35) [
    | true ↦ gap (length (run is_comment_byte bs))
    | false ↦ elim (is_letter b) [
      | true ↦ name_item (b ∷ run is_name_byte bs)
      | false ↦ elim (is_digit b) [
        | true ↦ number_item (b ∷ run is_digit bs) (drop (length (run is_digit bs)) bs)
        | false ↦ mark_item (class_in marks (b ∷ []))
      ]
    ]
  ]
]

-- the tokens of a text, or 12, place: "first byte or word not allowed"
pub data Lexing : Type 0 where
  tokens : List Token → Lexing
  no_token_at : ℕ → Lexing

unfoldable pub add_token : Token → Lexing → Lexing
add_token t (tokens ts) = tokens (t ∷ ts)
add_token t (no_token_at p) = no_token_at p

-- an item at an offset, and then the others, by how many bytes after the first belong to it
unfoldable pub taken : Lexeme → ℕ → ℕ → List ℕ → (ℕ → Lexing) → Lexing
unfolding add_token
taken (gap more) at b bs others = others more
taken (found c v more) at b bs others = add_token (record { class = c; at = at; bytes = b ∷ take more bs; value = v }) (others more)
taken bad at b bs others = no_token_at at

-- "Words are taken one after another from the text": the first `skip` bytes still belong to the last item, a count by which the recursion is
-- seen to end (`tokens_equation` in proofs/theorems/SkipLaws is the equation without it)
unfoldable pub tokens_from : ℕ → ℕ → List ℕ → Lexing
unfolding item taken
tokens_from skip at [] = tokens []
tokens_from (suc skip) at (b ∷ bs) = tokens_from skip (at + 1) bs
tokens_from zero at (b ∷ bs) = taken (item b bs) at b bs (λ more. tokens_from more (at + 1) bs)

-- without the count: the item at the front, and then the tokens of what is left
unfoldable pub tokens_step : ℕ → List ℕ → Lexing
unfolding taken item tokens_from
tokens_step at [] = tokens []
tokens_step at (b ∷ bs) = taken (item b bs) at b bs (λ more. tokens_from 0 (at + 1 + more) (drop more bs))

unfoldable pub tokens_of : List ℕ → Lexing
unfolding tokens_from
tokens_of text = tokens_from 0 0 text
