-- Document 01's grammar as languages, line by line: sets of lists of token classes. The counts and the text's length are no part of it.
use Rattle.std.specs.Prelude.{ℕ, zero, suc, List, [], ◌∷◌, ◌++◌, map}
use Rattle.text.specs.definitions.Tokens.{
  Token,
  NAME,
  WHOLE_NUMBER,
  REAL_NUMBER,
  INTERFACE,
  ATTRIBUTE,
  EVENT,
  ACTION,
  ENTITY,
  RULES,
  WHEN,
  FROM,
  WITH,
  VALUE,
  CHANGED,
  TRIGGER,
  ON,
  END,
  AND,
  OR,
  TRUE,
  FALSE,
  WHOLE,
  BOOL,
  REAL,
  BRACE_OPEN,
  BRACE_CLOSE,
  ROUND_OPEN,
  ROUND_CLOSE,
  COLON,
  EQUALS,
  COMMA,
  DOT,
  PLUS,
  MINUS,
  TIMES,
  DIVIDE,
  RANK,
}
use Rattle.text.specs.definitions.Syntax.{OPENERS}

abbrev pub Language : Type 1
Language = List ℕ → Type 0

infixr 30 ◌⨾◌
infixr 20 ◌or◌
-- one token of a class
pub data Only (c : ℕ) : List ℕ → Type 0 where
  only : Only c (c ∷ [])

-- the one, and then the other
pub data ◌⨾◌ (L M : Language) : List ℕ → Type 0 where
  sequel : {xs ys : List ℕ} → L xs → M ys → (L ⨾ M) (xs ++ ys)

-- the one or the other
pub data ◌or◌ (L M : Language) : List ℕ → Type 0 where
  first : {xs : List ℕ} → L xs → (L or M) xs
  second : {xs : List ℕ} → M xs → (L or M) xs

-- any number of them, one after another
pub data Many (L : Language) : List ℕ → Type 0 where
  nothing : Many L []
  further : {xs ys : List ℕ} → L xs → Many L ys → Many L (xs ++ ys)

-- optionally
pub data Maybe (L : Language) : List ℕ → Type 0 where
  absent : Maybe L []
  given : {xs : List ℕ} → L xs → Maybe L xs

unfoldable pub kind_language : Language
kind_language = Only WHOLE or Only BOOL or Only REAL

unfoldable pub attribute_language : Language
unfolding kind_language
attribute_language = Only ATTRIBUTE ⨾ Only NAME ⨾ Only COLON ⨾ kind_language

unfoldable pub event_language : Language
unfolding kind_language
event_language = Only EVENT ⨾ Only NAME ⨾ Only COLON ⨾ kind_language

unfoldable pub action_language : Language
unfolding kind_language
action_language = Only ACTION ⨾ Only NAME ⨾ Only ROUND_OPEN ⨾ kind_language ⨾ Only ROUND_CLOSE

-- "Interface: `interface` name `{` members `}`. Members: first `attribute` .., then `event` .., then `action` .."
unfoldable pub interface_language : Language
unfolding attribute_language event_language action_language
interface_language =
    Only INTERFACE ⨾ Only NAME ⨾ Only BRACE_OPEN
    ⨾ Many attribute_language ⨾ Many event_language ⨾ Many action_language
    ⨾ Only BRACE_CLOSE

unfoldable pub number_language : Language
number_language = Only WHOLE_NUMBER or Only REAL_NUMBER

-- "literal (`true`, `false`, or a number with or without `-`)"
unfoldable pub literal_language : Language
unfolding number_language
literal_language = Only TRUE or Only FALSE or Maybe (Only MINUS) ⨾ number_language

-- "Entity: `entity` name `:` interface `{` assignments `}`, each attribute `=` literal"
unfoldable pub entity_language : Language
unfolding literal_language
entity_language =
    Only ENTITY ⨾ Only NAME ⨾ Only COLON ⨾ Only NAME ⨾ Only BRACE_OPEN
    ⨾ Many (Only NAME ⨾ Only EQUALS ⨾ literal_language)
    ⨾ Only BRACE_CLOSE

-- "Sum: products under `+` `-`; product: factors under `*` `/`", over the language of a factor
unfoldable pub term_over : Language → Language
term_over F = F ⨾ Many ((Only TIMES or Only DIVIDE) ⨾ F)

unfoldable pub expression_over : Language → Language
unfolding term_over
expression_over F = term_over F ⨾ Many ((Only PLUS or Only MINUS) ⨾ term_over F)

-- "Factor: literal without sign, name `.` member, `real` `(` sum `)`, `(` sum `)`, or `-` factor", by the openers that may still come
unfoldable pub simple_language : Language
unfolding number_language
simple_language = Only TRUE or Only FALSE or number_language or Only NAME ⨾ Only DOT ⨾ Only NAME

unfoldable pub factor_language : ℕ → Language
unfolding simple_language expression_over
factor_language zero = simple_language
factor_language (suc left) =
    simple_language
    or Only REAL ⨾ Only ROUND_OPEN ⨾ expression_over (factor_language left) ⨾ Only ROUND_CLOSE
    or Only ROUND_OPEN ⨾ expression_over (factor_language left) ⨾ Only ROUND_CLOSE
    or Only MINUS ⨾ factor_language left

unfoldable pub expression_language : ℕ → Language
unfolding expression_over factor_language
expression_language left = expression_over (factor_language left)

-- "Place: name `:` interface declares a variable; a bare name is an entity or a variable of the rule"
unfoldable pub target_language : Language
target_language = Only NAME ⨾ Maybe (Only COLON ⨾ Only NAME)

-- "optionally `with` attribute `=` sum"
unfoldable pub filter_language : ℕ → Language
unfolding expression_language
filter_language left = Maybe (Only WITH ⨾ Only NAME ⨾ Only EQUALS ⨾ expression_language left)

-- "Clause: `event` name `from` place, optionally `with` .., then `value` `changed` or `value` `=` sum"
unfoldable pub clause_language : ℕ → Language
unfolding target_language filter_language expression_language
clause_language left =
    Only EVENT ⨾ Only NAME ⨾ Only FROM ⨾ target_language ⨾ filter_language left
    ⨾ Only VALUE ⨾ (Only CHANGED or Only EQUALS ⨾ expression_language left)

-- "Condition: clauses under `and` and `or`, `and` binding tighter, parentheses allowed", over the language of an atom
unfoldable pub conjunction_over : Language → Language
conjunction_over A = A ⨾ Many (Only AND ⨾ A)

unfoldable pub condition_over : Language → Language
unfolding conjunction_over
condition_over A = conjunction_over A ⨾ Many (Only OR ⨾ conjunction_over A)

unfoldable pub atom_language : ℕ → Language
unfolding clause_language condition_over
atom_language zero = clause_language zero
atom_language (suc left) = clause_language (suc left) or Only ROUND_OPEN ⨾ condition_over (atom_language left) ⨾ Only ROUND_CLOSE

-- "Call: `action` name `(` sum `)` `on` place, optionally `with` attribute `=` sum"
unfoldable pub call_language : Language
unfolding expression_language target_language filter_language
call_language =
    Only ACTION ⨾ Only NAME ⨾ Only ROUND_OPEN ⨾ expression_language OPENERS ⨾ Only ROUND_CLOSE
    ⨾ Only ON ⨾ target_language ⨾ filter_language OPENERS

-- document 02, order 6: "A rule may begin `when rank` with one number 0 to 9, no `r`" (a number above 9 is grammatical, and refused by 44)
unfoldable pub priority_language : Language
priority_language = Maybe (Only RANK ⨾ Only WHOLE_NUMBER)

-- "Rule: `when` condition `trigger` calls separated by `,` `end`", after `when` its priority
unfoldable pub rule_language : Language
unfolding priority_language condition_over atom_language call_language
rule_language =
    Only WHEN ⨾ priority_language ⨾ condition_over (atom_language OPENERS) ⨾ Only TRIGGER
    ⨾ call_language ⨾ Many (Only COMMA ⨾ call_language)
    ⨾ Only END

-- "File: interfaces, then entities, then `rules`, rules, `end`; each group may be empty"
unfoldable pub file_language : Language
unfolding interface_language entity_language rule_language
file_language = Many interface_language ⨾ Many entity_language ⨾ Only RULES ⨾ Many rule_language ⨾ Only END

-- the tokens of a grammatical file
unfoldable pub Grammatical : List Token → Type 0
unfolding file_language
Grammatical ts = file_language (map (λ t. t.class) ts)
