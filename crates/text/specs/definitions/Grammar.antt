-- The grammar of a bench file, as readers of its tokens (document 01, "Grammar").
use Rattle.std.specs.Prelude.{ℕ, zero, suc, List, [], ◌∷◌, ◌++◌, Bool, true, false, ◌||◌, eqb}
use Rattle.std.proofs.Math.Option.{Option, none, some}
use Rattle.values.specs.declared.Kind.{Kind}
use Rattle.values.specs.declared.Kind.TheVariants.{Wholes, Bools, Reals}
use Rattle.values.specs.declared.Operator.{Operator}
use Rattle.values.specs.declared.Operator.TheVariants.{Plus, Minus, Times, Divide}
use Rattle.text.specs.definitions.Tokens.{
  Token,
  NAME,
  WHOLE_NUMBER,
  REAL_NUMBER,
  INTERFACE,
  ATTRIBUTE,
  EVENT,
  ACTION,
  ENTITY,
  RULES,
  WHEN,
  FROM,
  WITH,
  VALUE,
  CHANGED,
  TRIGGER,
  ON,
  END,
  AND,
  OR,
  TRUE,
  FALSE,
  WHOLE,
  BOOL,
  REAL,
  BRACE_OPEN,
  BRACE_CLOSE,
  ROUND_OPEN,
  ROUND_CLOSE,
  COLON,
  EQUALS,
  COMMA,
  DOT,
  PLUS,
  MINUS,
  TIMES,
  DIVIDE,
  RANK,
}
use Rattle.text.specs.definitions.Syntax.{
  Name,
  Sort,
  attribute,
  event,
  action,
  Member,
  Interface,
  Literal,
  truth,
  whole_number,
  real_number,
  Assignment,
  Entity,
  Expression,
  literal,
  member,
  to_real,
  negate,
  apply,
  Target,
  Filter,
  Test,
  changed,
  equals,
  Condition,
  clause,
  both,
  either,
  Call,
  Priority,
  Rule,
  File,
  OPENERS,
}
use Rattle.text.specs.definitions.Readers.{Parser, give, halt, expect, if_next, and_then, chain, many}

unfoldable pub name_of : Token → Name
name_of t = record { bytes = t.bytes; at = t.at }

-- "Kinds: `whole` .., `bool`, `real`"
unfoldable pub kind_reader : Parser Kind
unfolding if_next expect give
kind_reader =
    if_next WHOLE (expect WHOLE λ t. give Wholes)
    (if_next BOOL (expect BOOL λ t. give Bools)
    (expect REAL λ t. give Reals))

-- after `attribute` or `event`: "name `:` kind"
unfoldable pub member_after : Sort → Token → Parser Member
unfolding expect and_then kind_reader give name_of
member_after s start =
    expect NAME λ n. expect COLON λ t. and_then kind_reader λ k. give (record { at = start.at; sort = s; name = name_of n; kind = k })

-- after `action`: "name `(` kind `)`"
unfoldable pub action_after : Token → Parser Member
unfolding expect and_then kind_reader give name_of
action_after start =
    expect NAME λ n. expect ROUND_OPEN λ o. and_then kind_reader λ k. expect ROUND_CLOSE λ t.
    give (record { at = start.at; sort = action; name = name_of n; kind = k })

-- after `interface`: "name `{` members `}`", attributes, then events, then actions
unfoldable pub interface_after : Token → Parser Interface
unfolding expect and_then many member_after action_after give name_of
interface_after start =
    expect NAME λ n. expect BRACE_OPEN λ o. and_then (many ATTRIBUTE (member_after attribute)) λ attributes.
    and_then (many EVENT (member_after event)) λ events. and_then (many ACTION action_after) λ actions. expect BRACE_CLOSE λ t.
    give (record { at = start.at; name = name_of n; members = attributes ++ events ++ actions })

-- a number, after its sign
unfoldable pub number_reader : Bool → Parser Literal
unfolding if_next expect give
number_reader negative =
    if_next WHOLE_NUMBER (expect WHOLE_NUMBER λ t. give (whole_number negative t.value))
    (expect REAL_NUMBER λ t. give (real_number negative t.value))

-- "literal (`true`, `false`, or a number with or without `-`)"
unfoldable pub literal_reader : Parser Literal
unfolding if_next expect give number_reader
literal_reader =
    if_next TRUE (expect TRUE λ t. give (truth true))
    (if_next FALSE (expect FALSE λ t. give (truth false))
    (if_next MINUS (expect MINUS λ t. number_reader true)
    (number_reader false)))

-- after an attribute's name: "`=` literal"
unfoldable pub assignment_after : Token → Parser Assignment
unfolding expect and_then literal_reader give name_of
assignment_after n =
    expect EQUALS λ e. and_then literal_reader λ l. give (record { name = name_of n; equals_at = e.at; literal = l })

-- after `entity`: "name `:` interface `{` assignments `}`"
unfoldable pub entity_after : Token → Parser Entity
unfolding expect and_then many assignment_after give name_of
entity_after start =
    expect NAME λ n. expect COLON λ t. expect NAME λ i. expect BRACE_OPEN λ o. and_then (many NAME assignment_after) λ set.
    expect BRACE_CLOSE λ c. give (record { at = start.at; name = name_of n; interface = name_of i; assignments = set; close_at = c.at })

unfoldable pub operator_of : ℕ → Operator
operator_of c = elim (eqb c PLUS) [
  | true ↦ Plus
  | false ↦ elim (eqb c MINUS) [
    | true ↦ Minus
    | false ↦ elim (eqb c TIMES) [ true ↦ Times | false ↦ Divide ]
  ]
]

unfoldable pub apply_at : Token → Expression → Expression → Expression
unfolding operator_of
apply_at t a b = apply (operator_of t.class) t.at a b

unfoldable pub is_factor_operator : ℕ → Bool
is_factor_operator c = eqb c TIMES || eqb c DIVIDE

unfoldable pub is_term_operator : ℕ → Bool
is_term_operator c = eqb c PLUS || eqb c MINUS

-- "product: factors under `*` `/`", "grouping to the left"
unfoldable pub term_of : Parser Expression → Parser Expression
unfolding chain is_factor_operator apply_at
term_of factor = chain is_factor_operator apply_at factor

-- "Sum: products under `+` `-`", "grouping to the left"
unfoldable pub expression_of : Parser Expression → Parser Expression
unfolding chain is_term_operator apply_at term_of
expression_of factor = chain is_term_operator apply_at (term_of factor)

-- "name `.` member"
unfoldable pub member_reader : Parser Expression
unfolding expect give name_of
member_reader =
    expect NAME λ n. expect DOT λ t. expect NAME λ m. give (member (name_of n) (name_of m))

-- "Factor: literal without sign, name `.` member", or else
unfoldable pub simple_or : Parser Expression → Parser Expression
unfolding if_next expect give and_then member_reader number_reader
simple_or otherwise =
    if_next NAME member_reader
    (if_next TRUE (expect TRUE λ t. give (literal (truth true)))
    (if_next FALSE (expect FALSE λ t. give (literal (truth false)))
    (if_next WHOLE_NUMBER (and_then (number_reader false) λ l. give (literal l))
    (if_next REAL_NUMBER (and_then (number_reader false) λ l. give (literal l))
    otherwise))))

-- "`real` `(` sum `)`, `(` sum `)`, or `-` factor", whose factors `inside` reads
unfoldable pub opener_reader : Parser Expression → Parser Expression
unfolding if_next expect and_then expression_of give
opener_reader inside =
    if_next REAL
    (expect REAL λ r. expect ROUND_OPEN λ o. and_then (expression_of inside) λ e. expect ROUND_CLOSE λ t. give (to_real r.at e))
    (if_next ROUND_OPEN
    (expect ROUND_OPEN λ o. and_then (expression_of inside) λ e. expect ROUND_CLOSE λ t. give e)
    (expect MINUS λ m. and_then inside λ e. give (negate m.at e)))

-- "At most 16 openers .. enclose one another; the 17th breaks the grammar": by the openers that may still come
unfoldable pub factor_reader : ℕ → Parser Expression
unfolding simple_or opener_reader halt
factor_reader zero = simple_or halt
factor_reader (suc left) = simple_or (opener_reader (factor_reader left))

unfoldable pub term_reader : ℕ → Parser Expression
unfolding term_of factor_reader
term_reader left = term_of (factor_reader left)

unfoldable pub expression_reader : ℕ → Parser Expression
unfolding expression_of factor_reader
expression_reader left = expression_of (factor_reader left)

-- "Place: name `:` interface declares a variable; a bare name is an entity or a variable of the rule"
unfoldable pub target_reader : Parser Target
unfolding expect if_next give name_of
target_reader =
    expect NAME λ n.
    if_next COLON
    (expect COLON λ t. expect NAME λ i. give (record { name = name_of n; declares = some (name_of i) }))
    (give (record { name = name_of n; declares = none }))

-- "optionally `with` attribute `=` sum"
unfoldable pub filter_reader : ℕ → Parser (Option Filter)
unfolding if_next expect and_then expression_reader give name_of
filter_reader left =
    if_next WITH
    (expect WITH λ t. expect NAME λ n. expect EQUALS λ q. and_then (expression_reader left) λ e.
    give (some (record { attribute = name_of n; equals_at = q.at; expression = e })))
    (give none)

-- after `value`: "`changed` or .. `=` sum"
unfoldable pub test_reader : ℕ → Parser Test
unfolding if_next expect and_then expression_reader give
test_reader left =
    if_next CHANGED (expect CHANGED λ t. give changed)
    (expect EQUALS λ q. and_then (expression_reader left) λ e. give (equals q.at e))

-- "Clause: `event` name `from` place, optionally `with` .., then `value` .."
unfoldable pub clause_reader : ℕ → Parser Condition
unfolding expect and_then target_reader filter_reader test_reader give name_of
clause_reader left =
    expect EVENT λ start. expect NAME λ n. expect FROM λ t. and_then target_reader λ p. and_then (filter_reader left) λ f. expect VALUE λ v.
    and_then (test_reader left) λ x. give (clause (record { at = start.at; event = name_of n; target = p; filter = f; test = x }))

unfoldable pub both_at : Token → Condition → Condition → Condition
both_at t a b = both a b

unfoldable pub either_at : Token → Condition → Condition → Condition
either_at t a b = either a b

unfoldable pub is_and : ℕ → Bool
is_and c = eqb c AND

unfoldable pub is_or : ℕ → Bool
is_or c = eqb c OR

-- "clauses under `and` and `or`, `and` binding tighter"
unfoldable pub conjunction_of : Parser Condition → Parser Condition
unfolding chain is_and both_at
conjunction_of atom = chain is_and both_at atom

unfoldable pub condition_of : Parser Condition → Parser Condition
unfolding chain is_or either_at conjunction_of
condition_of atom = chain is_or either_at (conjunction_of atom)

-- "parentheses allowed": `(` condition `)`, or a clause; by the openers that may still come
unfoldable pub atom_reader : ℕ → Parser Condition
unfolding if_next expect and_then condition_of clause_reader give
atom_reader zero = clause_reader zero
atom_reader (suc left) =
    if_next ROUND_OPEN
    (expect ROUND_OPEN λ o. and_then (condition_of (atom_reader left)) λ c. expect ROUND_CLOSE λ t. give c)
    (clause_reader (suc left))

unfoldable pub conjunction_reader : ℕ → Parser Condition
unfolding conjunction_of atom_reader
conjunction_reader left = conjunction_of (atom_reader left)

unfoldable pub condition_reader : ℕ → Parser Condition
unfolding condition_of atom_reader
condition_reader left = condition_of (atom_reader left)

-- "Call: `action` name `(` sum `)` `on` place, optionally `with` attribute `=` sum"
unfoldable pub call_reader : Parser Call
unfolding expect and_then expression_reader target_reader filter_reader give name_of
call_reader =
    expect ACTION λ start. expect NAME λ n. expect ROUND_OPEN λ o. and_then (expression_reader OPENERS) λ e. expect ROUND_CLOSE λ t.
    expect ON λ u. and_then target_reader λ p. and_then (filter_reader OPENERS) λ f.
    give (record { at = start.at; action = name_of n; open_at = o.at; parameter = e; target = p; filter = f })

-- after a `,`
unfoldable pub call_after : Token → Parser Call
unfolding call_reader
call_after comma = call_reader

-- document 02, order 6: "A rule may begin `when rank` with one number .., no `r`"
unfoldable pub priority_reader : Parser (Option Priority)
unfolding if_next expect give
priority_reader =
    if_next RANK (expect RANK λ t. expect WHOLE_NUMBER λ n. give (some (record { number = n.value; at = n.at })))
    (give none)

-- after `when`, and its priority: "condition `trigger` calls separated by `,` `end`"
unfoldable pub rule_after : Token → Parser Rule
unfolding expect and_then priority_reader condition_reader call_reader many call_after give
rule_after start =
    and_then priority_reader λ k. and_then (condition_reader OPENERS) λ c. expect TRIGGER λ t. and_then call_reader λ first.
    and_then (many COMMA call_after) λ others. expect END λ u. give (record { at = start.at; priority = k; condition = c; calls = first ∷ others })

-- "File: interfaces, then entities, then `rules`, rules, `end`; each group may be empty"
unfoldable pub file_reader : Parser File
unfolding expect and_then many interface_after entity_after rule_after give
file_reader =
    and_then (many INTERFACE interface_after) λ is. and_then (many ENTITY entity_after) λ es. expect RULES λ t.
    and_then (many WHEN rule_after) λ rs. expect END λ u. give (record { interfaces = is; entities = es; rules = rs })
