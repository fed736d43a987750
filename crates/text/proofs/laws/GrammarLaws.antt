-- Each reader of the grammar parses its language, term by term as the reader is made. A set of classes says with what its words may go on.
use Prim.Native.Nat.{ℕ, zero, suc}
use mathlib.Core.Path.{◌≡◌, refl, sym, ◌∙◌}
use mathlib.Core.List.{List, ◌∷◌}
use mathlib.Core.Bool.{Bool, true, false}
use Rattle.text.specs.definitions.Tokens.{
  Token,
  NAME,
  WHOLE_NUMBER,
  REAL_NUMBER,
  INTERFACE,
  ATTRIBUTE,
  EVENT,
  ACTION,
  ENTITY,
  WHEN,
  WITH,
  CHANGED,
  TRIGGER,
  END,
  TRUE,
  FALSE,
  WHOLE,
  BOOL,
  REAL,
  BRACE_OPEN,
  BRACE_CLOSE,
  ROUND_OPEN,
  ROUND_CLOSE,
  COLON,
  EQUALS,
  COMMA,
  DOT,
  MINUS,
  RANK,
}
use Rattle.text.specs.definitions.Syntax.{Sort, attribute, event, Literal, Condition, Expression, literal, whole_number, real_number}
use Rattle.text.specs.definitions.Readers.{read, Parser, shift, give, halt, expected, expect, pick, next_is, if_next, and_then}
use Rattle.text.specs.definitions.Grammar.{
  kind_reader,
  member_after,
  action_after,
  interface_after,
  number_reader,
  literal_reader,
  assignment_after,
  entity_after,
  apply_at,
  is_factor_operator,
  is_term_operator,
  term_of,
  expression_of,
  member_reader,
  simple_or,
  opener_reader,
  factor_reader,
  term_reader,
  expression_reader,
  target_reader,
  filter_reader,
  test_reader,
  clause_reader,
  both_at,
  either_at,
  is_and,
  is_or,
  conjunction_of,
  condition_of,
  atom_reader,
  conjunction_reader,
  condition_reader,
  call_reader,
  call_after,
  priority_reader,
  rule_after,
  file_reader,
}
use Rattle.text.specs.definitions.Syntax.{OPENERS}
use Rattle.text.specs.definitions.Language.{
  Language,
  Only,
  ◌⨾◌,
  ◌or◌,
  first,
  second,
  Many,
  kind_language,
  attribute_language,
  event_language,
  action_language,
  interface_language,
  number_language,
  literal_language,
  entity_language,
  term_over,
  expression_over,
  simple_language,
  factor_language,
  expression_language,
  target_language,
  filter_language,
  clause_language,
  conjunction_over,
  condition_over,
  atom_language,
  call_language,
  priority_language,
  rule_language,
  file_language,
}
use Rattle.text.proofs.laws.ReaderLaws.{if_next_or_halt, if_next_same, expect_takes, and_give_reads}
use Rattle.text.proofs.laws.LanguageLaws.{
  ◌⊆◌,
  either_never,
  in_first,
  either_swap,
  from_maybe_then,
  to_maybe_then,
  ∅,
  is,
  ◌∪◌,
  leads_only,
  leads_either,
  among_self,
  among_left,
  among_right,
  Avoids,
  avoids_then,
  avoids_never,
  avoids_one,
  Follows,
  follows_avoids,
  follows_maybe,
  look_ahead,
}
use Rattle.text.proofs.laws.PredictiveLaws.{
  Parses,
  parses_in,
  parses_among,
  parses_same,
  expect_parses,
  expect_last,
  and_then_parses,
  and_then_last,
  if_next_parses,
  maybe_parses,
  chain_parses,
  many_parses,
}

pub kind_parses : Parses kind_reader kind_language ∅
unfolding kind_reader kind_language
kind_parses =
    if_next_parses WHOLE (search look_ahead) (search look_ahead) (expect_last _)
    (if_next_parses BOOL (search look_ahead) (search look_ahead) (expect_last _)
    (expect_last _))

-- after `attribute` or `event`
pub member_after_parses : (s : Sort) (start : Token) → Parses (member_after s start) (Only NAME ⨾ Only COLON ⨾ kind_language) ∅
unfolding member_after
member_after_parses s start =
    expect_parses λ n.
    expect_parses λ t.
    and_then_last _ kind_parses

pub action_after_parses : (start : Token) → Parses (action_after start) (Only NAME ⨾ Only ROUND_OPEN ⨾ kind_language ⨾ Only ROUND_CLOSE) ∅
unfolding action_after
action_after_parses start =
    expect_parses λ n.
    expect_parses λ o.
    and_then_parses kind_parses (search look_ahead) λ k.
    expect_last _

pub interface_after_parses : (start : Token) → Parses (interface_after start)
    (Only NAME ⨾ Only BRACE_OPEN ⨾ Many attribute_language ⨾ Many event_language ⨾ Many action_language ⨾ Only BRACE_CLOSE) ∅
unfolding interface_after attribute_language event_language action_language
interface_after_parses start =
    expect_parses λ n.
    expect_parses λ o.
    and_then_parses (many_parses ATTRIBUTE refl (member_after_parses attribute)) (search look_ahead) λ attributes.
    and_then_parses (many_parses EVENT refl (member_after_parses event)) (search look_ahead) λ events.
    and_then_parses (many_parses ACTION refl action_after_parses) (search look_ahead) λ actions.
    expect_last _

pub number_parses : (negative : Bool) → Parses (number_reader negative) number_language ∅
unfolding number_reader number_language
number_parses negative =
    if_next_parses WHOLE_NUMBER (search look_ahead) (search look_ahead) (expect_last _)
    (expect_last _)

pub literal_parses : Parses literal_reader literal_language ∅
unfolding literal_reader literal_language number_language
literal_parses =
    if_next_parses TRUE (search look_ahead) (search look_ahead) (expect_last _)
    (if_next_parses FALSE (search look_ahead) (search look_ahead) (expect_last _)
    (parses_in to_maybe_then from_maybe_then
    (if_next_parses MINUS (search look_ahead) (search look_ahead) (expect_parses λ t. number_parses true)
    (number_parses false))))

-- after an attribute's name
pub assignment_after_parses : (n : Token) → Parses (assignment_after n) (Only EQUALS ⨾ literal_language) ∅
unfolding assignment_after
assignment_after_parses n =
    expect_parses λ e.
    and_then_last _ literal_parses

pub entity_after_parses : (start : Token) → Parses (entity_after start)
    (Only NAME ⨾ Only COLON ⨾ Only NAME ⨾ Only BRACE_OPEN ⨾ Many (Only NAME ⨾ Only EQUALS ⨾ literal_language) ⨾ Only BRACE_CLOSE) ∅
unfolding entity_after
entity_after_parses start =
    expect_parses λ n.
    expect_parses λ t.
    expect_parses λ i.
    expect_parses λ o.
    and_then_parses (many_parses NAME refl assignment_after_parses) (search look_ahead) λ set.
    expect_last _

-- the classes that go on with a term, and with an expression
abbrev pub term_goes_on : ℕ → Bool
term_goes_on = is_factor_operator ∪ ∅

abbrev pub expression_goes_on : ℕ → Bool
expression_goes_on = is_term_operator ∪ term_goes_on

module _ {factor : Parser Expression} {F : Language} (q : Parses factor F ∅) where
  pub term_of_parses : Parses (term_of factor) (term_over F) term_goes_on
  unfolding term_of term_over is_factor_operator
  term_of_parses = chain_parses apply_at (leads_either leads_only leads_only) (search look_ahead) q

  pub expression_of_parses : Parses (expression_of factor) (expression_over F) expression_goes_on
  unfolding expression_of expression_over is_term_operator is_factor_operator
  expression_of_parses = chain_parses apply_at (leads_either leads_only leads_only) (search look_ahead) term_of_parses

pub member_parses : Parses member_reader (Only NAME ⨾ Only DOT ⨾ Only NAME) ∅
unfolding member_reader
member_parses =
    expect_parses λ n.
    expect_parses λ t.
    expect_last _

-- "literal without sign, name `.` member", or O, in the order of the reader's choices
abbrev Choices : Language → Language
Choices O = Only NAME ⨾ Only DOT ⨾ Only NAME or Only TRUE or Only FALSE or Only WHOLE_NUMBER or Only REAL_NUMBER or O

module _ {O : Language} where
  from_choices : Choices O ⊆ simple_language or O
  unfolding simple_language
  from_choices = record { holds = go }
    where
      go : {cs : List ℕ} → Choices O cs → (simple_language or O) cs
      go (first w) = first (second (second (second w)))
      go (second (first w)) = first (first w)
      go (second (second (first w))) = first (second (first w))
      go (second (second (second (first w)))) = first (second (second (first (first w))))
      go (second (second (second (second (first w))))) = first (second (second (first (second w))))
      go (second (second (second (second (second w))))) = second w

  to_choices : simple_language or O ⊆ Choices O
  unfolding simple_language
  to_choices = record { holds = go }
    where
      go : {cs : List ℕ} → (simple_language or O) cs → Choices O cs
      go (first (second (second (second w)))) = first w
      go (first (first w)) = second (first w)
      go (first (second (first w))) = second (second (first w))
      go (first (second (second (first (first w))))) = second (second (second (first w)))
      go (first (second (second (first (second w))))) = second (second (second (second (first w))))
      go (second w) = second (second (second (second (second w))))

-- the classes that a literal without sign or a member begins with
simple_begins : ℕ → Bool
simple_begins = is NAME ∪ is TRUE ∪ is FALSE ∪ is WHOLE_NUMBER ∪ is REAL_NUMBER

-- a number without sign, where its class has been seen
module _ (c : ℕ) (make : ℕ → Literal) (seen : (t : Token) (ts : List Token) → t.class ≡ c → number_reader false (t ∷ ts) ≡ read (make t.value) 1)
    (otherwise : Parser Expression) where
  number_seen : (ts : List Token) → if_next c (expect c λ t. give (literal (make t.value))) otherwise ts
      ≡ if_next c (and_then (number_reader false) λ l. give (literal l)) otherwise ts
  unfolding give shift
  number_seen = if_next_same c _ _ otherwise (λ t ts e.
      expect_takes c _ t ts e ∙ sym (and_give_reads (number_reader false) literal (make t.value) 1 (t ∷ ts) (seen t ts e)))

module _ (otherwise : Parser Expression) {O : Language} (o : (c : ℕ) → simple_begins c ≡ true → Avoids (is c) O)
    (q : Parses (if_next REAL_NUMBER (expect REAL_NUMBER λ t. give (literal (real_number false t.value))) otherwise) (Only REAL_NUMBER or O) ∅) where
  simple_or_parses : Parses (simple_or otherwise) (simple_language or O) ∅
  unfolding simple_begins simple_or number_reader if_next next_is pick expect expected shift give
  simple_or_parses =
      parses_in from_choices to_choices
      (if_next_parses NAME (search look_ahead) (search look_ahead depth 8) member_parses
      (if_next_parses TRUE (search look_ahead) (search look_ahead depth 8) (expect_last _)
      (if_next_parses FALSE (search look_ahead) (search look_ahead depth 8) (expect_last _)
      (parses_same (number_seen WHOLE_NUMBER (whole_number false) (λ t ts e. rw e) _)
      (if_next_parses WHOLE_NUMBER (search look_ahead) (search look_ahead depth 8) (expect_last _)
      (parses_same (number_seen REAL_NUMBER (real_number false) (λ t ts e. rw e) _)
      q))))))

module _ {inside : Parser Expression} {F : Language} (q : Parses inside F ∅) where
  pub opener_parses : Parses (opener_reader inside)
      (Only REAL ⨾ Only ROUND_OPEN ⨾ expression_over F ⨾ Only ROUND_CLOSE or Only ROUND_OPEN ⨾ expression_over F ⨾ Only ROUND_CLOSE or Only MINUS ⨾ F) ∅
  unfolding opener_reader is_term_operator is_factor_operator
  opener_parses =
      if_next_parses REAL (search look_ahead) (search look_ahead)
      (expect_parses λ r.
      expect_parses λ o.
      and_then_parses (expression_of_parses q) (search look_ahead) λ e.
      expect_last _)
      (if_next_parses ROUND_OPEN (search look_ahead) (search look_ahead)
      (expect_parses λ o.
      and_then_parses (expression_of_parses q) (search look_ahead) λ e.
      expect_last _)
      (expect_parses λ m.
      and_then_last _ q))

pub factor_parses : (left : ℕ) → Parses (factor_reader left) (factor_language left) ∅
unfolding factor_reader factor_language simple_begins
factor_parses zero =
    let real = parses_same (λ ts. sym (if_next_or_halt REAL_NUMBER _ ts)) (expect_last _) in
    parses_in either_never in_first (simple_or_parses halt (λ c e. avoids_never) (parses_in in_first either_never real))
factor_parses (suc left) =
    let openers = opener_parses (factor_parses left) in
    simple_or_parses (opener_reader (factor_reader left)) (λ c e. avoids_one {p = simple_begins} c e (search look_ahead))
    (if_next_parses REAL_NUMBER (search look_ahead) (search look_ahead) (expect_last _) openers)

pub term_parses : (left : ℕ) → Parses (term_reader left) (term_over (factor_language left)) term_goes_on
unfolding term_reader
term_parses left = term_of_parses (factor_parses left)

pub expression_parses : (left : ℕ) → Parses (expression_reader left) (expression_language left) expression_goes_on
unfolding expression_reader expression_language
expression_parses left = expression_of_parses (factor_parses left)

pub target_parses : Parses target_reader target_language (is COLON)
unfolding target_reader target_language
target_parses =
    expect_parses λ n.
    maybe_parses COLON _ (search look_ahead) among_self
    (expect_parses λ t.
    expect_last _)

-- with a filter
abbrev pub filter_goes_on : ℕ → Bool
filter_goes_on = is WITH ∪ expression_goes_on

pub filter_parses : (left : ℕ) → Parses (filter_reader left) (filter_language left) filter_goes_on
unfolding filter_reader filter_language
filter_parses left =
    maybe_parses WITH _ (search look_ahead) (among_left (is WITH) expression_goes_on)
    (expect_parses λ t.
    expect_parses λ n.
    expect_parses λ q.
    and_then_last _ (parses_among (among_right (is WITH) expression_goes_on) (expression_parses left)))

-- after `value`
pub test_parses : (left : ℕ) → Parses (test_reader left) (Only CHANGED or Only EQUALS ⨾ expression_language left) expression_goes_on
unfolding test_reader
test_parses left =
    if_next_parses CHANGED (search look_ahead) (search look_ahead) (expect_last _)
    (expect_parses λ q.
    and_then_last _ (expression_parses left))

pub clause_parses : (left : ℕ) → Parses (clause_reader left) (clause_language left) expression_goes_on
unfolding clause_reader clause_language filter_language is_term_operator is_factor_operator
clause_parses left =
    expect_parses λ start.
    expect_parses λ n.
    expect_parses λ t.
    and_then_parses target_parses (search look_ahead) λ p.
    and_then_parses (filter_parses left) (search look_ahead) λ f.
    expect_parses λ v.
    and_then_last _ (test_parses left)

-- with a conjunction, and with a condition
abbrev pub conjunction_goes_on : ℕ → Bool
conjunction_goes_on = is_and ∪ expression_goes_on

abbrev pub condition_goes_on : ℕ → Bool
condition_goes_on = is_or ∪ conjunction_goes_on

module _ {atom : Parser Condition} {A : Language} (q : Parses atom A expression_goes_on) where
  pub conjunction_of_parses : Parses (conjunction_of atom) (conjunction_over A) conjunction_goes_on
  unfolding conjunction_of conjunction_over is_and is_term_operator is_factor_operator
  conjunction_of_parses = chain_parses both_at leads_only (search look_ahead) q

  pub condition_of_parses : Parses (condition_of atom) (condition_over A) condition_goes_on
  unfolding condition_of condition_over is_or is_and is_term_operator is_factor_operator
  condition_of_parses = chain_parses either_at leads_only (search look_ahead) conjunction_of_parses

pub atom_parses : (left : ℕ) → Parses (atom_reader left) (atom_language left) expression_goes_on
unfolding atom_reader atom_language clause_language is_or is_and is_term_operator is_factor_operator
atom_parses zero = clause_parses zero
atom_parses (suc left) =
    let inside = condition_of_parses (atom_parses left) in
    parses_in either_swap either_swap
    (if_next_parses ROUND_OPEN (search look_ahead) (search look_ahead)
    (expect_parses λ o.
    and_then_parses inside (search look_ahead) λ c.
    expect_last _)
    (clause_parses (suc left)))

pub conjunction_parses : (left : ℕ) → Parses (conjunction_reader left) (conjunction_over (atom_language left)) conjunction_goes_on
unfolding conjunction_reader
conjunction_parses left = conjunction_of_parses (atom_parses left)

pub condition_parses : (left : ℕ) → Parses (condition_reader left) (condition_over (atom_language left)) condition_goes_on
unfolding condition_reader
condition_parses left = condition_of_parses (atom_parses left)

-- with a call
abbrev pub call_goes_on : ℕ → Bool
call_goes_on = is COLON ∪ filter_goes_on

filter_follows : (left : ℕ) → Follows (is COLON) call_goes_on (filter_language left)
unfolding filter_language
filter_follows left = follows_maybe (search look_ahead) (among_left (is COLON) filter_goes_on)

pub call_parses : Parses call_reader call_language call_goes_on
unfolding call_reader call_language is_term_operator is_factor_operator
call_parses =
    expect_parses λ start.
    expect_parses λ n.
    expect_parses λ o.
    and_then_parses (expression_parses OPENERS) (search look_ahead) λ e.
    expect_parses λ t.
    expect_parses λ u.
    and_then_parses target_parses (filter_follows OPENERS) λ p.
    and_then_last _ (parses_among (among_right (is COLON) filter_goes_on) (filter_parses OPENERS))

pub priority_parses : Parses priority_reader priority_language (is RANK)
unfolding priority_reader priority_language
priority_parses =
    maybe_parses RANK _ (search look_ahead) among_self
    (expect_parses λ t.
    expect_last _)

-- no condition begins with `rank`
condition_avoids : (left : ℕ) → Avoids (is RANK) (condition_over (atom_language left))
unfolding condition_over conjunction_over atom_language clause_language
condition_avoids zero = search look_ahead
condition_avoids (suc left) = search look_ahead

-- after `when`
pub rule_after_parses : (start : Token) → Parses (rule_after start)
    (priority_language ⨾ condition_over (atom_language OPENERS) ⨾ Only TRIGGER ⨾ call_language ⨾ Many (Only COMMA ⨾ call_language) ⨾ Only END) ∅
unfolding rule_after call_after is_or is_and is_term_operator is_factor_operator
rule_after_parses start =
    and_then_parses priority_parses (follows_avoids (avoids_then (condition_avoids OPENERS))) λ k.
    and_then_parses (condition_parses OPENERS) (search look_ahead) λ c.
    expect_parses λ t.
    and_then_parses call_parses (search look_ahead) λ call.
    and_then_parses (many_parses COMMA refl (λ comma. call_parses)) (search look_ahead) λ others.
    expect_last _

pub file_parses : Parses file_reader file_language ∅
unfolding file_reader file_language interface_language entity_language rule_language
file_parses =
    and_then_parses (many_parses INTERFACE refl interface_after_parses) (search look_ahead) λ interfaces.
    and_then_parses (many_parses ENTITY refl entity_after_parses) (search look_ahead) λ entities.
    expect_parses λ t.
    and_then_parses (many_parses WHEN refl rule_after_parses) (search look_ahead) λ rules.
    expect_last _
