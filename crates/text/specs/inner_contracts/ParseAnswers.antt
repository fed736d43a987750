-- What the parser in code answers: positions among tokens, found from their classes alone.
use Rattle.std.specs.Prelude.{ℕ, ◌+◌, ◌≤◌, ◌≡◌, List, [], ◌∷◌, map, Bool, true, false, ◌||◌, eqb, length, drop, Option, Some, None, Result, Ok, Err}
use Rattle.text.specs.declared.grammar.Unfit.{Unfit}
use Rattle.text.specs.definitions.Tokens.{Token, TRUE, FALSE, WHOLE_NUMBER, REAL_NUMBER}
use Rattle.text.specs.definitions.Syntax.{File}
use Rattle.text.specs.definitions.Readers.{Parse, read, unfit_after, Parser}
use Rattle.text.specs.definitions.Grammar.{file_reader}
use Rattle.text.specs.definitions.Parse.{ParseVerdict as Outcome, grammatical, ungrammatical_at, offset_of, parse}
use Rattle.text.specs.definitions.Answers.{refusal_answer}
use Rattle.text.specs.inner_contracts.EnumAnswers.{parsing_answer}

-- where a reading ended: the index of the next token, or of the first that fits nothing
pub data Parsed : Type 0 where
  Next : ℕ → Parsed
  Refused : ℕ → Parsed

-- what an answer in code says of that
abbrev pub parsed_of : Result ℕ Unfit → Parsed
parsed_of (Ok n) = Next n
parsed_of (Err u) = Refused u.at

abbrev pub classes_of : List Token → List ℕ
classes_of ts = map (λ t. t.class) ts

module _ {A : Type 0} where
  -- what is read from the token `at` on: the index of the next token, or of the first unfit one
  unfoldable pub parse_answer : ℕ → Parse A → Parsed
  parse_answer at (read a n) = Next (at + n)
  parse_answer at (unfit_after n) = Refused (at + n)

  -- the same from where another reading ended: what was refused stays so
  unfoldable pub answer_from : Parsed → Parser A → List Token → Parsed
  unfolding parse_answer
  answer_from (Next at) reader ts = parse_answer at (reader (drop at ts))
  answer_from (Refused at) reader ts = Refused at

  -- from `start` on the reader answers so, for all tokens that have these classes
  pub record ReadsAs (classes : List ℕ) (reader : Parser A) (start answer : Parsed) : Type 0 where
    pub told : (ts : List Token) → classes_of ts ≡ classes → answer ≡ answer_from start reader ts

  -- the same from the token at an index on, with an answer in code
  abbrev pub ReadsFrom : List ℕ → Parser A → ℕ → Result ℕ Unfit → Type 0
  ReadsFrom classes reader from r = ReadsAs classes reader (Next from) (parsed_of r)

-- whichever token comes next
unfoldable pub any_token : Parser Token
any_token [] = unfit_after 0
any_token (t ∷ ts) = read t 1

-- the classes that are still to be read; none after a refusal
unfoldable pub classes_from : List ℕ → Parsed → List ℕ
classes_from classes (Next at) = drop at classes
classes_from classes (Refused at) = []

-- the first of these classes
unfoldable pub first_class : List ℕ → Option ℕ
first_class [] = None
first_class (c ∷ cs) = Some c

-- there is a first, and it passes the test
unfoldable pub first_passes : (ℕ → Bool) → List ℕ → Bool
first_passes test [] = false
first_passes test (c ∷ cs) = test c

-- whether there is a token at an index, and its class passes the test
pub record Passes (classes : List ℕ) (at : ℕ) (test : ℕ → Bool) (b : Bool) : Type 0 where
  pub is : b ≡ first_passes test (classes_from classes (Next at))

unfoldable pub is_class : ℕ → ℕ → Bool
is_class c d = eqb d c

unfoldable pub is_either : ℕ → ℕ → ℕ → Bool
is_either c d e = eqb e c || eqb e d

-- the classes of literals without sign
unfoldable pub is_unsigned : ℕ → Bool
is_unsigned c = (eqb c TRUE || eqb c FALSE) || (eqb c WHOLE_NUMBER || eqb c REAL_NUMBER)

-- items from the token at an index on, each of which begins with a token of this class: `item` says what may be read from the token after it on
pub data Repeats (classes : List ℕ) (first : ℕ) (item : ℕ → Result ℕ Unfit → Type 0) : ℕ → Result ℕ Unfit → Type 0 where
  none_begins : {at : ℕ} → Passes classes at (is_class first) false → Repeats classes first item at (Ok at)
  item_unfit : {at : ℕ} {u : Unfit} → Passes classes at (is_class first) true → item (at + 1) (Err u) → Repeats classes first item at (Err u)
  item_read : {at next : ℕ} {r : Result ℕ Unfit} → Passes classes at (is_class first) true → item (at + 1) (Ok next) → Repeats classes first item next r
      → Repeats classes first item at r

-- the tokens make a file, all of them
pub record MakesFile (ts : List Token) : Type 0 where
  pub file : File
  pub reads : file_reader ts ≡ read file (length ts)
  pub parses : (end : ℕ) → parse end ts ≡ grammatical file

-- the token i is the first unfit one, in a text of any length; there is none where the tokens end early
pub record UnfitAt (ts : List Token) (i : ℕ) : Type 0 where
  pub within : i ≤ length ts
  pub parses : (end : ℕ) → parse end ts ≡ ungrammatical_at (offset_of end (drop i ts))

unfoldable pub Agrees : List Token → Result (Unit {0}) Unfit → Type 0
Agrees ts (Ok u) = MakesFile ts
Agrees ts (Err u) = UnfitAt ts u.at

-- document 01's answer to what tokens parse to
unfoldable pub outcome_answer : Outcome → ℕ
outcome_answer (grammatical f) = 0
outcome_answer (ungrammatical_at p) = refusal_answer 13 p

-- the parser answers so, for all tokens that have these classes: with document 01's number, in a text of any length
pub record ParsesAs (classes : List ℕ) (answer : Result (Unit {0}) Unfit) : Type 0 where
  pub answered : (ts : List Token) → classes_of ts ≡ classes → (end : ℕ) → parsing_answer end ts answer ≡ outcome_answer (parse end ts)
  pub told : (ts : List Token) → classes_of ts ≡ classes → Agrees ts answer
