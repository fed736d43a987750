-- Which bench texts the documents admit, said without the order of refusals: by the grammar's languages, the priorities, counts, names and kinds.
use Rattle.std.specs.Prelude.{ℕ, ◌≤◌, ◌≡◌, List, [], length}
use Rattle.text.specs.definitions.Tokens.{Token, tokens, tokens_of}
use Rattle.text.specs.definitions.Syntax.{File}
use Rattle.text.specs.definitions.Language.{Grammatical}
use Rattle.text.specs.definitions.Parse.{grammatical, parse}
use Rattle.checking.specs.definitions.PriorityFaults.{priority_faults}
use Rattle.checking.specs.definitions.CountFaults.{count_faults}
use Rattle.checking.specs.definitions.NameFaults.{name_faults}
use Rattle.checking.specs.definitions.KindFaults.{kind_faults}
use Rattle.checking.specs.definitions.Verdict.{MOST_BYTES}

-- no priority above 9, no item beyond a count, no fault of names, none of kinds
pub record Faultless (f : File) : Type 0 where
  pub priorities : priority_faults f ≡ []
  pub counts : count_faults f ≡ []
  pub names : name_faults f ≡ []
  pub kinds : kind_faults f ≡ []

-- a text within the limit, all of it words; these are a grammatical file, and its tree has no fault (the parser makes
-- a tree of words exactly if they are a grammatical file: `parser_exact`)
pub record Admitted (text : List ℕ) : Type 0 where
  pub short : length text ≤ MOST_BYTES
  pub words : List Token
  pub are_words : tokens_of text ≡ tokens words
  pub are_file : Grammatical words
  pub faultless : (f : File) → parse (length text) words ≡ grammatical f → Faultless f
