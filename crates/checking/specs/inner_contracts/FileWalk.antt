-- What the walks over the rules and over a whole file promise, and which of a grammatical file's faults the check reports.
use Rattle.std.specs.Prelude.{ℕ, ◌≤◌, ◌≡◌, length}
use mathlib.Core.List.{List, flat_map}
use Rattle.std.proofs.Math.Option.{Option, none, some}
use Rattle.text.specs.definitions.Tokens.{Token}
use Rattle.text.specs.definitions.Syntax.{File}
use Rattle.text.specs.definitions.Readers.{read}
use Rattle.text.specs.definitions.Grammar.{file_reader}
use Rattle.checking.specs.declared.faults.Faults.{Faults}
use Rattle.checking.specs.definitions.Faults.{Fault, earliest}
use Rattle.checking.specs.inner_contracts.FoundFaults.{Found, found_as}
use Rattle.checking.specs.definitions.CountFaults.{MOST_RULES}
use Rattle.checking.specs.definitions.NameFaults.{rule_name_faults, name_faults}
use Rattle.checking.specs.definitions.KindFaults.{rule_kind_faults, kind_faults}
use Rattle.checking.specs.definitions.Verdict.{accepted, refused_by, file_verdict}
use Rattle.checking.specs.inner_contracts.Directory.{ColumnsOf, DIRECTORY, DirectoryOf, Bench}
use Rattle.checking.specs.inner_contracts.DirectoryReads.{Few}
use Rattle.checking.specs.inner_contracts.CheckedBench.{ValuesOf}

pub record RulesFound (text classes offsets lengths d : List ℕ) (r : Faults) : Type 0 where
  pub names : (w : Bench text classes offsets lengths d) → Few w.file → length w.file.rules ≤ MOST_RULES
      → found_as r.names ≡ earliest (flat_map (rule_name_faults w.file) w.file.rules)
  pub kinds : (w : Bench text classes offsets lengths d) → Few w.file → length w.file.rules ≤ MOST_RULES
      → found_as r.kinds ≡ earliest (flat_map (rule_kind_faults w.file) w.file.rules)

pub record FileFound (text classes offsets lengths d : List ℕ) (r : Faults) : Type 0 where
  pub names : (w : Bench text classes offsets lengths d) → Few w.file → length w.file.rules ≤ MOST_RULES
      → found_as r.names ≡ earliest (name_faults w.file)
  pub kinds : (w : Bench text classes offsets lengths d) → Few w.file → length w.file.rules ≤ MOST_RULES
      → found_as r.kinds ≡ earliest (kind_faults w.file)

-- the first that is one
unfoldable pub or_else : Option Fault → Option Fault → Option Fault
or_else none b = b
or_else (some f) b = some f

-- a grammatical file, its tokens in the columns, and room for its directory
pub record Columned (text classes offsets lengths values d : List ℕ) : Type 0 where
  pub file : File
  pub tokens : List Token
  pub columns : ColumnsOf text classes offsets lengths tokens
  pub valued : ValuesOf values tokens
  pub reads : file_reader tokens ≡ read file (length tokens)
  pub numbers : length classes ≤ 65535
  pub room : DIRECTORY ≤ length d

-- the fault that a file is refused for, and the directory, which was d and is e: that of the file, if there is no fault
pub record Judged (text classes offsets lengths values d e : List ℕ) (r : Found) : Type 0 where
  pub verdict : (w : Columned text classes offsets lengths values d) → refused_by (found_as r) (accepted w.file) ≡ file_verdict w.file
  pub directory : (w : Columned text classes offsets lengths values d) → found_as r ≡ none → DirectoryOf w.file w.tokens e
  pub few : (w : Columned text classes offsets lengths values d) → found_as r ≡ none → Few w.file
  pub few_rules : (w : Columned text classes offsets lengths values d) → found_as r ≡ none → length w.file.rules ≤ MOST_RULES
