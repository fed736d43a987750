-- What the walk over a rule promises: the earliest faults of its names and of its kinds, for every bench for which columns and directory stand.
use Rattle.std.specs.Prelude.{ℕ, ◌≡◌, List}
use Rattle.text.specs.definitions.Tokens.{WHEN}
use Rattle.text.specs.definitions.Syntax.{Rule}
use Rattle.text.specs.definitions.Grammar.{rule_after}
use Rattle.checking.specs.declared.faults.Faults.{Faults}
use Rattle.checking.specs.definitions.Faults.{earliest}
use Rattle.checking.specs.inner_contracts.FoundFaults.{found_as}
use Rattle.checking.specs.definitions.NameFaults.{rule_name_faults}
use Rattle.checking.specs.definitions.KindFaults.{rule_kind_faults}
use Rattle.checking.specs.inner_contracts.Directory.{Begins, Bench}
use Rattle.checking.specs.inner_contracts.DirectoryReads.{Few}

-- of the rule that begins with token number `at`
pub record RuleFaults (text classes offsets lengths d : List ℕ) (at : ℕ) (r : Faults) : Type 0 where
  pub names : (w : Bench text classes offsets lengths d) → Few w.file → (x : Rule) → Begins w.tokens at WHEN rule_after x
      → found_as r.names ≡ earliest (rule_name_faults w.file x)
  pub kinds : (w : Bench text classes offsets lengths d) → Few w.file → (x : Rule) → Begins w.tokens at WHEN rule_after x
      → found_as r.kinds ≡ earliest (rule_kind_faults w.file x)
