-- What stands in the room for a bench's columns.
use Rattle.std.specs.Prelude.{ℕ, ◌≤◌, ◌≡◌, List, length}
use Rattle.checking.specs.inner_contracts.CheckedBench.{CheckedBench}
use Rattle.cycles.specs.declared.rules.Rules.{Rules}
use Rattle.cycles.specs.inner_contracts.Bundles.{of_bench}
use Rattle.cycles.specs.inner_contracts.ReadSets.{SCOPES_BYTES}
use Rattle.senders.specs.inner_contracts.Advancing.{ResolvedBench}

-- an accepted text in columns, with room for what its rules' names resolve to
pub record Stands (text classes offsets lengths literals d refs scopes : List ℕ) : Type 0 where
  pub checked : CheckedBench text classes offsets lengths literals d
  pub room : length classes ≤ length refs
  pub scopes_room : SCOPES_BYTES ≤ length scopes

-- the columns of an accepted text, with its rules' names resolved
pub record RulesLent (text : List ℕ) (rules : Rules) : Type 0 where
  pub text_is : rules.columns.text.now ≡ text
  pub resolved : of_bench ResolvedBench rules
