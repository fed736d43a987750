-- What a caller has once the rules of a file are resolved: what their names mean, what variables they have and what cells their conditions read.
use Rattle.std.specs.Prelude.{ℕ, ◌≡◌, List, length}
use Rattle.checking.specs.inner_contracts.Resolution.{References, Scopes}
use Rattle.cycles.specs.inner_contracts.ReadSets.{ReadsAre}

-- the columns of references and of scopes, which were refs and scopes
pub record RulesResolved (text classes offsets lengths d refs scopes new_refs new_scopes : List ℕ) : Type 0 where
  pub references : References text classes offsets lengths d new_refs
  pub scopes_are : Scopes text classes offsets lengths d new_scopes
  pub reads_are : ReadsAre text classes offsets lengths d new_scopes
  pub refs_kept : length new_refs ≡ length refs
  pub scopes_kept : length new_scopes ≡ length scopes
