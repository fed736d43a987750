-- The steps of the check from the answer of `read` to its own, and of the search for where an entity's name stands.
use Rattle.std.specs.Prelude.{ℕ, ◌≡◌, List, true}
use Rattle.text.specs.declared.SyntaxError.{SyntaxError}
use Rattle.text.specs.declared.SyntaxError.TheVariants as syntax
use Rattle.text.specs.inner_contracts.TokenTable.{TokenColumns, columns_of}
use Rattle.checking.specs.declared.faults.FaultKind.TheVariants.{TooLong, NoToken, UnfitToken}
use Rattle.checking.specs.declared.check.CheckError.{CheckError}
use Rattle.checking.specs.declared.check.CheckError.TheVariants.{NoRoom, Refused}
use Rattle.checking.specs.declared.names.Span.{Span}
use Rattle.checking.specs.definitions.Verdict.{MOST_BYTES}
use Rattle.checking.specs.definitions.EntitySpan.{entity_span}
use Rattle.checking.specs.inner_contracts.CheckedBench.{Checked, has_room, Checks}

-- what `read` refuses
abbrev pub error_as : SyntaxError → CheckError
error_as syntax.TooLong = Refused (record { kind = TooLong; at = MOST_BYTES })
error_as (syntax.NoTokenAt p) = Refused (record { kind = NoToken; at = p })
error_as (syntax.UnfitAt p) = Refused (record { kind = UnfitToken; at = p })
error_as syntax.NoRoom = NoRoom

-- where the name of entity number n stands, by the answer of a check that had room
pub record SpansEntity (text os ls e : List ℕ) (x : Checked) (n : ℕ) (r : Span) : Type 0 where
  pub told : (cs vs d : List ℕ) (t : TokenColumns) → Checks text t (columns_of cs os ls vs) d e x → has_room text t d ≡ true → r ≡ entity_span text n
