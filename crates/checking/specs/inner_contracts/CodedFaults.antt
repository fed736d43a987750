-- Faults by their numbers, whatever numbers those are: what is found, and what two parts of a rule have together.
use Rattle.std.specs.Prelude.{◌≡◌, Some, None}
use Rattle.std.specs.Prelude as code
use mathlib.Core.List.{List, ◌++◌}
use Rattle.std.proofs.Math.Option.{Option, none, some}
use Rattle.checking.specs.declared.coded_faults.CodedFault.{CodedFault}
use Rattle.checking.specs.declared.coded_faults.CodedPart.{CodedPart}
use Rattle.checking.specs.definitions.Faults.{Fault, fault, earliest}

unfoldable pub coded_as : code.Option CodedFault → Option Fault
coded_as None = none
coded_as (Some f) = some (fault f.code f.at)

-- the earliest of some faults of names, and of some of kinds
pub record CodedPartOf (names kinds : List Fault) (r : CodedPart) : Type 0 where
  pub names_found : coded_as r.names ≡ earliest names
  pub kinds_found : coded_as r.kinds ≡ earliest kinds

pub record CodedJoined (p q r : CodedPart) : Type 0 where
  pub next_is : r.next ≡ q.next
  pub part : (names kinds names' kinds' : List Fault) → CodedPartOf names kinds p → CodedPartOf names' kinds' q
      → CodedPartOf (names ++ names') (kinds ++ kinds') r
