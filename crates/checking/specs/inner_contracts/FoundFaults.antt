-- What a walk of the check finds, as the earliest fault of a list.
use Rattle.std.specs.Prelude.{ℕ, Some, None}
use Rattle.std.specs.Prelude as code
use Rattle.std.proofs.Math.Option.{Option, none, some}
use Rattle.checking.specs.declared.faults.FaultKind.{FaultKind}
use Rattle.checking.specs.declared.faults.FaultKind.TheVariants.{TooLong, NoToken, UnfitToken, HighPriority, BeyondCount, DeclaredAgain, Unknown, AttributeUnset, UnfitKinds}
use Rattle.checking.specs.declared.faults.Fault as declared
use Rattle.checking.specs.definitions.Faults.{Fault, fault, earlier}

-- a fault of the code, if there is one
abbrev pub Found : Type 0
Found = code.Option declared.Fault

-- the table's number
abbrev pub fault_code : FaultKind → ℕ
fault_code TooLong = 11
fault_code NoToken = 12
fault_code UnfitToken = 13
fault_code HighPriority = 44
fault_code BeyondCount = 14
fault_code DeclaredAgain = 15
fault_code Unknown = 16
fault_code AttributeUnset = 17
fault_code UnfitKinds = 18

unfoldable pub found_as : Found → Option Fault
found_as None = none
found_as (Some f) = some (fault (fault_code f.kind) f.at)

-- the earlier of two, the left one where neither is earlier
unfoldable pub merged : Option Fault → Option Fault → Option Fault
unfolding earlier
merged none b = b
merged (some f) b = some (earlier f b)
