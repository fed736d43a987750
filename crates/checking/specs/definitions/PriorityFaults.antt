-- "The first rank above 9 is refused by 44, at its place" (document 02, order 6).
use Rattle.std.specs.Prelude.{ℕ, leb}
use mathlib.Core.List.{List, [], flat_map}
use Rattle.std.proofs.Math.Option.{Option, none, some}
use Rattle.text.specs.definitions.Syntax.{Priority, File}
use Rattle.checking.specs.definitions.Faults.{Fault, fault_unless}

-- "one number 0 to 9"
abbrev pub MOST_PRIORITY : ℕ
MOST_PRIORITY = 9

-- 44, place of the number
unfoldable pub number_faults : Priority → List Fault
unfolding fault_unless
number_faults k = fault_unless (leb k.number MOST_PRIORITY) 44 k.at

unfoldable pub given_faults : Option Priority → List Fault
unfolding number_faults
given_faults none = []
given_faults (some k) = number_faults k

unfoldable pub priority_faults : File → List Fault
unfolding flat_map given_faults
priority_faults f = flat_map (λ r. given_faults r.priority) f.rules
