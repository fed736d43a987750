-- What is printed reads back: every storable value of every kind as an event's field, and every number of a line.
use mathlib.Core.Path.{◌≡◌}
use Prim.Native.Nat.{ℕ, ◌<◌}
use native.Mathlib.Nat.{lt_trans}
use lib.Dec.{T, lit<}
use Rattle.values.specs.declared.Value.{Value}
use Rattle.values.specs.declared.Kind.{Kind}
use Rattle.std.specs.Prelude.{Some}
use Rattle.values.specs.definitions.Storable.{storable}
use Rattle.values.specs.definitions.Forms.{decimal, printed, magnitude, event_field, read_back}
use Rattle.values.proofs.laws.FormLaws.{value_back, decimal_back}

pub printed_reads_back : (k : Kind) (v : Value) → T (storable k v) → event_field k (printed v) ≡ read_back v
printed_reads_back = value_back

pub number_reads_back : (n : ℕ) → n < 4294967296 → magnitude (decimal n) ≡ Some n
number_reads_back n h = decimal_back n (lt_trans h (lit< tt))
