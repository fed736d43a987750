-- What is left to put makes of the slice now what all of it makes of the slice at first.
use Rattle.std.proofs.Common.{◌≡◌, ◌+◌, drop}
use Rattle.values.specs.definitions.Bytes.{overwritten}
use Rattle.values.proofs.slices.put_bytes.Given as goal

abbrev pub invariant-loop-i : goal.invariant-loop-i
invariant-loop-i l = overwritten l.s (l.at + l.i) (drop l.i l.t) ≡ overwritten l.fn.s l.at l.t
