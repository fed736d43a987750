-- The digits that are left, after the value so far, give what all of them give; each takes 4 bits at most.
use Rattle.std.proofs.Common.{◌≡◌, ◌<◌, ◌*◌, ◌^◌, drop}
use Rattle.text.specs.definitions.Tokens.{digits_value}
use Rattle.text.proofs.tokens.digits_value.Given as goal

abbrev pub invariant-loop-b : goal.invariant-loop-b
invariant-loop-b l = (l.n < 2 ^ (4 * l.b-index)) × (digits_value l.n (drop l.b-index l.digits) ≡ digits_value 0 l.digits)
