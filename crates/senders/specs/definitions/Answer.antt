-- Refused by a code of the table, or accepted.
use Rattle.std.specs.Prelude.{ℕ, Bool, true, false}
use Rattle.std.proofs.Math.Option.{Option, none, some}

pub data Answer (A : Type 0) : Type 0 where
  refused : ℕ → Answer A
  accepted : A → Answer A

module _ {A B : Type 0} where
  unfoldable pub or_refused : ℕ → Option A → (A → Answer B) → Answer B
  or_refused code none next = refused code
  or_refused code (some a) next = next a

  unfoldable pub if_accepted : Answer A → (A → Answer B) → Answer B
  if_accepted (refused code) next = refused code
  if_accepted (accepted a) next = next a

unfoldable pub if_passed : {A : Type 0} → ℕ → Bool → Answer A → Answer A
if_passed code false next = refused code
if_passed code true next = next
