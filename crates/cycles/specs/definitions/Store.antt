-- What the machine works on (document 01, "State: .."): its two stores. A store is absent and unset wherever the bench has no such entity or member.
use Rattle.std.specs.Prelude.{ℕ, Bool, cond}
use Rattle.std.proofs.Math.Option.{Option}
use Rattle.values.specs.declared.Value.{Value}
use Rattle.values.specs.declared.Value.TheVariants.{Unset}

-- "for each entity present or absent; for each member a cell holding a value or unset", by their numbers
pub record Store : Type 0 where
  pub present : ℕ → Bool
  pub cell : ℕ → ℕ → Value

-- "While absent, its every member reads unset"
unfoldable pub read_cell : Store → ℕ → ℕ → Value
read_cell s e m = cond (s.present e) (s.cell e m) Unset

-- a line's readings: none, or presence; none, or a value, which may be unset
pub record Inputs : Type 0 where
  pub presence : ℕ → Option Bool
  pub given : ℕ → ℕ → Option Value

-- now; "the same as the rules saw it one cycle before"
pub record Stores : Type 0 where
  pub now : Store
  pub previous : Store
