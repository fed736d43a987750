-- What the reference machine (document 01's bare machine) comes to: it is stuck where document 01 says that it stops, or it runs on with a result.
use Rattle.std.specs.Prelude.{Bool, true, false}
use mathlib.Core.List.{List, [], ◌∷◌, ◌++◌}
use Rattle.std.proofs.Math.Option.{Option, none, some}

pub data Outcome (A : Type 0) : Type 0 where
  stuck : Outcome A
  running : A → Outcome A

module _ {A B : Type 0} where
  unfoldable pub proceed : Outcome A → (A → Outcome B) → Outcome B
  proceed stuck next = stuck
  proceed (running a) next = next a

  -- "It stops where a name or member isn't found"
  unfoldable pub with_found : Option A → (A → Outcome B) → Outcome B
  with_found none next = stuck
  with_found (some a) next = next a

module _ {A : Type 0} where
  unfoldable pub run_if : Bool → Outcome A → Outcome A
  run_if true o = o
  run_if false o = stuck

module _ {A B : Type 0} where
  -- the results for each item of a list, one after another
  unfoldable pub collected : (A → Outcome (List B)) → List A → Outcome (List B)
  unfolding proceed
  collected f [] = running []
  collected f (x ∷ xs) = proceed (f x) λ ys. proceed (collected f xs) λ zs. running (ys ++ zs)
