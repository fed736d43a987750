-- What the counts of an accepted file give to those who store its cells.
use Prim.Native.Nat.{ℕ, ◌≤◌}
use mathlib.Core.Path.{◌≡◌}
use mathlib.Core.Option.{some}
use lib.ListN.{length}
use Rattle.text.specs.definitions.Syntax.{Interface, File}
use Rattle.checking.specs.definitions.Scope.{interface_of}

pub record WithinCounts (f : File) : Type 0 where
  pub entities : length f.entities ≤ 32
  pub members : (e : ℕ) (i : Interface) → interface_of f e ≡ some i → length i.members ≤ 12
