-- A store that stands in memory.
use Prim.Native.Nat.{ℕ, ◌≤◌}
use native.Mathlib.Omega.{arith}
use mathlib.Core.List.{List}
use lib.ListN.{length, length-drop}
use borrow.Author.Tests.{lt-ltb}
use Rattle.cycles.specs.definitions.Planes.{plane_size, cells_of, decode_store}
use Rattle.cycles.specs.inner_contracts.Evaluation.{Stored}

-- what a plane is read as stands there
pub decoded_stored : (count : ℕ) (m : List ℕ) → plane_size count ≤ length m → Stored count m (cells_of count m) (decode_store count m)
unfolding decode_store
decoded_stored count m h = record {
  room = let k = length-drop count m in omega arith;
  present = λ e h. rw (lt-ltb e count h);
  cell = λ e m h k. rw (lt-ltb e count h, lt-ltb m 12 k);
}
