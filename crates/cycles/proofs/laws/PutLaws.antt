-- Bytes put over memory: a table piece by piece, and those that begin at the memory's front.
use Prim.Native.Nat.{ℕ, ◌+◌, ◌≤◌}
use native.Mathlib.Omega.{arith}
use mathlib.Core.Path.{◌≡◌, sym, ap, ◌∙◌}
use mathlib.Core.List.{List, ◌++◌}
use lib.ListN.{length, drop}
use Rattle.values.specs.inner_contracts.Puts.{Put}
use Rattle.values.proofs.laws.ByteLaws.{overwritten_parts}
use Rattle.values.proofs.laws.PutLaws.{put_none, put_next, put_same}
use Rattle.cycles.specs.definitions.Planes.{table}
use Rattle.cycles.specs.inner_contracts.RowMemory.{InFront}
use Rattle.cycles.proofs.laws.TableLaws.{table_next}

-- one piece more of a table
pub put_piece : (piece : ℕ → List ℕ) (i : ℕ) {a b c : List ℕ} {at q r : ℕ} → Put (table piece 0 i) a at b q → Put (piece i) b q c r
    → Put (table piece 0 (i + 1)) a at c r
put_piece piece i p s = put_same (put_next p s) (sym (table_next piece i))

pub put_no_piece : (piece : ℕ → List ℕ) (l : List ℕ) (at : ℕ) → Put (table piece 0 0) l at l at
unfolding table
put_no_piece piece l at = put_none l at

pub put_in_front : {xs a b : List ℕ} {r : ℕ} → Put xs a 0 b r → r ≤ length a → InFront xs a b r
put_in_front {xs} {a} {b} {r} p h =
    let e = p.end in
    let n : r ≡ length xs = omega arith in
    record {
      count = n;
      is = p.is ∙ overwritten_parts a 0 xs (omega arith) ∙ ap (λ (k : ℕ). xs ++ drop k a) (sym e);
    }
