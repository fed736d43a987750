-- No token that the loop has passed is of the class.
use Rattle.std.proofs.Common.{get_or, length, max, ℕ, ◌<◌, ◌≡◌, ◌≤◌}
use Rattle.checking.proofs.table.first_of.Given as goal

abbrev pub invariant-loop-i : goal.invariant-loop-i
invariant-loop-i l =
    record {
      low : l.from ≤ l.i;
      high : l.i ≤ max l.from (length l.classes);
      before : (k : ℕ) → k < l.i → l.from ≤ k → get_or l.classes k 0 ≡ l.class → ⊥;
    }
