-- the values passed have entered
use Rattle.std.proofs.Common.{◌≡◌, take}
use Rattle.sheets.specs.definitions.Folds.{folded_values}
use Rattle.sheets.proofs.folds.folded_values.Given as goal

abbrev pub invariant-loop-i : goal.invariant-loop-i
invariant-loop-i l = l.folds ≡ folded_values l.fn.so_far (take l.i l.values)
