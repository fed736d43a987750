-- What the loop of `many` keeps.
use Rattle.std.proofs.Common.{length, ◌-◌, ℕ, Result}
use Rattle.text.specs.declared.grammar.Unfit.{Unfit}
use Rattle.text.specs.inner_contracts.ParseAnswers.{Repeats}
use Rattle.text.proofs.grammar.many.Given as goal

abbrev pub invariant-loop-item : goal.invariant-loop-item
invariant-loop-item g l =
    (r : Result ℕ Unfit) → Repeats l.classes l.first (goal.F-post g l.item) l.at r → Repeats l.classes l.first (goal.F-post g l.item) l.initial.at r

abbrev pub decreases-loop-item : goal.decreases-loop-item
decreases-loop-item g l = length l.classes - l.at
