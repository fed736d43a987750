-- What the loop of `further_calls` keeps.
use Rattle.checking.specs.inner_contracts.RuleParts.{CallsYields, world_rows}
use Rattle.std.proofs.Common.{length, ◌-◌}
use Rattle.std.specs.Prelude.{eqb}
use Rattle.text.specs.definitions.Grammar.{call_after}
use Rattle.text.specs.definitions.Readers.{added, many}
use Rattle.text.specs.definitions.Tokens.{COMMA}
use Rattle.text.specs.inner_contracts.Walks.{Looping}
use Rattle.checking.proofs.conditions.further_calls.Given as goal

abbrev pub invariant-loop-c : goal.invariant-loop-c
invariant-loop-c l = Looping world_rows (CallsYields l.columns.text.now l.columns.classes.now l.columns.offsets.now l.columns.lengths.now l.columns.d.now l.start) (many COMMA call_after) (λ k. eqb k COMMA) (added call_after) l.at l.before l.before.next

abbrev pub decreases-loop-c : goal.decreases-loop-c
decreases-loop-c l = length l.columns.classes.now - l.before.next
