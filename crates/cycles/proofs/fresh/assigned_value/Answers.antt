-- What is left of `assigned_value`.
use Rattle.cycles.proofs.steps.FreshValues.{assigning_outside}
use Rattle.std.proofs.Common.{rules}
use Rattle.cycles.proofs.fresh.assigned_value.Goals as goal

pub returns : goal.returns
returns c = search (rules, assigning_outside)
