-- What is left of `resolve_scopes`.
use Rattle.checking.proofs.steps.ScopeLaws.{scoping_ends, scoping_on}
use Rattle.std.proofs.Common.{arith}
use Rattle.checking.proofs.resolver.resolve_scopes.Goals as goal

pub returns-then-count-rule : goal.returns-then-count-rule
returns-then-count-rule c = scoping_ends c.loop-k.invariant (λ j a b. omega (arith, c.row-count.ensures.0))

pub loop-k-preserved : goal.loop-k-preserved
loop-k-preserved c =
    scoping_on c.loop-k.invariant c.requires c.loop-k-test.true c.row-start.ensures.0 c.variables_of-v.ensures c.put_variables.ensures

pub returns : goal.returns
returns c = scoping_ends c.loop-k.invariant (λ j a b. omega arith)
