use Rattle.std.proofs.Common.{arith}
use Rattle.probe.proofs.steps.TriedSteps.{no_bench_stands, set_found}
use Rattle.probe.proofs.tried_between.Goals as goal

pub returns-then-n-gt-MOST_ENTITIES : goal.returns-then-n-gt-MOST_ENTITIES
returns-then-n-gt-MOST_ENTITIES c = no_bench_stands c.row-n.ensures.0 c.if-n-gt-MOST_ENTITIES.true

pub returns : goal.returns
returns c = set_found c.row-n.ensures.0 c.if-n-gt-MOST_ENTITIES.false c.requires.0 c.requires.1 (omega arith) c.tried_rules.ensures
