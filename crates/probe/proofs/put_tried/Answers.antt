use Rattle.probe.proofs.steps.TriedSteps.{lent_of, set_put}
use Rattle.probe.proofs.put_tried.Goals as goal

pub returns : goal.returns
returns c =
    set_put c.in_ok-check_states.ensures.0 c.in_ok-check_states.ensures.1 (lent_of c.resolve-bench.ensures c.rules.ensures) c.tried_between-set.ensures _
    c.requires.2 c.put_word.ensures
