-- What is left of `put_fresh`.
use Rattle.senders.proofs.steps.StateSteps.{fresh_put}
use Rattle.std.proofs.Common.{arith}
use Rattle.senders.proofs.state.put_fresh.Goals as goal

pub returns : goal.returns
returns c = fresh_put c.args.print c.args.state.now (omega arith) c.put_number.ensures c.put_fresh_stores.ensures
