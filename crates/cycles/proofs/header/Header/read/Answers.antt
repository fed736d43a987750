-- What is left of `Header::read`.
use Rattle.cycles.proofs.steps.HeaderLaws.{no_header_taken, header_taken}
use Rattle.std.proofs.Common.{arith}
use Rattle.cycles.proofs.header.Header.read.Goals as goal

pub returns-in_err-count : goal.returns-in_err-count
returns-in_err-count c = rw c.from_residual.ensures (no_header_taken c.in_err-count.ensures.read)

pub returns : goal.returns
returns c = (
  let few = c.in_ok-count.ensures.few in let size = c.new.ensures.size in omega arith,
  header_taken c.new.ensures.size c.new.ensures.same c.new.result.known c.in_ok-count.ensures.read,
)
