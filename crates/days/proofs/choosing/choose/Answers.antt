-- What is left of `choose`.
use Rattle.days.proofs.laws.ChoosingLaws.{no_list_taken, chosen_taken}
use Rattle.days.proofs.choosing.choose.Goals as goal

pub returns-in_err-count : goal.returns-in_err-count
returns-in_err-count c = rw c.from_residual.ensures (no_list_taken c.in_err-count.ensures.read)

pub returns : goal.returns
returns c = chosen_taken c.new.ensures.size c.new.ensures.same c.new.result.known c.in_ok-count.ensures.read
