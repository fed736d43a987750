use Rattle.std.proofs.Common.{arith}
use Rattle.engine.proofs.laws.LineLaws.{in_state, no_header, header_read, line_no_state, line_no_header, line_of_record}
use Rattle.engine.proofs.line.take_line.Goals as goal

pub returns-then-not-is_state-clause-taken : goal.returns-then-not-is_state-clause-taken
returns-then-not-is_state-clause-taken c b =
    line_no_state (in_state b c.fingerprint.ensures c.is_state.ensures c.if-not-is_state.true) _ _ _

pub returns-in-None-clause-taken : goal.returns-in-None-clause-taken
returns-in-None-clause-taken c b =
    line_no_header (in_state b c.fingerprint.ensures c.is_state.ensures c.if-not-is_state.false) _ (no_header b c.in-None.ensures (omega arith)) _ _

pub returns-in-Some-clause-taken : goal.returns-in-Some-clause-taken
returns-in-Some-clause-taken c b =
    line_of_record (in_state b c.fingerprint.ensures c.is_state.ensures c.if-not-is_state.false) (header_read b c.in-Some.ensures.1 c.in-Some.ensures.0)
    (c.take_record.ensures.taken _ _ _ b)
