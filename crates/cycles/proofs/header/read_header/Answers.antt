-- What is left of `read_header`.
use Rattle.cycles.proofs.steps.HeaderLaws.{header_too_long, header_too_short, header_with_by, header_without_by}
use Rattle.cycles.proofs.header.read_header.Goals as goal

pub returns-then-names-gt-MOST_HEADER_BYTES-clause-read : goal.returns-then-names-gt-MOST_HEADER_BYTES-clause-read
returns-then-names-gt-MOST_HEADER_BYTES-clause-read c = header_too_long _ _ _ _ _ _ _ c.if-names-gt-MOST_HEADER_BYTES.true

pub returns-then-names-lt-BY_BYTES-clause-read : goal.returns-then-names-lt-BY_BYTES-clause-read
returns-then-names-lt-BY_BYTES-clause-read c = header_too_short _ _ _ _ _ _ _ c.if-names-gt-MOST_HEADER_BYTES.false c.if-names-lt-BY_BYTES.true

pub returns-then-not-same_bytes-clause-read : goal.returns-then-not-same_bytes-clause-read
returns-then-not-same_bytes-clause-read c = header_without_by _ _ _ _ _ _ _ c.if-names-gt-MOST_HEADER_BYTES.false c.same_bytes.ensures c.if-not-same_bytes.true

pub returns-clause-read : goal.returns-clause-read
returns-clause-read c = header_with_by _ _ _ _ _ _ _ c.if-names-gt-MOST_HEADER_BYTES.false c.same_bytes.ensures c.if-not-same_bytes.false c.read_columns.ensures.read
