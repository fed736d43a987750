-- What is left of `put_row_header`.
use Rattle.cycles.proofs.laws.RowPuts.{header_end, names_begin, names_next}
use Rattle.std.proofs.Common.{arith}
use Rattle.cycles.proofs.rows.put_row_header.Goals as goal

pub loop-i-init : goal.loop-i-init
loop-i-init c =
    let e = c.put_bytes-at.ensures.end in
    let k = c.put_bytes-at.auto.s in
    names_begin _ _ (omega arith)

pub loop-i-preserved : goal.loop-i-preserved
loop-i-preserved c =
    let e = c.put_bytes-at.ensures.end in
    let k = c.put_bytes-at.auto.s in
    names_next c.loop-i.invariant c.put_name-at.auto.row (omega arith) c.put_name-at.ensures

pub returns : goal.returns
returns c = header_end c.row-n.ensures.0 c.put_bytes-at.ensures c.loop-i.invariant (omega arith) (omega arith)
