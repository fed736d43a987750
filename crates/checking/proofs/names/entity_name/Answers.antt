-- What is left of `entity_name`.
use Rattle.std.proofs.Common.{arith}
use Rattle.checking.proofs.theorems.EntitySpans.{span_spans}
use Rattle.checking.proofs.names.entity_name.Goals as goal

pub overflow_add-end : goal.overflow_add-end
overflow_add-end c = omega (arith, (span_spans c.args.text.now c.args.number c.entity_span-span.ensures).within)

pub slice_bounds-result-end : goal.slice_bounds-result-end
slice_bounds-result-end c = omega (arith, (span_spans c.args.text.now c.args.number c.entity_span-span.ensures).within)
