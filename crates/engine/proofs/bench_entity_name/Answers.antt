use Rattle.std.proofs.Common.{arith}
use Rattle.checking.proofs.theorems.EntitySpans.{span_spans}
use Rattle.engine.proofs.bench_entity_name.Goals as goal

pub overflow_mul-result : goal.overflow_mul-result
overflow_mul-result c = let s = span_spans c.args.text.now c.args.number c.entity_span-span.ensures in omega (arith, s.at_most_24)

pub overflow_mul-result-2 : goal.overflow_mul-result-2
overflow_mul-result-2 c = let s = span_spans c.args.text.now c.args.number c.entity_span-span.ensures in omega (arith, s.offset)

pub overflow_add-result : goal.overflow_add-result
overflow_add-result c = let s = span_spans c.args.text.now c.args.number c.entity_span-span.ensures in omega (arith, s.at_most_24, s.offset)
