-- What the call answers that says where the name of an entity stands.
use Prim.Native.Nat.{ℕ}
use native.Mathlib.Omega.{arith}
use mathlib.Core.Path.{◌≡◌, ap, ◌∙◌}
use mathlib.Core.List.{List}
use Rattle.checking.specs.definitions.EntitySpan.{entity_span}
use Rattle.checking.proofs.theorems.EntitySpans.{entity_spans, no_entity_span, empty_span}
use Rattle.engine.specs.definitions.Calls.{span_answer, EntityContract}
use Rattle.engine.specs.definitions.DemandTwo.{name_length, name_offset, Locates}

pub answer_locates : (text : List ℕ) (number r : ℕ) → EntityContract text number r → Locates text number r
answer_locates text number r e =
    let span = entity_span text number in
    let stands = entity_spans text number in
    let long : name_length r ≡ span.length = omega (arith, stands.at_most_24) in
    let at : name_offset r ≡ span.at = omega (arith, stands.at_most_24) in
    record {
      low_bits = omega arith;
      within = omega (arith, stands.within);
      is = rw (long, at) stands.is;
      empty = (λ z. empty_span text number (omega arith), λ k. e ∙ ap span_answer (no_entity_span text number k));
    }
