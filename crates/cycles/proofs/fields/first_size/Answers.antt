-- What is left of `first_size`.
use Rattle.cycles.proofs.laws.FieldLaws.{empty_passed, empty_size, first_passed}
use Rattle.std.proofs.Common.{eq-eqb, ne_eqb, sym}
use Rattle.cycles.proofs.fields.first_size.Goals as goal

pub returns-then-start-end-clause-size : goal.returns-then-start-end-clause-size
returns-then-start-end-clause-size c = sym (empty_size _ _ (empty_passed c.loop-end.invariant c.field_start-start.ensures c.if-start-end.true))

pub returns-then-passed-count-clause-size : goal.returns-then-passed-count-clause-size
returns-then-passed-count-clause-size c =
    let e = first_passed c.loop-end.invariant c.field_start-start.ensures c.if-start-end.false c.args.count c.if-start-eq0.true in
    sym (rw (eq-eqb _ _ c.if-passed-count.true) at e)

pub returns-then-start-eq0-clause-size : goal.returns-then-start-eq0-clause-size
returns-then-start-eq0-clause-size c =
    let e = first_passed c.loop-end.invariant c.field_start-start.ensures c.if-start-end.false c.args.count c.if-start-eq0.true in
    sym (rw (ne_eqb _ _ c.if-passed-count.false) at e)
