-- What is left of `many`.
use Rattle.std.proofs.Common.{rules, arith, ◌≡◌, Err}
use Rattle.text.proofs.laws.CodeReaderLaws.{passes_below}
use Rattle.text.specs.inner_contracts.ParseAnswers.{item_read, item_unfit, none_begins}
use Rattle.text.proofs.grammar.many.Goals as goal

pub returns-in_err-at : goal.returns-in_err-at
returns-in_err-at g c =
    let e : c.from_residual.result ≡ Err c.in_err-at.field-0.0 = search rules in
    rw e (c.loop-item.invariant _ (item_unfit c.loop-item-test.ensures c.in_err-at.ensures))

pub loop-item-smaller : goal.loop-item-smaller
loop-item-smaller g c =
    let l = passes_below c.loop-item-test.ensures in
    let o = c.requires.onward _ _ c.in_ok-at.ensures in
    omega arith

pub loop-item-preserved : goal.loop-item-preserved
loop-item-preserved g c r h = c.loop-item.invariant r (item_read c.loop-item-test.ensures c.in_ok-at.ensures h)

pub returns : goal.returns
returns g c = c.loop-item.invariant _ (none_begins c.loop-item-test.ensures)
