-- What is left of `parse`.
use Rattle.std.proofs.Common.{rules, ◌≡◌, Err}
use Rattle.text.proofs.laws.CodeGrammarLaws.{file_left, file_refused, file_whole}
use Rattle.text.proofs.grammar.parse.Goals as goal

pub returns-in_err-end : goal.returns-in_err-end
returns-in_err-end c =
    let e : c.from_residual.result ≡ Err c.in_err-end.field-0.0 = search rules in
    rw e (file_refused c.in_err-end.ensures)

pub returns-then-end-classes : goal.returns-then-end-classes
returns-then-end-classes c = file_left c.in_ok-end.ensures c.if-end-classes.true

pub returns : goal.returns
returns c = file_whole c.in_ok-end.ensures c.if-end-classes.false
