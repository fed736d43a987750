-- What is left of `parsed_end`.
use Rattle.text.proofs.steps.EndLaws.{answer_ends}
use Rattle.text.proofs.walks.parsed_end.Goals as goal

pub returns : goal.returns
returns c = answer_ends c.expression.result c.expression.ensures c.unwrap_or.ensures
