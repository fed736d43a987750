-- The rows so far and the tokens from the offset on are the tokens of the text.
use Rattle.std.proofs.Common.{◌-◌, length}
use Rattle.text.specs.inner_contracts.TokenTable.{columns_of}
use Rattle.text.proofs.steps.LexLaws.{Going}
use Rattle.text.proofs.tokens.lex.Given as goal

abbrev pub invariant-loop-next : goal.invariant-loop-next
invariant-loop-next l =
    Going l.text (columns_of l.fn.classes l.fn.offsets l.fn.lengths l.fn.values) l.classes l.offsets l.lengths l.values l.at l.n

abbrev pub decreases-loop-next : goal.decreases-loop-next
decreases-loop-next l = length l.text - l.at
