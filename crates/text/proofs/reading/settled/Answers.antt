-- What is left of `settled`.
use Rattle.std.proofs.Common.{refl}
use Rattle.text.proofs.laws.SyntaxLaws.{settles_file, settles_unfit, settles_ended}
use Rattle.text.proofs.reading.settled.Goals as goal

pub returns-in-Ok : goal.returns-in-Ok
returns-in-Ok c = settles_file c.requires.0 c.in-Ok.ensures refl

pub returns-in-Err : goal.returns-in-Err
returns-in-Err c = settles_unfit c.requires.0 c.in-Err.ensures refl c.if-unfit-count.true c.from.ensures

pub returns-in-Err-2 : goal.returns-in-Err-2
returns-in-Err-2 c = settles_ended c.requires.0 c.parse.ensures c.in-Err.is c.if-unfit-count.false
