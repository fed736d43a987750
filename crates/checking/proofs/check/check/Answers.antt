-- What is left of `check`.
use lib.Seq.{length-take-le}
use Rattle.std.proofs.Common.{refl, sym}
use Rattle.checking.proofs.laws.CheckLaws.{checks_short, class_rows, settles_handed, settles_accepted, settles_fault}
use Rattle.checking.proofs.check.check.Goals as goal

pub returns-then-d-lt-DIRECTORY : goal.returns-then-d-lt-DIRECTORY
returns-then-d-lt-DIRECTORY c = checks_short c.if-d-lt-DIRECTORY.true

pub returns-in_err-n : goal.returns-in_err-n
returns-in_err-n c = settles_handed _ c.read.ensures c.if-d-lt-DIRECTORY.false refl _ c.in_err-n.was _ c.from_residual.ensures.1

pub returns-in-Some : goal.returns-in-Some
returns-in-Some c = settles_fault _ c.read.ensures c.if-d-lt-DIRECTORY.false c.judged.auto.d c.in_ok-n.was c.judged.ensures c.in-Some.is

pub returns-in-None : goal.returns-in-None
returns-in-None c = settles_accepted _ c.read.ensures c.if-d-lt-DIRECTORY.false c.judged.auto.d c.in_ok-n.was c.judged.ensures c.in-None.is

pub slice_bounds-judged-end : goal.slice_bounds-judged-end
slice_bounds-judged-end c = class_rows c.read.ensures c.in_ok-n.was

pub slice_bounds-judged-end-2 : goal.slice_bounds-judged-end-2
slice_bounds-judged-end-2 c = sym (length-take-le c.in_ok-n.n c.read.new.classes (class_rows c.read.ensures c.in_ok-n.was))
