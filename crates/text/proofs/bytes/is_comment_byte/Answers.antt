-- What is left of `is_comment_byte`.
use Rattle.std.proofs.Common.{arith}
use Rattle.text.proofs.laws.ClassLaws.{early_in_comment, late_in_comment}
use Rattle.text.proofs.bytes.is_comment_byte.Goals as goal

pub returns-in-Letter : goal.returns-in-Letter
returns-in-Letter c = early_in_comment (omega arith) c.class_of_byte.result c.class_of_byte.ensures c.in-Letter.is

pub returns-in-Blank : goal.returns-in-Blank
returns-in-Blank c = late_in_comment (omega arith) c.class_of_byte.result c.class_of_byte.ensures c.in-Blank.is
