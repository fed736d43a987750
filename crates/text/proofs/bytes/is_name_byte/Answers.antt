-- What is left of `is_name_byte`.
use Rattle.std.proofs.Common.{arith}
use Rattle.text.proofs.laws.ClassLaws.{name_byte, other_byte}
use Rattle.text.proofs.bytes.is_name_byte.Goals as goal

pub returns-in-Letter : goal.returns-in-Letter
returns-in-Letter c = name_byte (omega arith) c.class_of_byte.result c.class_of_byte.ensures c.in-Letter.is

pub returns-in_default : goal.returns-in_default
returns-in_default c = other_byte (omega arith) c.class_of_byte.result c.class_of_byte.ensures c.in_default.not-Letter c.in_default.not-Digit c.in_default.not-Underscore
