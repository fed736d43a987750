-- What is left of `is_digit`.
use Rattle.std.proofs.Common.{arith}
use Rattle.text.proofs.laws.ClassLaws.{no_digit}
use Rattle.text.proofs.bytes.is_digit.Goals as goal

pub returns-in_default : goal.returns-in_default
returns-in_default c = no_digit (omega arith) c.class_of_byte.result c.class_of_byte.ensures c.in_default.not-Digit
