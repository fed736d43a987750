-- The class of a byte numbers what the byte is, and nothing else. Each line is computed over all 256 bytes and then had at each.
use Prim.Native.Nat.{ℕ, ◌<◌}
use mathlib.Core.Path.{◌≡◌, refl}
use mathlib.Core.Bool.{true, false, ◌||◌, not, cond}
use lib.Dec.{leb, ltb, eqb}
use borrow.Author.Tests.{leb-true}
use Rattle.text.specs.definitions.Bytes.{between, is_letter, is_digit, is_name_byte, is_blank, is_comment_byte}
use Rattle.text.specs.definitions.ByteClass.{
  LETTER,
  DIGIT,
  UNDERSCORE,
  MARK,
  BLANK,
  HASH,
  NOT_ALLOWED,
  is_mark,
  byte_class,
  Classified,
}
use Rattle.text.specs.inner_contracts.ByteTables.{BYTES, tabulate}
use Rattle.text.proofs.laws.ByteTableLaws.{agree}

pub byte_classified : (b : ℕ) → b < BYTES → Classified b (byte_class b)
unfolding tabulate byte_class is_letter is_digit is_mark is_blank is_comment_byte between
byte_classified b h = record {
  numbered = leb-true (byte_class b) 7 (agree (λ b. leb (byte_class b) 7) (λ b. true) refl b h);
  letter = agree (λ b. eqb (byte_class b) LETTER) is_letter refl b h;
  digit = agree (λ b. eqb (byte_class b) DIGIT) is_digit refl b h;
  underscore = agree (λ b. eqb (byte_class b) UNDERSCORE) (λ b. eqb b 95) refl b h;
  mark = agree (λ b. eqb (byte_class b) MARK) is_mark refl b h;
  blank = agree (λ b. eqb (byte_class b) BLANK) is_blank refl b h;
  hash = agree (λ b. eqb (byte_class b) HASH) (λ b. eqb b 35) refl b h;
  allowed = agree (λ b. ltb (byte_class b) NOT_ALLOWED) (λ b. between 32 126 b || between 9 10 b) refl b h;
}

-- what else document 01 asks of a byte follows from its class, for a comment with a test for the line feed
pub class_in_name : (b : ℕ) → b < BYTES → leb (byte_class b) UNDERSCORE ≡ is_name_byte b
unfolding tabulate byte_class is_letter is_digit is_mark is_blank is_comment_byte is_name_byte
class_in_name b h = agree (λ b. leb (byte_class b) UNDERSCORE) is_name_byte refl b h

pub class_in_comment : (b : ℕ) → b < BYTES
    → cond (ltb (byte_class b) BLANK) true (cond (eqb (byte_class b) NOT_ALLOWED) false (not (eqb b 10))) ≡ is_comment_byte b
unfolding tabulate byte_class is_letter is_digit is_mark is_blank is_comment_byte
class_in_comment b h =
    agree (λ b. cond (ltb (byte_class b) BLANK) true (cond (eqb (byte_class b) NOT_ALLOWED) false (not (eqb b 10)))) is_comment_byte refl b h
