-- Tables with an entry for each of the 256 bytes, and what code has for a byte.
use Rattle.std.specs.Prelude.{ℕ, zero, suc, ◌+◌, List, [], ◌∷◌}
use Rattle.std.proofs.Math.Option.{get_or}
use Rattle.text.specs.declared.bytes.ByteClass.{ByteClass}
use Rattle.text.specs.declared.bytes.ByteClass.TheVariants.{Letter, Digit, Underscore, Mark, Blank, Hash, CommentOnly, NotAllowed}
use Rattle.text.specs.definitions.ByteClass.{LETTER, DIGIT, UNDERSCORE, MARK, BLANK, HASH, COMMENT_ONLY, NOT_ALLOWED}
use Rattle.text.specs.definitions.Tokens.{class_in, marks, NAME}

-- f of n numbers from `at` on
unfoldable pub tabulate : {A : Type 0} → (ℕ → A) → ℕ → ℕ → List A
tabulate f at zero = []
tabulate f at (suc n) = f at ∷ tabulate f (at + 1) n

abbrev pub BYTES : ℕ
BYTES = 256

-- f of each byte
abbrev pub at_bytes : {A : Type 0} → (ℕ → A) → List A
at_bytes f = tabulate f 0 BYTES

-- the class of the token that a byte is by itself: a mark's, or NAME, which no mark has
unfoldable pub mark_class : ℕ → ℕ
unfolding class_in marks
mark_class b = get_or (class_in marks (b ∷ [])) NAME

-- a class as document 02 numbers it
abbrev pub number_of : ByteClass → ℕ
number_of Letter = LETTER
number_of Digit = DIGIT
number_of Underscore = UNDERSCORE
number_of Mark = MARK
number_of Blank = BLANK
number_of Hash = HASH
number_of CommentOnly = COMMENT_ONLY
number_of NotAllowed = NOT_ALLOWED
