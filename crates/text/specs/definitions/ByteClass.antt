-- The class of a byte (document 02, order 4): "whether a byte is a letter, a digit, `_`, a mark, a blank, `#`, for comments only, or not allowed".
use Rattle.std.specs.Prelude.{ℕ, ◌≤◌, ◌≡◌, [], ◌∷◌, Bool, true, false, ◌||◌, cond, ltb, eqb}
use Rattle.std.proofs.Math.Option.{none, some}
use Rattle.text.specs.definitions.Bytes.{between, is_letter, is_digit, is_blank, is_comment_byte}
use Rattle.text.specs.definitions.Tokens.{class_in, marks}

-- "these classes numbered 0 to 7 in this order"
abbrev pub LETTER : ℕ
LETTER = 0

abbrev pub DIGIT : ℕ
DIGIT = 1

abbrev pub UNDERSCORE : ℕ
UNDERSCORE = 2

abbrev pub MARK : ℕ
MARK = 3

abbrev pub BLANK : ℕ
BLANK = 4

abbrev pub HASH : ℕ
HASH = 5

abbrev pub COMMENT_ONLY : ℕ
COMMENT_ONLY = 6

abbrev pub NOT_ALLOWED : ℕ
NOT_ALLOWED = 7

-- "a mark": the byte by itself is spelled as one of them
unfoldable pub is_mark : ℕ → Bool
unfolding class_in marks
is_mark b = elim (class_in marks (b ∷ [])) [ none ↦ false | some c ↦ true ]

-- the first of these that the byte is: what a comment may have, and is nothing before it, is "for comments only"; whatever is left is "not allowed"
unfoldable pub byte_class : ℕ → ℕ
unfolding is_letter is_digit is_mark is_blank is_comment_byte
byte_class b =
    cond (is_letter b) LETTER
    (cond (is_digit b) DIGIT
    (cond (eqb b 95) UNDERSCORE
    (cond (is_mark b) MARK
    (cond (is_blank b) BLANK
    (cond (eqb b 35) HASH
    (cond (is_comment_byte b) COMMENT_ONLY NOT_ALLOWED))))))

-- the class c is that of the byte b: it numbers what b is, and nothing else; what is left of the allowed bytes is for comments only
pub record Classified (b c : ℕ) : Type 0 where
  pub numbered : c ≤ 7
  pub letter : eqb c LETTER ≡ is_letter b
  pub digit : eqb c DIGIT ≡ is_digit b
  pub underscore : eqb c UNDERSCORE ≡ eqb b 95
  pub mark : eqb c MARK ≡ is_mark b
  pub blank : eqb c BLANK ≡ is_blank b
  pub hash : eqb c HASH ≡ eqb b 35
  -- "32 to 126, tab (9) and line feed (10)"
  pub allowed : ltb c NOT_ALLOWED ≡ between 32 126 b || between 9 10 b
