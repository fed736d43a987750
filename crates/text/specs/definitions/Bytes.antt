-- The bytes of a bench file, and the longest runs of them (document 01, "Text of a bench file").
use Rattle.std.specs.Prelude.{ℕ, List, [], ◌∷◌, Bool, true, false, ◌&&◌, ◌||◌, leb, eqb}
use Prim.Native.Char.{code}
use Prim.Native.String.{String, [] as []ˢ, ◌∷◌ as ◌∷ˢ◌}

-- a text in ASCII as its bytes
unfoldable pub ascii : String → List ℕ
ascii []ˢ = []
ascii (c ∷ˢ s) = code c ∷ ascii s

unfoldable pub between : ℕ → ℕ → ℕ → Bool
between low high b = leb low b && leb b high

-- "a letter"
unfoldable pub is_letter : ℕ → Bool
unfolding between
is_letter b = between 97 122 b || between 65 90 b

-- "digits"
unfoldable pub is_digit : ℕ → Bool
unfolding between
is_digit b = between 48 57 b

-- "letters, digits or `_`"
unfoldable pub is_name_byte : ℕ → Bool
unfolding is_letter is_digit
is_name_byte b = is_letter b || is_digit b || eqb b 95

-- the space, "tab (9) and line feed (10)", which part tokens
unfoldable pub is_blank : ℕ → Bool
unfolding between
is_blank b = eqb b 32 || between 9 10 b

-- "32 to 126, tab (9)": what a comment has "up to the line feed or the end"
unfoldable pub is_comment_byte : ℕ → Bool
unfolding between
is_comment_byte b = between 32 126 b || eqb b 9

-- "each as long as can be": the longest front part whose bytes all pass a test
unfoldable pub run : (ℕ → Bool) → List ℕ → List ℕ
run test [] = []
run test (b ∷ bs) = elim (test b) [ true ↦ b ∷ run test bs | false ↦ [] ]
