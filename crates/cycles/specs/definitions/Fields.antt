-- The fields of a line: "one space between fields".
use Rattle.std.specs.Prelude.{ℕ, List, [], ◌∷◌, Bool, true, false, cond, eqb}

unfoldable pub lengthened : ℕ → List (List ℕ) → List (List ℕ)
lengthened b [] = (b ∷ []) ∷ []
lengthened b (x ∷ xs) = (b ∷ x) ∷ xs

-- what stands between the bytes c: one part at least
unfoldable pub split : ℕ → List ℕ → List (List ℕ)
unfolding lengthened
split c [] = [] ∷ []
split c (b ∷ bs) = cond (eqb b c) ([] ∷ split c bs) (lengthened b (split c bs))

-- by spaces
unfoldable pub fields : List ℕ → List (List ℕ)
unfolding split
fields bs = split 32 bs

unfoldable pub is_empty : List ℕ → Bool
is_empty [] = true
is_empty (b ∷ bs) = false

-- does the byte c occur?
unfoldable pub has_byte : ℕ → List ℕ → Bool
has_byte c [] = false
has_byte c (b ∷ bs) = cond (eqb b c) true (has_byte c bs)
