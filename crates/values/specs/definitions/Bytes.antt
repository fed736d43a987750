-- Lists of bytes: compared, overwritten, and as numbers with the lowest byte first.
use Rattle.std.specs.Prelude.{ℕ, zero, suc, ◌+◌, ◌*◌, ◌/◌, ◌%◌, List, [], ◌∷◌, Bool, true, false, cond, eqb, get_or, set}

unfoldable pub same_bytes : List ℕ → List ℕ → Bool
same_bytes [] [] = true
same_bytes [] (y ∷ ys) = false
same_bytes (x ∷ xs) [] = false
same_bytes (x ∷ xs) (y ∷ ys) = cond (eqb x y) (same_bytes xs ys) false

-- the number in n bytes of l from `at` on, the lowest first
abbrev pub word_at : ℕ → List ℕ → ℕ → ℕ
word_at zero l at = 0
word_at (suc n) l at = get_or l at 0 + 256 * word_at n l (at + 1)

-- n bytes of a number, the lowest first
abbrev pub low_first : ℕ → ℕ → List ℕ
low_first zero w = []
low_first (suc n) w = (w % 256) ∷ low_first n (w / 256)

-- l with bs in place of what it has from `at` on
abbrev pub overwritten : List ℕ → ℕ → List ℕ → List ℕ
overwritten l at [] = l
overwritten l at (b ∷ bs) = overwritten (set l at b) (at + 1) bs
