-- The fingerprint of a bench text, by which a state image tells texts apart: a fold over the bytes modulo the greatest prime below 2 ^ 32.
use Rattle.std.specs.Prelude.{ℕ, ◌+◌, ◌*◌, ◌%◌, List, [], ◌∷◌}

abbrev pub PRIME : ℕ
PRIME = 4294967291

abbrev pub BASE : ℕ
BASE = 257

-- with one byte more
abbrev pub next_fingerprint : ℕ → ℕ → ℕ
next_fingerprint print b = (print * BASE + b + 1) % PRIME

unfoldable pub fingerprint_from : ℕ → List ℕ → ℕ
fingerprint_from print [] = print
fingerprint_from print (b ∷ bs) = fingerprint_from (next_fingerprint print b) bs

unfoldable pub fingerprint : List ℕ → ℕ
unfolding fingerprint_from
fingerprint text = fingerprint_from 0 text
