-- A value in 9 bytes of memory: a tag, then a number in 8 bytes, the lowest first.
use Rattle.std.specs.Prelude.{ℕ, ◌+◌, ◌-◌, ◌*◌, ◌%◌, suc, List, ◌∷◌, Bool, true, false, cond, ltb, eqb, ℤ, pos, negsuc, get_or, set}
use Rattle.std.proofs.Math.IntN.{sub_ℕ}
use Rattle.std.specs.Float.{binary64}
use Rattle.std.specs.Float.Ieee.{of_bits, to_bits, is_nan}
use Rattle.values.specs.declared.Value.{Value}
use Rattle.values.specs.declared.Value.TheVariants.{Whole, Truth, Real, Unset}
use Rattle.values.specs.definitions.Bytes.{word_at, low_first, overwritten}

-- a NaN, which no operation gives, stands as unset
abbrev pub tag : Value → ℕ
tag (Whole z) = 1
tag (Truth b) = 2
tag (Real x) = cond (is_nan x) 0 3
tag Unset = 0

-- a whole's distance from -2 ^ 31
abbrev pub raised : ℤ → ℕ
raised (pos n) = n + 2147483648
raised (negsuc n) = 2147483648 - suc n

abbrev pub payload : Value → ℕ
payload (Whole z) = raised z
payload (Truth b) = cond b 1 0
payload (Real x) = cond (is_nan x) 0 (to_bits binary64 x)
payload Unset = 0

-- the bits of a finite real: an exponent field below 2047
abbrev pub finite_bits : ℕ → Bool
finite_bits w = ltb (w % 9223372036854775808) 9218868437227405312

-- the value of a tag and a payload; those of no value are unset
unfoldable pub unpacked : ℕ → ℕ → Value
unpacked t w =
    cond (eqb t 1) (cond (ltb w 4294967296) (Whole (sub_ℕ w 2147483648)) Unset)
    (cond (eqb t 2) (cond (eqb w 0) (Truth false) (cond (eqb w 1) (Truth true) Unset))
    (cond (eqb t 3) (cond (finite_bits w) (Real (of_bits binary64 w)) Unset)
    Unset))

abbrev pub cell_bytes : Value → List ℕ
cell_bytes v = tag v ∷ low_first 8 (payload v)

-- the value in cell number i of a memory of cells
abbrev pub cell_at : List ℕ → ℕ → Value
cell_at l i = unpacked (get_or l (i * 9) 0) (word_at 8 l (i * 9 + 1))

-- the memory with a value in cell number i
abbrev pub with_cell : List ℕ → ℕ → Value → List ℕ
with_cell l i v = overwritten (set l (i * 9) (tag v)) (i * 9 + 1) (low_first 8 (payload v))

-- "compared .. bit by bit"
abbrev pub identical : Value → Value → Bool
identical a b = cond (eqb (tag a) (tag b)) (eqb (payload a) (payload b)) false
