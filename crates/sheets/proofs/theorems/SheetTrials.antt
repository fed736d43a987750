-- Rows and folds by example.
use Prim.Native.Nat.{ℕ}
use Prim.Native.Char.{code}
use Prim.Native.String.{String, [] as []ˢ, ◌∷◌ as ◌∷ˢ◌}
use mathlib.Core.Path.{◌≡◌, refl}
use mathlib.Core.List.{List, [], ◌∷◌}
use mathlib.Core.Bool.{true, false}
use lib.IntN.{pos, negsuc}
use lib.Ieee as Ieee
use lib.Ieee.{Float, binary64, of_bits, to_bits, is_nan, lt}
use Rattle.values.specs.declared.Value.TheVariants.{Whole, Truth, Real, Unset}
use Rattle.sheets.specs.definitions.Rows.{line_rows}
use Rattle.sheets.specs.definitions.Folds.{NONE_SET, folded}
use Rattle.sheets.specs.definitions.Closing.{closing_rows}
use Rattle.sheets.specs.definitions.Sheet.{sheet_rows}

unfoldable pub text : String → List ℕ
text []ˢ = []
text (c ∷ˢ s) = code c ∷ text s

abbrev REAL : Float
REAL = of_bits binary64 0x3ff8_0000_0123_4567

abbrev ZERO : Float
ZERO = of_bits binary64 0

abbrev MINUS_ZERO : Float
MINUS_ZERO = of_bits binary64 0x8000_0000_0000_0000

-- ---- printed lines

pub line_with_a_real : line_rows (record { number = 42; values = Whole (negsuc 6) ∷ Unset ∷ Real REAL ∷ [] })
    ≡ text "        42            -7             -      3ff80000                            "
    ∷ text "                                            01234567                            "
    ∷ []
unfolding line_rows text is_nan of_bits to_bits Ieee.of_fields Ieee.odd
line_with_a_real = refl

-- "The second row .. is there only for a line with a set real"
pub line_without_a_real : line_rows (record { number = 4294967295; values = Truth false ∷ Unset ∷ Whole (pos 7) ∷ [] })
    ≡ text "4294967295         false             -             7                            "
    ∷ []
unfolding line_rows text
line_without_a_real = refl

-- five cells fill the 80 columns
pub line_with_five_cells :
    line_rows (record { number = 1; values = Real REAL ∷ Truth true ∷ Unset ∷ Whole (negsuc 2147483647) ∷ Real MINUS_ZERO ∷ [] })
    ≡ text "         1      3ff80000          true             -   -2147483648      80000000"
    ∷ text "                01234567                                                00000000"
    ∷ []
unfolding line_rows text is_nan of_bits to_bits Ieee.of_fields Ieee.odd
line_with_five_cells = refl

-- ---- closing rows

pub closing_rows_of_a_column : closing_rows 1 (record { lowest = MINUS_ZERO; highest = REAL; last = ZERO; found = true })
    ≡ text "                              80000000                                          "
    ∷ text "                              00000000                                          "
    ∷ text "                              3ff80000                                          "
    ∷ text "                              01234567                                          "
    ∷ text "                              00000000                                          "
    ∷ text "                              00000000                                          "
    ∷ []
unfolding closing_rows text is_nan of_bits to_bits Ieee.of_fields Ieee.odd
closing_rows_of_a_column = refl

-- "or three rows of `-` if none was set"
pub closing_rows_of_none : closing_rows 0 NONE_SET
    ≡ text "                       -                                                        "
    ∷ text "                       -                                                        "
    ∷ text "                       -                                                        "
    ∷ []
unfolding closing_rows text
closing_rows_of_none = refl

-- a sheet of a whole and a real column: only the real one has closing rows
pub small_sheet : sheet_rows (false ∷ true ∷ [])
    (record { number = 1; values = Whole (pos 5) ∷ Real ZERO ∷ [] } ∷ record { number = 2; values = Unset ∷ Unset ∷ [] } ∷ [])
    ≡ text "         1             5      00000000                                          "
    ∷ text "                              00000000                                          "
    ∷ text "         2             -             -                                          "
    ∷ text "                              00000000                                          "
    ∷ text "                              00000000                                          "
    ∷ text "                              00000000                                          "
    ∷ text "                              00000000                                          "
    ∷ text "                              00000000                                          "
    ∷ text "                              00000000                                          "
    ∷ []
unfolding sheet_rows text is_nan of_bits to_bits lt Ieee.of_fields Ieee.odd
small_sheet = refl

-- ---- "equal zeros count as one value, the earlier bits shown"; the last value is the later one

pub zero_then_minus_zero : folded (folded NONE_SET ZERO) MINUS_ZERO ≡ record { lowest = ZERO; highest = ZERO; last = MINUS_ZERO; found = true }
unfolding folded lt of_bits Ieee.of_fields Ieee.odd
zero_then_minus_zero = refl

pub minus_zero_then_zero : folded (folded NONE_SET MINUS_ZERO) ZERO ≡ record { lowest = MINUS_ZERO; highest = MINUS_ZERO; last = ZERO; found = true }
unfolding folded lt of_bits Ieee.of_fields Ieee.odd
minus_zero_then_zero = refl
