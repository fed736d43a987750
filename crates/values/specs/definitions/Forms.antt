-- The text form of a value: how it is printed, and which texts are read (document 01, "Lines of readings").
use Rattle.std.specs.Prelude.{ℕ, zero, suc, ◌+◌, ◌-◌, ◌*◌, ◌/◌, ◌%◌, List, [], ◌∷◌, ◌++◌, Bool, true, false, not, cond, ◌&&◌, ◌||◌, ltb, leb, eqb, ℤ, pos, negsuc, neg_ℤ, length, get_or, drop, Option, Some, None, Result, Ok, Err, option_and_then}
use Rattle.std.specs.Float.{binary64}
use Rattle.std.specs.Float.Ieee.{of_bits, to_bits, is_nan}
use Rattle.values.specs.declared.Value.{Value}
use Rattle.values.specs.declared.Value.TheVariants.{Whole, Truth, Real, Unset}
use Rattle.values.specs.declared.Kind.{Kind}
use Rattle.values.specs.declared.Kind.TheVariants.{Wholes, Bools, Reals}
use Rattle.values.specs.declared.Malformed.{Malformed}
use Rattle.values.specs.definitions.Bytes.{same_bytes}
use Rattle.values.specs.definitions.Cells.{finite_bits}

-- what a field of a record says of its cell: a value or unset, with none nothing, or it is ill formed
abbrev pub Field : Type 0
Field = Result (Option Value) Malformed

abbrev pub malformed : Malformed
malformed = record {}

-- the byte of a digit below 16: `0` to `9`, then `a` to `f`; and the digit of a byte, if it is one's
unfoldable pub digit_byte : ℕ → ℕ
digit_byte d = cond (ltb d 10) (48 + d) (87 + d)

unfoldable pub digit_of : ℕ → Option ℕ
digit_of c = cond (ltb c 48) None (cond (leb c 57) (Some (c - 48)) (cond (ltb c 97) None (cond (leb c 102) (Some (c - 87)) None)))

-- the decimal digits of a number, at most k, the highest first and no zero in front
unfoldable pub decimal_digits : ℕ → ℕ → List ℕ
decimal_digits zero n = []
decimal_digits (suc k) n = cond (ltb n 10) (digit_byte n ∷ []) (decimal_digits k (n / 10) ++ (digit_byte (n % 10) ∷ []))

-- k lower-case hexadecimal digits of a number, the highest first
unfoldable pub hexadecimal : ℕ → ℕ → List ℕ
hexadecimal zero n = []
hexadecimal (suc k) n = hexadecimal k (n / 16) ++ (digit_byte (n % 16) ∷ [])

-- the number of digits in base b, after those that gave `acc`
abbrev pub scanned : ℕ → ℕ → List ℕ → Option ℕ
scanned b acc [] = Some acc
scanned b acc (c ∷ cs) = option_and_then (λ d. cond (ltb d b) (scanned b (acc * b + d) cs) None) (digit_of c)

-- `-`, `?`, `true`, `false`
abbrev pub dash : List ℕ
dash = 45 ∷ []

abbrev pub query : List ℕ
query = 63 ∷ []

abbrev pub true_text : List ℕ
true_text = 116 ∷ 114 ∷ 117 ∷ 101 ∷ []

abbrev pub false_text : List ℕ
false_text = 102 ∷ 97 ∷ 108 ∷ 115 ∷ 101 ∷ []

-- "1 to 10 digits, no leading zero unless it is 0"
abbrev pub decimal : ℕ → List ℕ
decimal n = decimal_digits 10 n

abbrev pub whole_text : ℤ → List ℕ
whole_text (pos n) = decimal n
whole_text (negsuc n) = 45 ∷ decimal (suc n)

-- "in the form of readings, or `-`"
abbrev pub printed : Value → List ℕ
printed (Whole z) = whole_text z
printed (Truth b) = cond b true_text false_text
printed (Real x) = cond (is_nan x) dash (hexadecimal 16 (to_bits binary64 x))
printed Unset = dash

-- "1 to 10 digits, no leading zero unless it is 0"
unfoldable pub led : List ℕ → Bool
led ds = leb 1 (length ds) && (leb (length ds) 10 && (eqb (length ds) 1 || not (eqb (get_or ds 0 0) 48)))

abbrev pub magnitude : List ℕ → Option ℕ
magnitude ds = cond (led ds) (scanned 10 0 ds) None

-- "whole: optional `-`, digits, within 32 bits, no leading zero, no `-0`"
abbrev pub unsigned_whole : Option ℕ → Field
unsigned_whole (Some n) = cond (ltb n 2147483648) (Ok (Some (Whole (pos n)))) (Err malformed)
unsigned_whole None = Err malformed

abbrev pub negative_whole : Option ℕ → Field
negative_whole (Some n) = cond (eqb n 0) (Err malformed) (cond (leb n 2147483648) (Ok (Some (Whole (neg_ℤ (pos n))))) (Err malformed))
negative_whole None = Err malformed

abbrev pub whole_field : List ℕ → Field
whole_field s = cond (eqb (get_or s 0 0) 45) (negative_whole (magnitude (drop 1 s))) (unsigned_whole (magnitude s))

-- "bool: `true`, `false`"
abbrev pub truth_field : List ℕ → Field
truth_field s = cond (same_bytes s true_text) (Ok (Some (Truth true))) (cond (same_bytes s false_text) (Ok (Some (Truth false))) (Err malformed))

-- "real: 16 lower-case hexadecimal digits, the bits of a finite real"
abbrev pub finite_real : Option ℕ → Field
finite_real (Some w) = cond (finite_bits w) (Ok (Some (Real (of_bits binary64 w)))) (Err malformed)
finite_real None = Err malformed

abbrev pub real_field : List ℕ → Field
real_field s = cond (eqb (length s) 16) (finite_real (scanned 16 0 s)) (Err malformed)

abbrev pub kind_field : Kind → List ℕ → Field
kind_field Wholes s = whole_field s
kind_field Bools s = truth_field s
kind_field Reals s = real_field s

-- "Values: `-` no reading; `?` makes an event unset"
abbrev pub event_field : Kind → List ℕ → Field
event_field k s = cond (same_bytes s dash) (Ok None) (cond (same_bytes s query) (Ok (Some Unset)) (kind_field k s))

-- "`?` .. not for presence"; "Presence is bool"
abbrev pub presence_field : List ℕ → Field
presence_field s = cond (same_bytes s dash) (Ok None) (truth_field s)

-- what the text of a value is to be read as: the value, or no reading for unset
abbrev pub read_back : Value → Field
read_back (Whole z) = Ok (Some (Whole z))
read_back (Truth b) = Ok (Some (Truth b))
read_back (Real x) = Ok (Some (Real x))
read_back Unset = Ok None
