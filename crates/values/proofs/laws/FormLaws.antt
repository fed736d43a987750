-- Digits are read as their number; so whole numbers and values are read back from their texts.
use mathlib.Core.Path.{◌≡◌, refl, ap, ◌∙◌}
use mathlib.Core.List.{List, [], ◌∷◌, ◌++◌}
use mathlib.Core.Bool.{Bool, true, false, cond}
use Prim.Native.Nat.{ℕ, zero, suc, ◌+◌, ◌*◌, ◌/◌, ◌%◌, ◌^◌, ◌≤◌, ◌<◌}
use native.Mathlib.Nat.{zero-add, zero-mul, pow-zero, pow-suc, div-add-mod', mod-lt, div-lt_iff_lt-mul, lt_of_lt_of_le}
use native.Mathlib.Omega.{arith}
use lib.Dec.{T, ltb, eqb, lit<, lit≤, eqb-suc-zero, ltb→lt}
use lib.IntN.{ℤ, pos, negsuc}
use lib.Signed.{mag}
use lib.ListN.{length, get_or, get_or-append}
use lib.Ieee.{Float, nan, inf, fin, binary64, fits, to_bits, is_nan}
use lib.Ieee.Bits.{of_bits-to_bits, to_bits-lt}
use borrow.Author.Tests.{ltb-true, ltb-false, lt-ltb, le-ltb, le-leb, lt-leb, ne_eqb, eqb-true, eqb-false}
use Rattle.values.specs.declared.Value.{Value}
use Rattle.values.specs.declared.Value.TheVariants.{Whole, Truth, Real, Unset}
use Rattle.std.specs.Prelude.{Option, Some, None, Ok}
use Rattle.std.proofs.lemmas.Option.{none-some}
use Rattle.values.specs.declared.Kind.{Kind}
use Rattle.values.specs.declared.Kind.TheVariants.{Wholes, Bools, Reals}
use Rattle.values.specs.definitions.Value.{is_finite}
use Rattle.values.specs.definitions.Storable.{storable}
use Rattle.values.specs.definitions.Bytes.{same_bytes}
use Rattle.values.specs.definitions.Forms.{
  digit_byte,
  digit_of,
  decimal_digits,
  hexadecimal,
  scanned,
  led,
  decimal,
  whole_text,
  printed,
  dash,
  magnitude,
  event_field,
  read_back,
}
use Rattle.values.proofs.laws.RealLaws.{finite_by_bits}
use Rattle.values.proofs.laws.DigitLaws.{length_snoc, decimal_length, hexadecimal_length, led_one, led_by}

-- ---- digits

digit_back : (d : ℕ) → d < 16 → digit_of (digit_byte d) ≡ Some d
unfolding digit_of digit_byte
digit_back d h = go (ltb d 10) refl
  where
    go : (t : Bool) → ltb d 10 ≡ t → digit_of (digit_byte d) ≡ Some d
    go true e = let l = ltb-true d 10 e in rw (e, le-ltb (48 + d) 48 (omega arith), le-leb (48 + d) 57 (omega arith)) (ap Some (omega arith))
    go false e =
        let l = ltb-false d 10 e in
        rw (e, le-ltb (87 + d) 48 (omega arith), lt-leb (87 + d) 57 (omega arith), le-ltb (87 + d) 97 (omega arith), le-leb (87 + d) 102 (omega arith))
        (ap Some (omega arith))

scan_snoc : (b acc m : ℕ) (xs : List ℕ) (c d : ℕ) → scanned b acc xs ≡ Some m → digit_of c ≡ Some d → d < b → scanned b acc (xs ++ (c ∷ [])) ≡ Some (m * b + d)
scan_snoc b acc m [] c d h g l = let e : acc ≡ m = cc in rw (g, lt-ltb d b l, e)
scan_snoc b acc m (x ∷ xs) c d h g l = go (digit_of x) refl (λ a k. scan_snoc b a m xs c d k g l)
  where
    go : (o : Option ℕ) → digit_of x ≡ o → ((a : ℕ) → scanned b a xs ≡ Some m → scanned b a (xs ++ (c ∷ [])) ≡ Some (m * b + d))
        → scanned b acc ((x ∷ xs) ++ (c ∷ [])) ≡ Some (m * b + d)
    go None e f = absurd (none-some m (rw e at h))
    go (Some y) e f = rw e (step (ltb y b) (f (acc * b + y)) (rw e at h))
      where
        step : (t : Bool) → (scanned b (acc * b + y) xs ≡ Some m → scanned b (acc * b + y) (xs ++ (c ∷ [])) ≡ Some (m * b + d))
            → cond t (scanned b (acc * b + y) xs) None ≡ Some m → cond t (scanned b (acc * b + y) (xs ++ (c ∷ []))) None ≡ Some (m * b + d)
        step true f k = f k
        step false f k = absurd (none-some m k)

-- the last digit after those of the rest
last_back : (b n : ℕ) (xs : List ℕ) → 2 ≤ b → b ≤ 16 → scanned b 0 xs ≡ Some (n / b) → scanned b 0 (xs ++ (digit_byte (n % b) ∷ [])) ≡ Some n
last_back b n xs p q r =
    let m : n % b < b = mod-lt n (omega arith) in
    let g = digit_back (n % b) (lt_of_lt_of_le m q) in
    scan_snoc b 0 (n / b) xs (digit_byte (n % b)) (n % b) r g m ∙ ap Some (div-add-mod' n b)

-- without its last digit, a number has one digit less
rest_below : (b k n : ℕ) → 2 ≤ b → n < b ^ suc k → n / b < b ^ k
rest_below b k n p h = (div-lt_iff_lt-mul {k = b} {x = n} {y = b ^ k} (omega arith)).1 (rw (pow-suc b k) at h)

none_back : (b n : ℕ) → n < b ^ 0 → 0 ≡ n
none_back b n h = below_one (rw (pow-zero b) at h)
  where
    below_one : n < 1 → 0 ≡ n
    below_one h = omega arith

decimal_digits_back : (k n : ℕ) → n < 10 ^ k → scanned 10 0 (decimal_digits k n) ≡ Some n
unfolding decimal_digits
decimal_digits_back zero n h = ap Some (none_back 10 n h)
decimal_digits_back (suc k) n h = go (ltb n 10) refl (decimal_digits_back k (n / 10) (rest_below 10 k n (lit≤ tt) h))
  where
    go : (t : Bool) → ltb n 10 ≡ t → scanned 10 0 (decimal_digits k (n / 10)) ≡ Some (n / 10) → scanned 10 0 (decimal_digits (suc k) n) ≡ Some n
    go true e r =
        let l : n < 10 = ltb-true n 10 e in
        rw (e, digit_back n (lt_of_lt_of_le l (lit≤ tt)), lt-ltb n 10 l, zero-mul 10, zero-add n)
    go false e r = rw e (last_back 10 n (decimal_digits k (n / 10)) (lit≤ tt) (lit≤ tt) r)

hexadecimal_back : (k n : ℕ) → n < 16 ^ k → scanned 16 0 (hexadecimal k n) ≡ Some n
unfolding hexadecimal
hexadecimal_back zero n h = ap Some (none_back 16 n h)
hexadecimal_back (suc k) n h =
    last_back 16 n (hexadecimal k (n / 16)) (lit≤ tt) (lit≤ tt) (hexadecimal_back k (n / 16) (rest_below 16 k n (lit≤ tt) h))

-- what is read as a number begins with a digit, so with neither `-` nor `?`
begins : (b n : ℕ) (xs : List ℕ) (c : ℕ) → digit_of c ≡ None → scanned b 0 xs ≡ Some n → 0 < length xs → get_or xs 0 0 ≡ c → ⊥
begins b n [] c q h l e = omega arith
begins b n (x ∷ xs) c q h l e = none-some n (rw (e, q) at h)

other_text : (s : List ℕ) (c : ℕ) → 0 < length s → (get_or s 0 0 ≡ c → ⊥) → same_bytes s (c ∷ []) ≡ false
unfolding same_bytes
other_text [] c l h = refl
other_text (x ∷ xs) c l h = rw (ne_eqb x c h)

not_empty : (s : List ℕ) → 0 < length s → same_bytes s [] ≡ false
unfolding same_bytes
not_empty [] l = absurd (none l)
  where
    none : 0 < 0 → ⊥
    none h = omega arith
not_empty (x ∷ xs) l = refl

-- ---- the first digit

first_digit : (k n : ℕ) → 0 < n → n < 10 ^ k → (48 < get_or (decimal_digits k n) 0 0) × (0 < length (decimal_digits k n))
unfolding decimal_digits digit_byte
first_digit zero n p h = absurd (none n p h)
  where
    none : (n : ℕ) → 0 < n → n < 10 ^ 0 → ⊥
    none n p h = omega arith
first_digit (suc k) n p h = go (ltb n 10) refl (λ l. first_digit k (n / 10) l (less n (10 ^ k) (rw (pow-suc 10 k) at h)))
  where
    less : (n m : ℕ) → n < m * 10 → n / 10 < m
    less n m h = omega arith

    go : (t : Bool) → ltb n 10 ≡ t
        → (0 < n / 10 → (48 < get_or (decimal_digits k (n / 10)) 0 0) × (0 < length (decimal_digits k (n / 10))))
        → (48 < get_or (decimal_digits (suc k) n) 0 0) × (0 < length (decimal_digits (suc k) n))
    go true e f = rw e (omega arith, lit< tt)
    go false e f =
        let l = ltb-false n 10 e in
        let xs = decimal_digits k (n / 10) in
        let r = f (omega arith) in
        rw (e, get_or-append xs (digit_byte (n % 10) ∷ []) 0 0 r.1, length_snoc xs (digit_byte (n % 10))) (r.0, omega arith)

some_digit : (n : ℕ) → n < 10 ^ 10 → 0 < length (decimal n)
unfolding decimal_digits
some_digit zero h = lit< tt
some_digit (suc n) h = (first_digit 10 (suc n) (omega arith) h).1

two : (n : ℕ) → 0 < n → (n ≡ 1 → ⊥) → 2 ≤ n
two n h o = omega (arith, h, o)

led_decimal : (n : ℕ) → n < 10 ^ 10 → led (decimal n) ≡ true
unfolding decimal_digits led
led_decimal zero h = refl
led_decimal (suc n) h = go (eqb (length (decimal (suc n))) 1) refl
  where
    go : (t : Bool) → eqb (length (decimal (suc n))) 1 ≡ t → led (decimal (suc n)) ≡ true
    go true e = led_one (decimal (suc n)) (eqb-true (length (decimal (suc n))) 1 e)
    go false e =
        let ds = decimal (suc n) in
        let r = first_digit 10 (suc n) (omega arith) h in
        led_by ds false (two (length ds) r.1 (eqb-false (length ds) 1 e)) (decimal_length 10 (suc n)) (ne_eqb (get_or ds 0 0) 48 (λ k. omega (arith, r.0)))

-- ---- numbers and values

scan_decimal : (n : ℕ) → n < 10 ^ 10 → scanned 10 0 (decimal n) ≡ Some n
scan_decimal n h = decimal_digits_back 10 n h

pub decimal_back : (n : ℕ) → n < 10 ^ 10 → magnitude (decimal n) ≡ Some n
decimal_back n h = rw (led_decimal n h, scan_decimal n h)

whole_back : (z : ℤ) → mag z < 2 ^ 31 → event_field Wholes (whole_text z) ≡ Ok (Some (Whole z))
unfolding digit_of same_bytes
whole_back (pos n) h =
    let ds = decimal n in
    let b : n < 10 ^ 10 = omega arith in
    let s = scan_decimal n b in
    let l = some_digit n b in
    let dashed = begins 10 n ds 45 refl s l in
    let asked = begins 10 n ds 63 refl s l in
    rw (other_text ds 45 l dashed, other_text ds 63 l asked, ne_eqb (get_or ds 0 0) 45 dashed, decimal_back n b, lt-ltb n 2147483648 h)
whole_back (negsuc n) h =
    let b : suc n < 10 ^ 10 = omega arith in
    rw (not_empty (decimal (suc n)) (some_digit (suc n) b), decimal_back (suc n) b, eqb-suc-zero n, le-leb (suc n) 2147483648 h)

truth_back : (b : Bool) → event_field Bools (printed (Truth b)) ≡ Ok (Some (Truth b))
unfolding same_bytes
truth_back true = refl
truth_back false = refl

real_back : (x : Float) → T (is_finite x) → T (fits binary64 x) → event_field Reals (printed (Real x)) ≡ Ok (Some (Real x))
unfolding digit_of is_nan
real_back nan t f = absurd t
real_back (inf s) t f = absurd t
real_back (fin s m e) t f =
    let x = fin s m e in
    let w = to_bits binary64 x in
    let ds = hexadecimal 16 w in
    let r = hexadecimal_back 16 w (to_bits-lt binary64 x f) in
    let n = hexadecimal_length 16 w in
    let l : 0 < length ds = rw n (lit< tt) in
    rw (
      other_text ds 45 l (begins 16 w ds 45 refl r l),
      other_text ds 63 l (begins 16 w ds 63 refl r l),
      n,
      r,
      finite_by_bits x f,
      of_bits-to_bits binary64 x f,
    )

unset_back : (k : Kind) → event_field k (printed Unset) ≡ Ok None
unfolding same_bytes
unset_back k = refl

pub value_back : (k : Kind) (v : Value) → T (storable k v) → event_field k (printed v) ≡ read_back v
unfolding storable
value_back Wholes (Whole z) h = whole_back z (ltb→lt (mag z) (2 ^ 31) h)
value_back Bools (Truth b) h = truth_back b
value_back Reals (Real (fin s m e)) h = real_back (fin s m e) tt h
value_back k Unset h = unset_back k
value_back Bools (Whole z) h = elim h [ ]
value_back Reals (Whole z) h = elim h [ ]
value_back Wholes (Truth b) h = elim h [ ]
value_back Reals (Truth b) h = elim h [ ]
value_back Wholes (Real _) h = elim h [ ]
value_back Bools (Real _) h = elim h [ ]
value_back Reals (Real nan) h = elim h [ ]
value_back Reals (Real (inf _)) h = elim h [ ]

-- ---- lengths of texts

pub decimal_most : (n : ℕ) → length (decimal n) ≤ 10
decimal_most n = decimal_length 10 n

pub printed_most : (v : Value) → length (printed v) ≤ 16
printed_most (Whole z) = go z
  where
    go : (z : ℤ) → length (whole_text z) ≤ 16
    go (pos n) = let h = decimal_most n in omega arith
    go (negsuc n) = let h = decimal_most (suc n) in omega arith
printed_most (Truth true) = omega arith
printed_most (Truth false) = omega arith
printed_most (Real x) = go (is_nan x)
  where
    go : (t : Bool) → length (cond t dash (hexadecimal 16 (to_bits binary64 x))) ≤ 16
    go true = omega arith
    go false = omega (arith, hexadecimal_length 16 (to_bits binary64 x))
printed_most Unset = omega arith
