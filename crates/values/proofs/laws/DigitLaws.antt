-- Digits one by one: how they are put, how they are read, and how a number may begin.
use mathlib.Core.Path.{◌≡◌, refl, subst}
use mathlib.Core.List.{List, [], ◌∷◌, ◌++◌}
use mathlib.Core.Bool.{Bool, true, false, not, true≢false}
use Prim.Native.Nat.{ℕ, zero, suc, ◌+◌, ◌-◌, ◌*◌, ◌/◌, ◌%◌, ◌^◌, ◌≤◌, ◌<◌, zero-le}
use native.Mathlib.Nat.{lt_of_lt_of_le, mul-le-mul_left}
use native.Mathlib.Numerals.{sub-one, add-one}
use native.Mathlib.Omega.{arith}
use lib.Dec.{ltb, eqb}
use lib.ListN.{length, get_or, drop, length-append}
use lib.Seq.{drop-cons}
use lib.Pow.{pow-add, pow_mono}
use lib.Arith.{digits_lt}
use lib.IntN.{ℤ, pos, negsuc, nat_abs}
use lib.Signed.{lt_z}
use borrow.Author.Tests.{lt-ltb, le-ltb, le-leb, lt-leb, ne_eqb}
use Rattle.std.specs.Prelude.{Some, None, Err}
use Rattle.values.specs.definitions.Forms.{digit_byte, digit_of, decimal_digits, hexadecimal, scanned, led, decimal, malformed, whole_field, whole_text}
use Rattle.values.proofs.laws.WholeLaws.{none_below}
use Rattle.values.proofs.laws.ByteLaws.{overwritten_append}

-- ---- put

pub length_snoc : (xs : List ℕ) (c : ℕ) → length (xs ++ (c ∷ [])) ≡ length xs + 1
length_snoc xs c = length-append xs (c ∷ [])

pub decimal_none : (k n : ℕ) → k ≡ 0 → decimal_digits k n ≡ []
unfolding decimal_digits
decimal_none k n e = rw e

pub decimal_last : (k n : ℕ) → (k ≡ 0 → ⊥) → n < 10 → decimal_digits k n ≡ digit_byte n ∷ []
unfolding decimal_digits
decimal_last zero n h l = absurd (h refl)
decimal_last (suc k) n h l = rw (lt-ltb n 10 l)

pub decimal_more : (k n : ℕ) → (k ≡ 0 → ⊥) → 10 ≤ n → decimal_digits k n ≡ decimal_digits (k - 1) (n / 10) ++ (digit_byte (n % 10) ∷ [])
unfolding decimal_digits
decimal_more zero n h l = absurd (h refl)
decimal_more (suc k) n h l = rw (le-ltb n 10 l, sub-one (suc k))

pub decimal_length : (k n : ℕ) → length (decimal_digits k n) ≤ k
unfolding decimal_digits
decimal_length zero n = zero-le
decimal_length (suc k) n = go (ltb n 10) refl (decimal_length k (n / 10))
  where
    go : (t : Bool) → ltb n 10 ≡ t → length (decimal_digits k (n / 10)) ≤ k → length (decimal_digits (suc k) n) ≤ suc k
    go true e r = rw e (omega arith)
    go false e r = rw (e, length_snoc (decimal_digits k (n / 10)) (digit_byte (n % 10))) (omega arith)

pub hexadecimal_none : (k n : ℕ) → k ≡ 0 → hexadecimal k n ≡ []
unfolding hexadecimal
hexadecimal_none k n e = rw e

pub hexadecimal_more : (k n : ℕ) → (k ≡ 0 → ⊥) → hexadecimal k n ≡ hexadecimal (k - 1) (n / 16) ++ (digit_byte (n % 16) ∷ [])
unfolding hexadecimal
hexadecimal_more zero n h = absurd (h refl)
hexadecimal_more (suc k) n h = rw (sub-one (suc k))

pub hexadecimal_length : (k n : ℕ) → length (hexadecimal k n) ≡ k
unfolding hexadecimal
hexadecimal_length zero n = refl
hexadecimal_length (suc k) n = rw (length_snoc (hexadecimal k (n / 16)) (digit_byte (n % 16)), hexadecimal_length k (n / 16)) (omega arith)

-- what code that puts digits one by one needs
pub ruleset digits_put = (decimal_none, decimal_last, decimal_more, hexadecimal_none, hexadecimal_more, length_snoc, overwritten_append)

-- a whole's text, by its sign
pub text_negative : (z : ℤ) → lt_z z (pos 0) ≡ true → whole_text z ≡ 45 ∷ decimal (nat_abs z)
text_negative (pos n) h = absurd (none_below n h)
text_negative (negsuc n) h = refl

pub text_unsigned : (z : ℤ) → lt_z z (pos 0) ≡ false → whole_text z ≡ decimal (nat_abs z)
text_unsigned (pos n) h = refl
text_unsigned (negsuc n) h = absurd (true≢false h)

-- ---- read

module _ (b acc : ℕ) (l : List ℕ) (i : ℕ) (h : i < length l) where
  pub scan_step : (d : ℕ) → digit_of (get_or l i 0) ≡ Some d → d < b → scanned b acc (drop i l) ≡ scanned b (acc * b + d) (drop (i + 1) l)
  scan_step d e p = rw (drop-cons l i 0 h, e, lt-ltb d b p, add-one i)

  pub scan_stop : (d : ℕ) → digit_of (get_or l i 0) ≡ Some d → b ≤ d → scanned b acc (drop i l) ≡ None
  scan_stop d e p = rw (drop-cons l i 0 h, e, le-ltb d b p)

  pub scan_none : digit_of (get_or l i 0) ≡ None → scanned b acc (drop i l) ≡ None
  scan_none e = rw (drop-cons l i 0 h, e)

-- a digit in a base of at most 16 takes 4 bits
bits_more : (i : ℕ) → 4 * i + 4 ≡ 4 * (i + 1)
bits_more i = omega arith

pub scan_bound : (acc base d i : ℕ) → acc < 2 ^ (4 * i) → base ≤ 16 → d < base → acc * base + d < 2 ^ (4 * (i + 1))
scan_bound acc base d i p q r =
    subst (λ (e : ℕ). acc * base + d < 2 ^ e) (bits_more i)
    (rw (pow-add 2 (4 * i) 4) (lt_of_lt_of_le (digits_lt p r) (mul-le-mul_left (2 ^ (4 * i)) q)))

pub scan_fits : (acc base d i : ℕ) → i < 16 → acc < 2 ^ (4 * i) → base ≤ 16 → d < base → acc * base + d < 2 ^ 64
scan_fits acc base d i k p q r = lt_of_lt_of_le (scan_bound acc base d i p q r) (pow_mono {i = 4 * (i + 1)} {j = 64} (omega arith))

-- what code that reads digits one by one needs
pub ruleset digits_read = (scan_step, scan_stop, scan_none, scan_bound, scan_fits)

-- ---- how a number may begin

pub led_one : (l : List ℕ) → length l ≡ 1 → led l ≡ true
unfolding led
led_one l h = rw h

pub led_long : (l : List ℕ) → 10 < length l → led l ≡ false
unfolding led
led_long l m = rw (le-leb 1 (length l) (omega arith), lt-leb (length l) 10 m)

pub led_by : (l : List ℕ) (b : Bool) → 2 ≤ length l → length l ≤ 10 → eqb (get_or l 0 0) 48 ≡ b → led l ≡ not b
unfolding led
led_by l b k m e = rw (le-leb 1 (length l) (omega arith), le-leb (length l) 10 m, ne_eqb (length l) 1 (λ e. omega arith), e)

pub empty_malformed : (l : List ℕ) → length l ≡ 0 → whole_field l ≡ Err malformed
unfolding led
empty_malformed [] h = refl
empty_malformed (x ∷ xs) h = absurd (clash (length xs) h)
  where
    clash : (n : ℕ) → suc n ≡ 0 → ⊥
    clash n h = omega arith
