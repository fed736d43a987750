-- The bits of a number: of 0, of a power of two, and of what `|` and `&` make of two numbers.
use Prim.Native.Nat.{ℕ, zero, suc, ◌+◌, ◌*◌, ◌/◌, ◌%◌, ◌^◌, ◌<◌, suc-le-suc}
use native.Mathlib.Nat.{zero-div, div-one, mod-lt, pow-suc, mul-div_cancel, mul-mod_left, zero-lt-suc, lt_of_le_of_lt, one-mul}
use native.Mathlib.Omega.{arith}
use mathlib.Core.Path.{◌≡◌, refl, sym, ap, ap₂, ◌∙◌}
use mathlib.Core.Bool.{Bool, true, false, false≢true, ◌&&◌, ◌||◌}
use lib.Bits.{bit_and, bit_or, and_shr, or_shr, and_mod, or_mod, and_le_l}
use lib.Dec.{eqb, lit<, eqb-zero-suc, eqb-suc-zero, eqb-suc-suc}
use lib.Pow.{shr-shr, shl_exact}
use borrow.Author.Tests.{eqb-false}
use Rattle.cell_sets.specs.definitions.Sets.{has_bit}

-- bit number k + 1 is bit number k of half the number
pub has_bit_suc : (n k : ℕ) → has_bit n (suc k) ≡ has_bit (n / 2) k
unfolding has_bit
has_bit_suc n k = ap (λ (x : ℕ). eqb (x % 2) 1) (sym (shr-shr n 1 k ∙ ap (λ (x : ℕ). n / 2 ^ x) (next k)))
  where
    next : (k : ℕ) → 1 + k ≡ suc k
    next k = omega arith

pub has_bit_first : (n : ℕ) → has_bit n 0 ≡ eqb (n % 2) 1
unfolding has_bit
has_bit_first n = ap (λ (x : ℕ). eqb (x % 2) 1) (div-one n)

pub has_bit_zero : (k : ℕ) → has_bit 0 k ≡ false
unfolding has_bit
has_bit_zero k = ap (λ (x : ℕ). eqb (x % 2) 1) (zero-div (2 ^ k))

-- ---- `|` and `&`: first of the lowest bits

or_low : (p q : ℕ) → p < 2 → q < 2 → eqb (bit_or p q) 1 ≡ (eqb p 1 || eqb q 1)
or_low zero q h g = refl
or_low (suc zero) zero h g = refl
or_low (suc zero) (suc zero) h g = refl
or_low (suc zero) (suc (suc q)) h g = absurd (omega arith)
or_low (suc (suc p)) q h g = absurd (omega arith)

and_low : (p q : ℕ) → p < 2 → q < 2 → eqb (bit_and p q) 1 ≡ (eqb p 1 && eqb q 1)
and_low zero q h g = refl
and_low (suc zero) zero h g = refl
and_low (suc zero) (suc zero) h g = refl
and_low (suc zero) (suc (suc q)) h g = absurd (omega arith)
and_low (suc (suc p)) q h g = absurd (omega arith)

pub has_bit_or : (a b k : ℕ) → has_bit (bit_or a b) k ≡ (has_bit a k || has_bit b k)
unfolding has_bit
has_bit_or a b k =
    let x = a / 2 ^ k in
    let y = b / 2 ^ k in
    ap (λ (z : ℕ). eqb (z % 2) 1) (or_shr a b k)
    ∙ ap (λ (z : ℕ). eqb z 1) (or_mod x y 1)
    ∙ or_low (x % 2) (y % 2) (mod-lt x (zero-lt-suc 1)) (mod-lt y (zero-lt-suc 1))

pub has_bit_and : (a b k : ℕ) → has_bit (bit_and a b) k ≡ (has_bit a k && has_bit b k)
unfolding has_bit
has_bit_and a b k =
    let x = a / 2 ^ k in
    let y = b / 2 ^ k in
    ap (λ (z : ℕ). eqb (z % 2) 1) (and_shr a b k)
    ∙ ap (λ (z : ℕ). eqb z 1) (and_mod x y 1)
    ∙ and_low (x % 2) (y % 2) (mod-lt x (zero-lt-suc 1)) (mod-lt y (zero-lt-suc 1))

-- ---- a power of two has one bit

pow_half : (k : ℕ) → 2 ^ suc k / 2 ≡ 2 ^ k
pow_half k = ap (λ (x : ℕ). x / 2) (pow-suc 2 k) ∙ mul-div_cancel (2 ^ k) (zero-lt-suc 1)

pow_even : (k : ℕ) → 2 ^ suc k % 2 ≡ 0
pow_even k = ap (λ (x : ℕ). x % 2) (pow-suc 2 k) ∙ mul-mod_left (2 ^ k) 2

pub has_bit_pow : (k j : ℕ) → has_bit (2 ^ k) j ≡ eqb k j
has_bit_pow zero zero = has_bit_first 1
has_bit_pow zero (suc j) = has_bit_suc 1 j ∙ has_bit_zero j ∙ sym (eqb-zero-suc j)
has_bit_pow (suc k) zero = has_bit_first (2 ^ suc k) ∙ ap (λ (x : ℕ). eqb x 1) (pow_even k) ∙ sym (eqb-suc-zero k)
has_bit_pow (suc k) (suc j) =
    has_bit_suc (2 ^ suc k) j ∙ ap (λ (x : ℕ). has_bit x j) (pow_half k) ∙ has_bit_pow k j ∙ sym (eqb-suc-suc k j)

-- ---- bits in common

-- where two numbers have a bit in common, `&` of them is not 0
pub and_meets : (a b k : ℕ) → has_bit a k ≡ true → has_bit b k ≡ true → bit_and a b ≡ 0 → ⊥
and_meets a b k p q z =
    false≢true (sym (has_bit_zero k) ∙ ap (λ (x : ℕ). has_bit x k) (sym z) ∙ has_bit_and a b k ∙ ap₂ ◌&&◌ p q)

-- a number of m bits that is not 0 has a bit
pub some_bit : (m n : ℕ) → n < 2 ^ m → (n ≡ 0 → ⊥) → (k : ℕ) × (k < m) × (has_bit n k ≡ true)
some_bit zero n h d = absurd (d (omega arith))
some_bit (suc m) n h d = go (eqb (n % 2) 1) refl (some_bit m (n / 2))
  where
    half : n / 2 < 2 ^ m
    half = let p = pow-suc 2 m in omega arith

    higher : (n % 2 ≡ 1 → ⊥) → n / 2 ≡ 0 → ⊥
    higher o z = let l = mod-lt n (zero-lt-suc 1) in d (omega arith)

    next : (k : ℕ) × (k < m) × (has_bit (n / 2) k ≡ true) → (k : ℕ) × (k < suc m) × (has_bit n k ≡ true)
    next (k, l, t) = (suc k, suc-le-suc l, has_bit_suc n k ∙ t)

    go : (b : Bool) → eqb (n % 2) 1 ≡ b → (n / 2 < 2 ^ m → (n / 2 ≡ 0 → ⊥) → (k : ℕ) × (k < m) × (has_bit (n / 2) k ≡ true))
        → (k : ℕ) × (k < suc m) × (has_bit n k ≡ true)
    go true e rest = (0, zero-lt-suc m, has_bit_first n ∙ e)
    go false e rest = next (rest half (higher (eqb-false (n % 2) 1 e)))

-- where `&` of two numbers is not 0 they have a bit in common, one of the m bits of the first
pub meets_and : (m a b : ℕ) → a < 2 ^ m → (bit_and a b ≡ 0 → ⊥) → (k : ℕ) × (k < m) × (has_bit a k ≡ true) × (has_bit b k ≡ true)
meets_and m a b h d = both (some_bit m (bit_and a b) (lt_of_le_of_lt (and_le_l a b) h) d)
  where
    parts : (p q : Bool) → (p && q) ≡ true → (p ≡ true) × (q ≡ true)
    parts true true e = (refl, refl)
    parts true false e = absurd (false≢true e)
    parts false q e = absurd (false≢true e)

    both : (k : ℕ) × (k < m) × (has_bit (bit_and a b) k ≡ true) → (k : ℕ) × (k < m) × (has_bit a k ≡ true) × (has_bit b k ≡ true)
    both (k, l, t) = let (p, q) = parts (has_bit a k) (has_bit b k) (sym (has_bit_and a b k) ∙ t) in (k, l, p, q)

-- ---- `1 << k` in a word of w bits: nothing is shifted out

pub bit_shifted : (k w : ℕ) → k < w → 1 * 2 ^ k % 2 ^ w ≡ 2 ^ k
bit_shifted k w h = shl_exact 1 k w (lit< tt) (omega arith) ∙ one-mul (2 ^ k)

pub bit_added : (n k w : ℕ) → k < w → (j : ℕ) → has_bit (bit_or n (1 * 2 ^ k % 2 ^ w)) j ≡ (has_bit n j || eqb k j)
bit_added n k w h j =
    ap (λ (x : ℕ). has_bit (bit_or n x) j) (bit_shifted k w h) ∙ has_bit_or n (2 ^ k) j ∙ ap (λ (b : Bool). has_bit n j || b) (has_bit_pow k j)
