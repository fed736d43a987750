-- Whole division: the quotient by the signs; it is the floor, and nothing else is; a divisor more makes it one more; where 32 bits hold it;
-- and what the program computes on the way.
use mathlib.Core.Path.{◌≡◌, refl, sym, ap, subst, ◌∙◌}
use mathlib.Core.Bool.{Bool, true, false, cond, false≢true}
use Prim.Native.Nat.{ℕ, zero, suc, ◌+◌, ◌-◌, ◌*◌, ◌/◌, ◌%◌, ◌^◌, ◌≤◌, ◌<◌}
use native.Mathlib.Nat.{
  suc-mul,
  zero-mul,
  add-suc,
  zero-div,
  zero-mod,
  zero-lt-suc,
  le_trans,
  le_of_lt,
  lt_trans,
  lt_of_le_of_lt,
  lt_of_lt_of_le,
  mod-lt,
  div-add-mod',
  div-mul-le_self,
  lt-div-mul-add,
  div-eq_of_lt,
  div-eq_of_lt-le,
  add-div_right,
  div-le_self,
  div-lt_self,
  div-one,
}
use native.Mathlib.Numerals.{add-one}
use native.Mathlib.Omega.{arith}
use lib.Arith.{digits_div}
use lib.Dec.{ltb, eqb, lit<, leb→le, le→leb, ltb→lt, lt→ltb, eqb-suc-zero}
use lib.IntN.{
  ℤ,
  pos,
  negsuc,
  neg_ℤ,
  suc_ℤ,
  pred_ℤ,
  sub_ℕ,
  ◌+ℤ◌,
  ◌-ℤ◌,
  ◌*ℤ◌,
  pred-suc,
  suc-pred,
  neg_ℤ-neg_ℤ,
  neg_ℤ-+ℤ,
  +ℤ_idr,
  +ℤ_one,
  -ℤ_one,
  +ℤ_assoc,
  +ℤ_comm,
  +ℤ-suc_ℤ,
  suc_ℤ-*ℤ,
  zero-*ℤ,
  *ℤ-negsuc,
  ℤ_ind,
}
use lib.Signed.{mag, lt_z, quot_z, rem_z, shr_z, mag_rem, mag_shr, ◌≤ℤ◌, ◌<ℤ◌}
use borrow.Author.Tests.{ltb-true, ltb-false, le-ltb}
use Rattle.values.specs.definitions.Division.{is_zero, has_sign_of, floor_quotient}
use Rattle.values.proofs.laws.WholeLaws.{turned_mag, mul_mag, none_below}

-- ---- the quotient by the signs

-- a remainder on the dividend's side of 0 has a divisor's sign that is the dividend's, and else only where it is 0
alike_up : (r n : ℕ) → has_sign_of (pos r) (pos (suc n)) ≡ true
alike_up zero n = refl
alike_up (suc r) n = rw (eqb-suc-zero r)

alike_down : (r n : ℕ) → has_sign_of (neg_ℤ (pos r)) (negsuc n) ≡ true
alike_down zero n = refl
alike_down (suc r) n = refl

other_up : (r n : ℕ) → has_sign_of (pos r) (negsuc n) ≡ eqb r 0
other_up zero n = refl
other_up (suc r) n = rw (eqb-suc-zero r)

other_down : (r n : ℕ) → has_sign_of (neg_ℤ (pos r)) (pos (suc n)) ≡ eqb r 0
other_down zero n = refl
other_down (suc r) n = rw (eqb-suc-zero r)

less_one : (k : ℕ) → neg_ℤ (pos k) -ℤ pos 1 ≡ negsuc k
less_one k = -ℤ_one (neg_ℤ (pos k)) ∙ back k
  where
    back : (k : ℕ) → pred_ℤ (neg_ℤ (pos k)) ≡ negsuc k
    back zero = refl
    back (suc k) = refl

quotient_is : (k : ℕ) {a r m : ℕ} → k * m + r ≡ a → r < m → k ≡ a / m
quotient_is k {m = m} e h = sym (digits_div k h) ∙ ap (λ (x : ℕ). x / m) e

-- where a + 1 is k divisors and r, the floor of -(a + 1) is -(a / divisor) - 1
turned_is : (n a k r : ℕ) → k * suc n + r ≡ suc a → r < suc n → cond (eqb r 0) (neg_ℤ (pos k)) (neg_ℤ (pos k) -ℤ pos 1) ≡ negsuc (a / suc n)
turned_is n a zero zero e h = absurd (omega (arith, zero-mul (suc n), e))
turned_is n a (suc k) zero e h = ap negsuc (quotient_is k {r = n} (omega (arith, suc-mul k (suc n), e)) (omega arith))
turned_is n a k (suc r) e h = rw (eqb-suc-zero r) (less_one k ∙ ap negsuc (quotient_is k {r = r} (omega (arith, e)) (omega (arith, h))))

-- a positive divisor rounds down as a shift does, and a negative one is turned with its dividend
pub floor_up : (x : ℤ) (n : ℕ) → floor_quotient x (pos (suc n)) ≡ shr_z x (suc n)
floor_up (pos a) n = rw (alike_up (a % suc n) n)
floor_up (negsuc a) n =
    rw (other_down (suc a % suc n) n)
    (turned_is n a (suc a / suc n) (suc a % suc n) (div-add-mod' (suc a) (suc n)) (mod-lt (suc a) (zero-lt-suc n)))

pub floor_turned : (x : ℤ) (n : ℕ) → floor_quotient x (negsuc n) ≡ shr_z (neg_ℤ x) (suc n)
floor_turned (pos zero) n = rw (zero-mod (suc n), zero-div (suc n))
floor_turned (pos (suc a)) n =
    rw (other_up (suc a % suc n) n)
    (turned_is n a (suc a / suc n) (suc a % suc n) (div-add-mod' (suc a) (suc n)) (mod-lt (suc a) (zero-lt-suc n)))
floor_turned (negsuc a) n = rw (alike_down (suc a % suc n) n)

-- ---- the order, turned

neg_le : (a b : ℤ) → a ≤ℤ b → neg_ℤ b ≤ℤ neg_ℤ a
neg_le (pos zero) (pos zero) h = record { le = tt }
neg_le (pos zero) (pos (suc b)) h = record { le = tt }
neg_le (pos (suc a)) (pos zero) h = absurd (omega (arith, leb→le (suc a) zero h.le))
neg_le (pos (suc a)) (pos (suc b)) h = record { le = le→leb a b (omega (arith, leb→le (suc a) (suc b) h.le)) }
neg_le (pos a) (negsuc b) h = absurd h.le
neg_le (negsuc a) (pos zero) h = record { le = le→leb zero (suc a) (omega arith) }
neg_le (negsuc a) (pos (suc b)) h = record { le = tt }
neg_le (negsuc a) (negsuc b) h = record { le = le→leb (suc b) (suc a) (omega (arith, leb→le b a h.le)) }

neg_lt : (a b : ℤ) → a <ℤ b → neg_ℤ b <ℤ neg_ℤ a
neg_lt (pos zero) (pos zero) h = absurd (omega (arith, ltb→lt zero zero h.lt))
neg_lt (pos zero) (pos (suc b)) h = record { lt = tt }
neg_lt (pos (suc a)) (pos zero) h = absurd (omega (arith, ltb→lt (suc a) zero h.lt))
neg_lt (pos (suc a)) (pos (suc b)) h = record { lt = lt→ltb a b (omega (arith, ltb→lt (suc a) (suc b) h.lt)) }
neg_lt (pos a) (negsuc b) h = absurd h.lt
neg_lt (negsuc a) (pos zero) h = record { lt = lt→ltb zero (suc a) (omega arith) }
neg_lt (negsuc a) (pos (suc b)) h = record { lt = tt }
neg_lt (negsuc a) (negsuc b) h = record { lt = lt→ltb (suc b) (suc a) (omega (arith, ltb→lt b a h.lt)) }

-- ---- the floor of a positive divisor, and only it

times_down : (k n : ℕ) → negsuc k *ℤ pos (suc n) ≡ negsuc (k * suc n + n)
times_down k n = rw (suc-mul k (suc n), add-suc (k * suc n) n)

next_down : (k n : ℕ) → negsuc k *ℤ pos (suc n) +ℤ pos (suc n) ≡ neg_ℤ (pos (k * suc n))
next_down k n = sym (suc_ℤ-*ℤ (negsuc k) (pos (suc n))) ∙ by k
  where
    by : (k : ℕ) → suc_ℤ (negsuc k) *ℤ pos (suc n) ≡ neg_ℤ (pos (k * suc n))
    by zero = rw (zero-mul (suc n))
    by (suc k) = refl

below_down : (a c : ℕ) → c ≤ a → negsuc a <ℤ neg_ℤ (pos c)
below_down a zero h = record { lt = tt }
below_down a (suc c) h = record { lt = lt→ltb c a h }

down_below : (a c : ℕ) → negsuc a <ℤ neg_ℤ (pos c) → c ≤ a
down_below a zero h = omega arith
down_below a (suc c) h = ltb→lt c a h.lt

up_not_down : (a c : ℕ) → pos a <ℤ neg_ℤ (pos c) → ⊥
up_not_down a zero h = omega (arith, ltb→lt a zero h.lt)
up_not_down a (suc c) h = h.lt

pub down_bounds : (x : ℤ) (n : ℕ) → ((shr_z x (suc n) *ℤ pos (suc n)) ≤ℤ x) × (x <ℤ (shr_z x (suc n) *ℤ pos (suc n) +ℤ pos (suc n)))
down_bounds (pos a) n = (
  record { le = le→leb (a / suc n * suc n) a (div-mul-le_self a (suc n)) },
  record { lt = lt→ltb a (a / suc n * suc n + suc n) (lt-div-mul-add (zero-lt-suc n)) },
)
down_bounds (negsuc a) n = (
  rw (times_down (a / suc n) n) (record { le = le→leb a (a / suc n * suc n + n) (omega (arith, lt-div-mul-add {a = a} {b = suc n} (zero-lt-suc n))) }),
  rw (next_down (a / suc n) n) (below_down a (a / suc n * suc n) (div-mul-le_self a (suc n))),
)

divided_is : (k a n : ℕ) → k * suc n ≤ a → a < k * suc n + suc n → k ≡ a / suc n
divided_is k a n h l = sym (div-eq_of_lt-le (suc n) h (rw (add-one k, suc-mul k (suc n)) l))

pub down_only : (x q : ℤ) (n : ℕ) → (q *ℤ pos (suc n)) ≤ℤ x → x <ℤ (q *ℤ pos (suc n) +ℤ pos (suc n)) → q ≡ shr_z x (suc n)
down_only (pos a) (pos k) n h l = ap pos (divided_is k a n (leb→le (k * suc n) a h.le) (ltb→lt a (k * suc n + suc n) l.lt))
down_only (pos a) (negsuc k) n h l = absurd (up_not_down a (k * suc n) (rw (next_down k n) at l))
down_only (negsuc a) (pos k) n h l = absurd h.le
down_only (negsuc a) (negsuc k) n h l =
    let low = down_below a (k * suc n) (rw (next_down k n) at l) in
    let high = leb→le a (k * suc n + n) (rw (times_down k n) at h).le in
    ap negsuc (divided_is k a n low (omega (arith, high)))

-- ---- and of a negative one

-- q divisors and one more, turned
turned_next : (q : ℤ) (n : ℕ) → q *ℤ negsuc n +ℤ negsuc n ≡ neg_ℤ (q *ℤ pos (suc n) +ℤ pos (suc n))
turned_next q n = ap (λ (z : ℤ). z +ℤ negsuc n) (*ℤ-negsuc q n) ∙ sym (neg_ℤ-+ℤ (q *ℤ pos (suc n)) (pos (suc n)))

module _ (x q : ℤ) (n : ℕ) where
  pub bounds_turned : ((q *ℤ pos (suc n)) ≤ℤ neg_ℤ x) × (neg_ℤ x <ℤ (q *ℤ pos (suc n) +ℤ pos (suc n)))
      → ((q *ℤ negsuc n +ℤ negsuc n) <ℤ x) × (x ≤ℤ (q *ℤ negsuc n))
  bounds_turned (h, l) = (
    rw (turned_next q n) (subst (λ (z : ℤ). neg_ℤ (q *ℤ pos (suc n) +ℤ pos (suc n)) <ℤ z) (neg_ℤ-neg_ℤ x) (neg_lt _ _ l)),
    rw (*ℤ-negsuc q n) (subst (λ (z : ℤ). z ≤ℤ neg_ℤ (q *ℤ pos (suc n))) (neg_ℤ-neg_ℤ x) (neg_le _ _ h)),
  )

  pub bounds_back : (q *ℤ negsuc n +ℤ negsuc n) <ℤ x → x ≤ℤ (q *ℤ negsuc n)
      → ((q *ℤ pos (suc n)) ≤ℤ neg_ℤ x) × (neg_ℤ x <ℤ (q *ℤ pos (suc n) +ℤ pos (suc n)))
  bounds_back l h = (
    subst (λ (z : ℤ). z ≤ℤ neg_ℤ x) (neg_ℤ-neg_ℤ (q *ℤ pos (suc n))) (neg_le _ _ (rw (*ℤ-negsuc q n) at h)),
    subst (λ (z : ℤ). neg_ℤ x <ℤ z) (neg_ℤ-neg_ℤ (q *ℤ pos (suc n) +ℤ pos (suc n))) (neg_lt _ _ (rw (turned_next q n) at l)),
  )

-- ---- what remains

-- a number that is not below another, less that one
difference_up : (a b : ℤ) → b ≤ℤ a → (k : ℕ) × (a -ℤ b ≡ pos k)
difference_up (pos a) (pos zero) h = (a + 0, refl)
difference_up (pos a) (pos (suc b)) h = (a - suc b, rw (le-ltb a (suc b) (leb→le (suc b) a h.le)))
difference_up (pos a) (negsuc b) h = (a + suc b, refl)
difference_up (negsuc a) (pos b) h = absurd h.le
difference_up (negsuc a) (negsuc b) h = (suc b - suc a, rw (le-ltb (suc b) (suc a) (omega (arith, leb→le a b h.le))))

pub remainder_up : (x c : ℤ) (n : ℕ) → c ≤ℤ x → has_sign_of (x -ℤ c) (pos (suc n)) ≡ true
remainder_up x c n h = let (k, e) = difference_up x c h in rw e (alike_up k n)

pub remainder_down : (x c : ℤ) (n : ℕ) → x ≤ℤ c → has_sign_of (x -ℤ c) (negsuc n) ≡ true
remainder_down x c n h = let (k, e) = difference_up c x h in rw (turned, e) (alike_down k n)
  where
    turned : x -ℤ c ≡ neg_ℤ (c -ℤ x)
    turned = sym (neg_ℤ-+ℤ c (neg_ℤ x) ∙ ap (λ (z : ℤ). neg_ℤ c +ℤ z) (neg_ℤ-neg_ℤ x) ∙ +ℤ_comm (neg_ℤ c) x)

-- ---- a divisor more in the dividend is one more in the quotient

down_step : (x : ℤ) (n : ℕ) → shr_z (x +ℤ pos (suc n)) (suc n) ≡ suc_ℤ (shr_z x (suc n))
down_step (pos a) n = ap pos (add-div_right a (zero-lt-suc n) ∙ add-one (a / suc n))
down_step (negsuc a) n = go (ltb (suc n) (suc a)) refl
  where
    more : (d : ℕ) → a ≡ d + suc n → negsuc (d / suc n) ≡ suc_ℤ (negsuc (a / suc n))
    more d e = rw (e, add-div_right d (zero-lt-suc n), add-one (d / suc n))

    go : (t : Bool) → ltb (suc n) (suc a) ≡ t → shr_z (sub_ℕ (suc n) (suc a)) (suc n) ≡ suc_ℤ (negsuc (a / suc n))
    go true e = rw e (more (suc a - suc (suc n)) (omega (arith, ltb-true (suc n) (suc a) e)))
    go false e =
        rw (e, div-eq_of_lt {n = suc n - suc a} {m = suc n} (omega (arith, ltb-false (suc n) (suc a) e)), div-eq_of_lt {n = a} {m = suc n} (omega (arith, ltb-false (suc n) (suc a) e)))

floor_step : (x y : ℤ) → is_zero y ≡ false → floor_quotient (x +ℤ y) y ≡ suc_ℤ (floor_quotient x y)
floor_step x (pos zero) z = absurd (false≢true (sym z))
floor_step x (pos (suc n)) z = floor_up (x +ℤ pos (suc n)) n ∙ down_step x n ∙ ap suc_ℤ (sym (floor_up x n))
floor_step x (negsuc n) z =
    floor_turned (x +ℤ negsuc n) n ∙ ap (λ (w : ℤ). shr_z w (suc n)) (neg_ℤ-+ℤ x (negsuc n)) ∙ down_step (neg_ℤ x) n ∙ ap suc_ℤ (sym (floor_turned x n))

module _ (x y : ℤ) (z : is_zero y ≡ false) where
  abbrev Moves : ℤ → Type 0
  Moves k = floor_quotient (x +ℤ k *ℤ y) y ≡ floor_quotient x y +ℤ k

  stepped : (k : ℤ) → floor_quotient (x +ℤ suc_ℤ k *ℤ y) y ≡ suc_ℤ (floor_quotient (x +ℤ k *ℤ y) y)
  stepped k = ap (λ (w : ℤ). floor_quotient w y) (ap (λ (w : ℤ). x +ℤ w) (suc_ℤ-*ℤ k y) ∙ sym (+ℤ_assoc x (k *ℤ y) y)) ∙ floor_step (x +ℤ k *ℤ y) y z

  one_up : (k : ℤ) → Moves k → Moves (suc_ℤ k)
  one_up k h = stepped k ∙ ap suc_ℤ h ∙ sym (+ℤ-suc_ℤ (floor_quotient x y) k)

  one_down : (k : ℤ) → Moves (suc_ℤ k) → Moves k
  one_down k h = sym (pred-suc _) ∙ ap pred_ℤ (sym (stepped k) ∙ h ∙ +ℤ-suc_ℤ (floor_quotient x y) k) ∙ pred-suc _

  pub floor_moves : (k : ℤ) → Moves k
  floor_moves =
      ℤ_ind Moves
      (ap (λ (w : ℤ). floor_quotient w y) (ap (λ (w : ℤ). x +ℤ w) (zero-*ℤ y) ∙ +ℤ_idr x) ∙ sym (+ℤ_idr (floor_quotient x y)))
      (λ n h. subst Moves (sym (+ℤ_one (pos n))) (one_up (pos n) h))
      (λ n h. subst Moves (sym (-ℤ_one (neg_ℤ (pos n)))) (one_down (pred_ℤ (neg_ℤ (pos n))) (subst Moves (sym (suc-pred (neg_ℤ (pos n)))) h)))

-- ---- 32 bits hold the floor but for one pair

pub floor_mag : (x y : ℤ) → mag x < 2 ^ 31 → is_zero y ≡ false → ((x ≡ negsuc 2147483647) × (y ≡ negsuc 0) → ⊥) → mag (floor_quotient x y) < 2 ^ 31
floor_mag x (pos zero) h z f = absurd (false≢true (sym z))
floor_mag x (pos (suc n)) h z f = rw (floor_up x n) (lt_of_le_of_lt (mag_shr x (suc n)) h)
floor_mag (pos zero) (negsuc n) h z f = rw (floor_turned (pos zero) n) (lt_of_le_of_lt (div-le_self zero (suc n)) h)
floor_mag (pos (suc a)) (negsuc n) h z f = rw (floor_turned (pos (suc a)) n) (lt_of_le_of_lt (div-le_self a (suc n)) (omega (arith, h)))
floor_mag (negsuc a) (negsuc (suc n)) h z f =
    rw (floor_turned (negsuc a) (suc n)) (lt_of_lt_of_le (div-lt_self {n = suc a} {k = suc (suc n)} (zero-lt-suc a) (omega arith)) h)
floor_mag (negsuc a) (negsuc zero) h z f = rw (floor_turned (negsuc a) zero, div-one (suc a)) (go (ltb a 2147483647) refl)
  where
    go : (t : Bool) → ltb a 2147483647 ≡ t → suc a < 2 ^ 31
    go true e = omega (arith, ltb-true a 2147483647 e)
    go false e =
        let top : a ≡ 2147483647 = omega (arith, h, ltb-false a 2147483647 e) in
        absurd (f (ap negsuc top, refl))

-- ---- the program: 64 bits hold the quotient, one less, the remainder, and the remainder times the divisor

quot_le : (x y : ℤ) → mag x < 2 ^ 31 → mag (quot_z x y) ≤ 2 ^ 31
quot_le (pos a) (pos b) p = le_trans (div-le_self a b) (le_of_lt p)
quot_le (pos a) (negsuc b) p = turned_mag (a / suc b) (2 ^ 31) (le_trans (div-le_self a (suc b)) (le_of_lt p))
quot_le (negsuc a) (pos b) p = turned_mag (suc a / b) (2 ^ 31) (le_trans (div-le_self (suc a) b) p)
quot_le (negsuc a) (negsuc b) p = le_trans (div-le_self (suc a) (suc b)) p

pub quot_mag : (x y : ℤ) → mag x < 2 ^ 31 → mag y < 2 ^ 31 → mag (quot_z x y) < 2 ^ 63
quot_mag x y p q = lt_of_le_of_lt (quot_le x y p) (lit< tt)

unfoldable pub quot_less : ℤ → ℤ → ℤ
quot_less x y = quot_z x y -ℤ pos 1

pub quot_less_mag : (x y : ℤ) → mag x < 2 ^ 31 → mag y < 2 ^ 31 → mag (quot_less x y) < 2 ^ 63
unfolding quot_less
quot_less_mag x y p q = rw (-ℤ_one (quot_z x y)) (go (quot_z x y) (quot_le x y p))
  where
    go : (z : ℤ) → mag z ≤ 2 ^ 31 → mag (pred_ℤ z) < 2 ^ 63
    go (pos zero) h = lit< tt
    go (pos (suc n)) h = omega (arith, h)
    go (negsuc n) h = omega (arith, h)

remainder_small : (x y : ℤ) → mag x < 2 ^ 31 → mag (rem_z x y) < 2 ^ 31
remainder_small x y p = lt_of_le_of_lt (mag_rem x y) p

pub remainder_mag : (x y : ℤ) → mag x < 2 ^ 31 → mag y < 2 ^ 31 → mag (rem_z x y) < 2 ^ 63
remainder_mag x y p q = lt_trans (remainder_small x y p) (lit< tt)

unfoldable pub remainder_times : ℤ → ℤ → ℤ
remainder_times x y = rem_z x y *ℤ y

pub remainder_times_mag : (x y : ℤ) → mag x < 2 ^ 31 → mag y < 2 ^ 31 → mag (remainder_times x y) < 2 ^ 63
unfolding remainder_times
remainder_times_mag x y p q = mul_mag (rem_z x y) y (remainder_small x y p) q

-- ---- the program's test: the product is negative exactly where the remainder has the other sign

pub other_sign : (r y : ℤ) → lt_z (r *ℤ y) (pos 0) ≡ true → has_sign_of r y ≡ false
other_sign (pos a) (pos b) h = absurd (none_below (a * b) h)
other_sign (pos zero) (negsuc b) h = absurd (none_below 0 (rw (zero-mul (suc b)) at h))
other_sign (pos (suc a)) (negsuc b) h = rw (eqb-suc-zero a)
other_sign (negsuc a) (pos b) h = refl
other_sign (negsuc a) (negsuc b) h = absurd (none_below (suc a * suc b) h)

pub own_sign : (r y : ℤ) → is_zero y ≡ false → lt_z (r *ℤ y) (pos 0) ≡ false → has_sign_of r y ≡ true
own_sign (pos zero) y z h = refl
own_sign (pos (suc a)) (pos b) z h = rw (eqb-suc-zero a)
own_sign (pos (suc a)) (negsuc b) z h = absurd (false≢true (sym (rw (suc-mul a (suc b), add-suc (a * suc b) b) at h)))
own_sign (negsuc a) (pos zero) z h = absurd (false≢true (sym z))
own_sign (negsuc a) (pos (suc b)) z h = absurd (false≢true (sym (rw (times_down a b) at h)))
own_sign (negsuc a) (negsuc b) z h = refl
