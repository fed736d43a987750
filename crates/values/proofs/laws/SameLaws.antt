-- Values that do not differ: `plain` drops a zero's sign, storable values do not differ exactly where they are one value when plain, and what is worked out from such values is again such.
use mathlib.Core.Path.{◌≡◌, refl, sym, ap, ◌∙◌}
use mathlib.Core.Bool.{Bool, true, false, not, ◌&&◌, ◌||◌, beq, or-true}
use Prim.Native.Nat.compare
use Prim.Native.Nat.{ℕ, zero, suc, ◌*◌, ◌^◌, ◌<◌, zero-le, compare}
use native.Mathlib.Nat.{zero-add, add-zero, zero-mul, mul-zero, zero-div, zero-mod, mul-pos, mul_right_comm, zero-lt-suc, sub-zero}
use native.Mathlib.Omega.{arith}
use lib.Dec.{T, eqb, eqb→eq, eqb-suc-zero}
use lib.IntN.{ℤ, pos, negsuc}
use lib.Ieee as Ieee
use lib.Ieee.{Float, nan, inf, fin, Format, binary64, up, down, low, fits, of_bits, to_bits}
use lib.Ieee.Fits.{and_l, and_r, up_pos, down_pos}
use lib.Ieee.Nearest.{div_same}
use lib.Ieee.Bits.{of_bits-to_bits}
use borrow.Author.Tests.{lt-ltb, le-ltb, eq-eqb}
use Rattle.values.specs.declared.Value.{Value}
use Rattle.values.specs.declared.Value.TheVariants.{Whole, Truth, Real, Unset}
use Rattle.values.specs.declared.Operator.{Operator}
use Rattle.values.specs.declared.Operator.TheVariants.{Plus, Minus, Times, Divide}
use Rattle.values.specs.declared.Kind.{Kind}
use Rattle.values.specs.declared.Kind.TheVariants.{Wholes, Bools, Reals}
use Rattle.values.specs.definitions.Value.{settled, real_op, operated, negated, as_real, same_whole, equal, differ}
use Rattle.values.specs.definitions.Storable.{storable}

abbrev pub same : Value → Value → Type 0
same v w = differ v w ≡ false

-- a value, but a zero without its sign
abbrev pub plain : Value → Value
plain (Whole x) = Whole x
plain (Truth x) = Truth x
plain (Real nan) = Real nan
plain (Real (inf s)) = Real (inf s)
plain (Real (fin s zero e)) = Real (fin false zero e)
plain (Real (fin s (suc m) e)) = Real (fin s (suc m) e)
plain Unset = Unset

-- what does not see a zero's sign is one for values that are one when plain
abbrev pub Blind : {A : Type 0} → (Float → A) → Type 0
Blind g = (s t : Bool) (e : ℤ) → g (fin s 0 e) ≡ g (fin t 0 e)

module _ {A : Type 0} (g : Value → A) (h : Blind (λ x. g (Real x))) where
  of_plain : (v : Value) → g v ≡ g (plain v)
  of_plain (Whole x) = refl
  of_plain (Truth x) = refl
  of_plain (Real nan) = refl
  of_plain (Real (inf s)) = refl
  of_plain (Real (fin s zero e)) = h s false e
  of_plain (Real (fin s (suc m) e)) = refl
  of_plain Unset = refl

  pub respects : (v w : Value) → plain v ≡ plain w → g v ≡ g w
  respects v w p = of_plain v ∙ ap g p ∙ sym (of_plain w)

-- ---- operators on reals: a zero rounds to a zero, and a sum with a zero is the other part, each up to a zero's sign

least : (u : ℕ) → Ieee.nearest 0 (compare 0 u) ≡ 0
least zero = refl
least (suc u) = rw (compare.zero-suc u)

ruleset zeros = (zero-mul, mul-zero, zero-div, zero-mod, least, eqb-suc-zero)

abbrev result : Float → Value
result x = plain (settled x)

abbrev rounded : Bool → ℕ → ℕ → Value
rounded s a c = result (Ieee.round binary64 s a c)

left_sum : (s t : Bool) (b c : ℕ) → result (Ieee.sum binary64 s 0 t b c) ≡ rounded t b c
unfolding Ieee.sum settled
left_sum true true b c = rw zero-add
left_sum true false zero c = refl
left_sum true false (suc b) c = rw (lt-ltb 0 (suc b) (zero-lt-suc b), sub-zero)
left_sum false true zero c = simp zeros
left_sum false true (suc b) c = rw (lt-ltb 0 (suc b) (zero-lt-suc b), sub-zero)
left_sum false false b c = rw zero-add

right_sum : (s t : Bool) (a c : ℕ) → result (Ieee.sum binary64 s a t 0 c) ≡ rounded s a c
unfolding Ieee.sum settled
right_sum true true a c = rw add-zero
right_sum true false zero c = simp zeros
right_sum true false (suc a) c = rw (le-ltb (suc a) 0 zero-le, lt-ltb 0 (suc a) (zero-lt-suc a), sub-zero)
right_sum false true zero c = refl
right_sum false true (suc a) c = rw (le-ltb (suc a) 0 zero-le, sub-zero)
right_sum false false a c = rw add-zero

left_op : (op : Operator) (y : Float) → Blind (λ x. plain (real_op op x y))
unfolding Ieee.sub Ieee.mul Ieee.div settled
left_op Plus nan s t e = refl
left_op Plus (inf u) s t e = refl
left_op Plus (fin u n d) s t e = simp (zero-mul, left_sum)
left_op Minus nan s t e = refl
left_op Minus (inf u) s t e = refl
left_op Minus (fin u n d) s t e = simp (zero-mul, left_sum)
left_op Times nan s t e = refl
left_op Times (inf u) s t e = refl
left_op Times (fin u n d) s t e = simp zeros
left_op Divide nan s t e = refl
left_op Divide (inf u) s t e = refl
left_op Divide (fin u zero d) s t e = refl
left_op Divide (fin u (suc n) d) s t e = simp zeros

right_op : (op : Operator) (x : Float) → Blind (λ y. plain (real_op op x y))
unfolding Ieee.sub Ieee.mul Ieee.div settled
right_op Plus nan s t e = refl
right_op Plus (inf u) s t e = refl
right_op Plus (fin u m d) s t e = simp (zero-mul, right_sum)
right_op Minus nan s t e = refl
right_op Minus (inf u) s t e = refl
right_op Minus (fin u m d) s t e = simp (zero-mul, right_sum)
right_op Times nan s t e = refl
right_op Times (inf u) s t e = refl
right_op Times (fin u m d) s t e = simp zeros
right_op Divide nan s t e = refl
right_op Divide (inf u) s t e = refl
right_op Divide (fin u zero d) s t e = refl
right_op Divide (fin u (suc m) d) s t e = simp zeros

minus : Blind (λ x. plain (negated (Real x)))
unfolding Ieee.neg settled
minus s t e = refl

-- ---- equality of reals

absorbed : (p q : Bool) → (p && (q || p)) ≡ p
absorbed true q = or-true q
absorbed false q = refl

left_eq : (y : Float) → Blind (λ x. Ieee.eq x y)
unfolding Ieee.eq
left_eq nan s t e = refl
left_eq (inf u) s t e = refl
left_eq (fin u n d) s t e = simp (zero-mul, or-true)

right_eq : (x : Float) → Blind (λ y. Ieee.eq x y)
unfolding Ieee.eq
right_eq nan s t e = refl
right_eq (inf u) s t e = refl
right_eq (fin u m d) s t e = simp (zero-mul, absorbed)

-- ---- results from any values that are one when plain

module _ (a a' : Value) (p : plain a ≡ plain a') where
  pub negated_plain : plain (negated a) ≡ plain (negated a')
  negated_plain = respects (λ v. plain (negated v)) minus a a' p

  pub as_real_plain : plain (as_real a) ≡ plain (as_real a')
  as_real_plain = respects (λ v. plain (as_real v)) (λ s t e. refl) a a' p

  module _ (b b' : Value) (q : plain b ≡ plain b') where
    pub operated_plain : (op : Operator) → plain (operated op a b) ≡ plain (operated op a' b')
    operated_plain op =
        respects (λ v. plain (operated op v b)) (elim b as (λ b. Blind (λ x. plain (operated op (Real x) b))) [ Whole y ↦ λ s t e. refl | Truth y ↦ λ s t e. refl | Real y ↦ left_op op y | Unset ↦ λ s t e. refl ]) a a' p
        ∙ respects (λ v. plain (operated op a' v)) (elim a' as (λ a. Blind (λ x. plain (operated op a (Real x)))) [ Whole x ↦ λ s t e. refl | Truth x ↦ λ s t e. refl | Real x ↦ right_op op x | Unset ↦ λ s t e. refl ]) b b' q

    pub equal_plain : equal a b ≡ equal a' b'
    equal_plain =
        respects (λ v. equal v b) (elim b as (λ b. Blind (λ x. equal (Real x) b)) [ Whole y ↦ λ s t e. refl | Truth y ↦ λ s t e. refl | Real y ↦ left_eq y | Unset ↦ λ s t e. refl ]) a a' p
        ∙ respects (λ v. equal a' v) (elim a' as (λ a. Blind (λ x. equal a (Real x))) [ Whole x ↦ λ s t e. refl | Truth x ↦ λ s t e. refl | Real x ↦ right_eq x | Unset ↦ λ s t e. refl ]) b b' q

-- ---- storable values are the same exactly where they are one when plain

-- a NaN differs from itself, but no storable value is one
pub same_refl : (k : Kind) (v : Value) → T (storable k v) → same v v
unfolding storable Ieee.eq
same_refl Wholes (Whole (pos n)) h = rw (eq-eqb n n refl)
same_refl Wholes (Whole (negsuc n)) h = rw (eq-eqb n n refl)
same_refl Bools (Truth true) h = refl
same_refl Bools (Truth false) h = refl
same_refl Reals (Real (fin true m e)) h = let n = m * up e * down e in rw (eq-eqb n n refl)
same_refl Reals (Real (fin false m e)) h = let n = m * up e * down e in rw (eq-eqb n n refl)
same_refl k Unset h = refl
same_refl Bools (Whole _) h = elim h [ ]
same_refl Reals (Whole _) h = elim h [ ]
same_refl Wholes (Truth _) h = elim h [ ]
same_refl Reals (Truth _) h = elim h [ ]
same_refl Wholes (Real _) h = elim h [ ]
same_refl Bools (Real _) h = elim h [ ]
same_refl Reals (Real nan) h = elim h [ ]
same_refl Reals (Real (inf _)) h = elim h [ ]

pub plain_same : (k : Kind) (v w : Value) → T (storable k v) → plain v ≡ plain w → same v w
plain_same k v w h p =
    respects (differ v) (elim v as (λ v. Blind (λ x. differ v (Real x))) [ Whole x ↦ λ s t e. refl | Truth x ↦ λ s t e. refl | Real x ↦ λ s t e. ap not (right_eq x s t e) | Unset ↦ λ s t e. refl ]) w v (sym p)
    ∙ same_refl k v h

-- a real that a format holds has one form, and so one pattern of bits
module _ (f : Format) (s : Bool) (m n : ℕ) (e d : ℤ) (q : m * up e * down d ≡ n * up d * down e) where
  one_pattern : to_bits f (fin s m e) ≡ to_bits f (fin s n d)
  unfolding to_bits
  one_pattern =
      rw (div_same (m * up e * 2 ^ low f) (down e) (n * up d * 2 ^ low f) (down d) (down_pos e) (down_pos d)
      (mul_right_comm (m * up e) (2 ^ low f) (down d) ∙ ap (λ z. z * 2 ^ low f) q ∙ mul_right_comm (n * up d) (down e) (2 ^ low f)))

  one_form : T (fits f (fin s m e)) → T (fits f (fin s n d)) → fin s m e ≡ fin s n d
  one_form h g = sym (of_bits-to_bits f (fin s m e) h) ∙ ap (of_bits f) one_pattern ∙ of_bits-to_bits f (fin s n d) g

turned_fits : (f : Format) (s t : Bool) (m : ℕ) (e : ℤ) → T (fits f (fin s m e)) → T (fits f (fin t m e))
unfolding fits
turned_fits f s t zero e h = h
turned_fits f s t (suc m) e h = h

not_zero : (m : ℕ) (e d : ℤ) → T (eqb (suc m * up e * down d) 0) → ⊥
not_zero m e d h = let p : 0 < suc m * up e * down d = mul-pos (mul-pos (zero-lt-suc m) (up_pos e)) (down_pos d) in omega (arith, eqb→eq)

one_sign : (s t : Bool) (m : ℕ) (e d : ℤ) → T (beq s t || eqb (m * up e * down d) 0) → plain (Real (fin s m e)) ≡ plain (Real (fin t m e))
one_sign s t zero e d h = refl
one_sign true true (suc m) e d h = refl
one_sign true false (suc m) e d h = absurd (not_zero m e d h)
one_sign false true (suc m) e d h = absurd (not_zero m e d h)
one_sign false false (suc m) e d h = refl

one_real : (x y : Float) → T (storable Reals (Real x)) → T (storable Reals (Real y)) → T (Ieee.eq x y) → plain (Real x) ≡ plain (Real y)
unfolding storable Ieee.eq
one_real (fin s m e) (fin t n d) h g q =
    let z = eqb (m * up e * down d) (n * up d * down e) in
    let r = beq s t || eqb (m * up e * down d) 0 in
    one_sign s t m e d (and_r z r q) ∙ ap (λ x. plain (Real x)) (one_form binary64 t m n e d (eqb→eq _ _ (and_l z r q)) (turned_fits binary64 s t m e h) g)
one_real nan y h g q = elim h [ ]
one_real (inf _) y h g q = elim h [ ]
one_real (fin s m e) nan h g q = elim g [ ]
one_real (fin s m e) (inf _) h g q = elim g [ ]

one_whole : (x y : ℤ) → T (same_whole x y) → x ≡ y
one_whole (pos a) (pos b) h = ap pos (eqb→eq a b h)
one_whole (negsuc a) (negsuc b) h = ap negsuc (eqb→eq a b h)
one_whole (pos a) (negsuc b) h = elim h [ ]
one_whole (negsuc a) (pos b) h = elim h [ ]

pub same_plain : (k : Kind) (v w : Value) → T (storable k v) → T (storable k w) → same v w → plain v ≡ plain w
unfolding storable
same_plain k v w h g e = go k v w h g (rw e tt)
  where
    test : (b : Bool) → T (not (not b)) → T b
    test true h = tt
    test false h = elim h [ ]

    go : (k : Kind) (v w : Value) → T (storable k v) → T (storable k w) → T (not (differ v w)) → plain v ≡ plain w
    go Wholes (Whole x) (Whole y) h g q = ap Whole (one_whole x y (test (same_whole x y) q))
    go Bools (Truth true) (Truth true) h g q = refl
    go Bools (Truth false) (Truth false) h g q = refl
    go Reals (Real x) (Real y) h g q = one_real x y h g (test (Ieee.eq x y) q)
    go k Unset Unset h g q = refl
    go Wholes (Whole x) (Truth _) h g q = elim g [ ]
    go Wholes (Whole x) (Real y) h g q = elim g [ ]
    go Wholes (Whole x) Unset h g q = elim q [ ]
    go Bools (Whole x) _ h g q = elim h [ ]
    go Reals (Whole x) _ h g q = elim h [ ]
    go Wholes (Truth _) _ h g q = elim h [ ]
    go Bools (Truth false) (Whole y) h g q = elim g [ ]
    go Bools (Truth false) (Truth true) h g q = elim q [ ]
    go Bools (Truth false) (Real y) h g q = elim g [ ]
    go Bools (Truth false) Unset h g q = elim q [ ]
    go Bools (Truth true) (Whole y) h g q = elim g [ ]
    go Bools (Truth true) (Truth false) h g q = elim q [ ]
    go Bools (Truth true) (Real y) h g q = elim g [ ]
    go Bools (Truth true) Unset h g q = elim q [ ]
    go Reals (Truth _) _ h g q = elim h [ ]
    go Wholes (Real x) _ h g q = elim h [ ]
    go Bools (Real x) _ h g q = elim h [ ]
    go Reals (Real x) (Whole y) h g q = elim g [ ]
    go Reals (Real x) (Truth _) h g q = elim g [ ]
    go Reals (Real x) Unset h g q = elim q [ ]
    go k Unset (Whole y) h g q = elim q [ ]
    go k Unset (Truth _) h g q = elim q [ ]
    go k Unset (Real y) h g q = elim q [ ]
