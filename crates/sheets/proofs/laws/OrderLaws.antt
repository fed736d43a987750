-- The order of reals that are no NaN: by their values over a common denominator.
use mathlib.Core.Path.{◌≡◌, refl, sym, subst}
use mathlib.Core.Bool.{Bool, true, false, not}
use Prim.Native.Nat.{ℕ, ◌+◌, ◌*◌, ◌≤◌, ◌<◌}
use native.Mathlib.Nat.{zero-mul, add-mul, mul_right_comm, mul-lt-mul_of_pos_right, lt_of_mul-lt-mul_right}
use native.Mathlib.Omega.{arith}
use lib.Dec.{T, ltb, ltb→lt, lt→ltb, nltb→le}
use lib.Ieee.{Float, nan, inf, fin, up, down, below, lt, is_nan}
use lib.Ieee.Fits.{down_pos}

-- ---- signed fractions over one denominator

not_less : (a b : ℕ) → b ≤ a → T (not (ltb a b))
not_less a b h = go (ltb a b) (ltb→lt a b)
  where
    clash : a < b → ⊥
    clash l = omega arith

    go : (t : Bool) → (T t → a < b) → T (not t)
    go true f = absurd (clash (f tt))
    go false f = tt

below_asym : (s : Bool) (a : ℕ) (t : Bool) (b : ℕ) → T (below s a t b) → T (not (below t b s a))
below_asym false a false b h = let l = ltb→lt a b h in not_less b a (omega arith)
below_asym true a false b h = tt
below_asym true a true b h = let l = ltb→lt b a h in not_less a b (omega arith)
below_asym false a true b h = elim h [ ]

-- a < b ≤ c
below_low : (s : Bool) (a : ℕ) (t : Bool) (b : ℕ) (u : Bool) (c : ℕ) → T (below s a t b) → T (not (below u c t b)) → T (below s a u c)
below_low false a false b false c p q = let x = ltb→lt a b p in let y = nltb→le c b q in lt→ltb a c (omega arith)
below_low false a false b true c p q = let x = ltb→lt a b p in let y = nltb→le 0 (c + b) q in absurd (omega arith)
below_low true a false b false c p q = let x = ltb→lt 0 (a + b) p in let y = nltb→le c b q in lt→ltb 0 (a + c) (omega arith)
below_low true a false b true c p q = let x = ltb→lt 0 (a + b) p in let y = nltb→le 0 (c + b) q in lt→ltb c a (omega arith)
below_low true a true b false c p q = let x = ltb→lt b a p in lt→ltb 0 (a + c) (omega arith)
below_low true a true b true c p q = let x = ltb→lt b a p in let y = nltb→le b c q in lt→ltb c a (omega arith)
below_low false a true b u c p q = elim p [ ]

-- c ≤ b < a
below_high : (s : Bool) (a : ℕ) (t : Bool) (b : ℕ) (u : Bool) (c : ℕ) → T (below t b s a) → T (not (below t b u c)) → T (below u c s a)
below_high false a false b false c p q = let x = ltb→lt b a p in let y = nltb→le b c q in lt→ltb c a (omega arith)
below_high false a false b true c p q = let x = ltb→lt b a p in lt→ltb 0 (c + a) (omega arith)
below_high false a true b false c p q = let x = ltb→lt 0 (b + a) p in let y = nltb→le 0 (b + c) q in lt→ltb c a (omega arith)
below_high false a true b true c p q = let x = ltb→lt 0 (b + a) p in let y = nltb→le c b q in lt→ltb 0 (c + a) (omega arith)
below_high true a true b false c p q = let x = ltb→lt a b p in let y = nltb→le 0 (b + c) q in absurd (omega arith)
below_high true a true b true c p q = let x = ltb→lt a b p in let y = nltb→le c b q in lt→ltb a c (omega arith)
below_high true a false b u c p q = elim p [ ]

-- ---- a common factor

same_test : (p q : Bool) → (T p → T q) → (T q → T p) → p ≡ q
same_test true true f g = refl
same_test true false f g = absurd (f tt)
same_test false true f g = absurd (g tt)
same_test false false f g = refl

ltb_scale : (a b k : ℕ) → 0 < k → ltb (a * k) (b * k) ≡ ltb a b
ltb_scale a b k h =
    same_test (ltb (a * k) (b * k)) (ltb a b) (λ t. lt→ltb a b (lt_of_mul-lt-mul_right k (ltb→lt (a * k) (b * k) t)))
    (λ t. lt→ltb (a * k) (b * k) (mul-lt-mul_of_pos_right (ltb→lt a b t) h))

below_scale : (s : Bool) (a : ℕ) (t : Bool) (b k : ℕ) → 0 < k → below s (a * k) t (b * k) ≡ below s a t b
below_scale false a false b k h = ltb_scale a b k h
below_scale false a true b k h = refl
below_scale true a false b k h = rw (zero-mul, add-mul) at (ltb_scale 0 (a + b) k h)
below_scale true a true b k h = ltb_scale b a k h

-- ±a/x, ±b/y and ±c/z, compared in pairs by cross products
module _ (s t u : Bool) (a b c x y z : ℕ) (px : 0 < x) (py : 0 < y) (pz : 0 < z) where
  first_second : below s (a * y * z) t (b * x * z) ≡ below s (a * y) t (b * x)
  first_second = below_scale s (a * y) t (b * x) z pz

  second_first : below t (b * x * z) s (a * y * z) ≡ below t (b * x) s (a * y)
  second_first = below_scale t (b * x) s (a * y) z pz

  second_third : below t (b * x * z) u (c * x * y) ≡ below t (b * z) u (c * y)
  second_third = rw (mul_right_comm b x z, mul_right_comm c x y) (below_scale t (b * z) u (c * y) x px)

  third_second : below u (c * x * y) t (b * x * z) ≡ below u (c * y) t (b * z)
  third_second = rw (mul_right_comm b x z, mul_right_comm c x y) (below_scale u (c * y) t (b * z) x px)

  first_third : below s (a * y * z) u (c * x * y) ≡ below s (a * z) u (c * x)
  first_third = rw (mul_right_comm a y z) (below_scale s (a * z) u (c * x) y py)

  third_first : below u (c * x * y) s (a * y * z) ≡ below u (c * x) s (a * z)
  third_first = rw (mul_right_comm a y z) (below_scale u (c * x) s (a * z) y py)

  fractions_low : T (below s (a * y) t (b * x)) → T (not (below u (c * y) t (b * z))) → T (below s (a * z) u (c * x))
  fractions_low p q =
      subst T first_third
      (below_low s (a * y * z) t (b * x * z) u (c * x * y) (subst T (sym first_second) p) (subst (λ (v : Bool). T (not v)) (sym third_second) q))

  fractions_high : T (below t (b * x) s (a * y)) → T (not (below t (b * z) u (c * y))) → T (below u (c * x) s (a * z))
  fractions_high p q =
      subst T third_first
      (below_high s (a * y * z) t (b * x * z) u (c * x * y) (subst T (sym second_first) p) (subst (λ (v : Bool). T (not v)) (sym second_third) q))

-- ---- reals

above_highest : (y : Float) → T (lt (inf false) y) → ⊥
unfolding lt
above_highest nan h = h
above_highest (inf t) h = h
above_highest (fin t n d) h = h

below_lowest : (y : Float) → T (lt y (inf true)) → ⊥
unfolding lt
below_lowest nan h = h
below_lowest (inf true) h = h
below_lowest (inf false) h = h
below_lowest (fin t n d) h = h

below_nan : (y : Float) → T (lt y nan) → ⊥
unfolding lt
below_nan nan h = h
below_nan (inf t) h = h
below_nan (fin t n d) h = h

pub lt_asym : (x y : Float) → T (lt x y) → T (not (lt y x))
unfolding lt
lt_asym (inf false) y h = absurd (above_highest y h)
lt_asym (inf true) (inf false) h = tt
lt_asym (inf true) (fin t n d) h = tt
lt_asym (fin s m e) (inf false) h = tt
lt_asym (fin s m e) (fin t n d) h = below_asym s (m * up e * down d) t (n * up d * down e) h
lt_asym nan y h = elim h [ ]
lt_asym (inf true) nan h = elim h [ ]
lt_asym (inf true) (inf true) h = elim h [ ]
lt_asym (fin s m e) nan h = elim h [ ]
lt_asym (fin s m e) (inf true) h = elim h [ ]

-- x < y ≤ z
pub lt_low : (x y z : Float) → T (not (is_nan z)) → T (lt x y) → T (not (lt z y)) → T (lt x z)
unfolding lt is_nan
lt_low (inf false) y z r p q = absurd (above_highest y p)
lt_low (inf true) (inf false) (inf false) r p q = tt
lt_low (inf true) (fin t n d) (inf false) r p q = tt
lt_low (inf true) (fin t n d) (fin u o g) r p q = tt
lt_low (fin s m e) (inf false) (inf false) r p q = tt
lt_low (fin s m e) (fin t n d) (inf false) r p q = tt
lt_low (fin s m e) (fin t n d) (fin u o g) r p q =
    fractions_low s t u (m * up e) (n * up d) (o * up g) (down e) (down d) (down g) (down_pos e) (down_pos d) (down_pos g) p q
lt_low nan y z r p q = elim p [ ]
lt_low (inf true) nan z r p q = elim p [ ]
lt_low (inf true) (inf false) nan r p q = elim r [ ]
lt_low (inf true) (inf false) (inf true) r p q = elim q [ ]
lt_low (inf true) (inf false) (fin u o g) r p q = elim q [ ]
lt_low (inf true) (inf true) z r p q = elim p [ ]
lt_low (inf true) (fin t n d) nan r p q = elim r [ ]
lt_low (inf true) (fin t n d) (inf true) r p q = elim q [ ]
lt_low (fin s m e) nan z r p q = elim p [ ]
lt_low (fin s m e) (inf false) nan r p q = elim r [ ]
lt_low (fin s m e) (inf false) (inf true) r p q = elim q [ ]
lt_low (fin s m e) (inf false) (fin u o g) r p q = elim q [ ]
lt_low (fin s m e) (inf true) z r p q = elim p [ ]
lt_low (fin s m e) (fin t n d) nan r p q = elim r [ ]
lt_low (fin s m e) (fin t n d) (inf true) r p q = elim q [ ]

-- z ≤ y < x
pub lt_high : (x y z : Float) → T (not (is_nan z)) → T (lt y x) → T (not (lt y z)) → T (lt z x)
unfolding lt is_nan
lt_high nan y z r p q = absurd (below_nan y p)
lt_high (inf true) y z r p q = absurd (below_lowest y p)
lt_high (inf false) (inf true) (inf true) r p q = tt
lt_high (inf false) (fin t n d) (inf true) r p q = tt
lt_high (inf false) (fin t n d) (fin u o g) r p q = tt
lt_high (fin s m e) (inf true) (inf true) r p q = tt
lt_high (fin s m e) (fin t n d) (inf true) r p q = tt
lt_high (fin s m e) (fin t n d) (fin u o g) r p q =
    fractions_high s t u (m * up e) (n * up d) (o * up g) (down e) (down d) (down g) (down_pos e) (down_pos d) (down_pos g) p q
lt_high (inf false) nan z r p q = elim p [ ]
lt_high (inf false) (inf false) z r p q = elim p [ ]
lt_high (inf false) (inf true) nan r p q = elim r [ ]
lt_high (inf false) (inf true) (inf false) r p q = elim q [ ]
lt_high (inf false) (inf true) (fin u o g) r p q = elim q [ ]
lt_high (inf false) (fin t n d) nan r p q = elim r [ ]
lt_high (inf false) (fin t n d) (inf false) r p q = elim q [ ]
lt_high (fin s m e) nan z r p q = elim p [ ]
lt_high (fin s m e) (inf false) z r p q = elim p [ ]
lt_high (fin s m e) (inf true) nan r p q = elim r [ ]
lt_high (fin s m e) (inf true) (inf false) r p q = elim q [ ]
lt_high (fin s m e) (inf true) (fin u o g) r p q = elim q [ ]
lt_high (fin s m e) (fin t n d) nan r p q = elim r [ ]
lt_high (fin s m e) (fin t n d) (inf false) r p q = elim q [ ]
