-- Storable values: what keeps them so, the 9 bytes that hold one, and that every field that is read gives one.
use mathlib.Core.Path.{◌≡◌, refl, ap}
use mathlib.Core.Bool.{Bool, true, false, cond}
use mathlib.Core.List.{List}
use Prim.Native.Nat.{ℕ, suc, ◌^◌, ◌<◌}
use native.Mathlib.Nat.{lt_trans}
use native.Mathlib.Omega.{arith}
use lib.Dec.{T, ltb, leb, eqb, lit<, lt→ltb, ltb→lt}
use lib.IntN.{ℤ, pos, neg_ℤ, sub_ℕ}
use lib.Signed.{mag}
use lib.ListN.{length, get_or, drop}
use lib.Ieee as Ieee
use lib.Ieee.{Float, nan, inf, fin, binary64, fits, of_bits, is_nan}
use lib.Ieee.Fits.{and_i, and_l, and_r, add-fits, sub-fits, mul-fits, div-fits, neg-fits, of_int-fits}
use lib.Ieee.Bits.{of_bits-fits, of_bits-to_bits, to_bits-lt}
use borrow.Author.Tests.{ltb-true, leb-true, lt-ltb}
use Rattle.values.specs.declared.Value.{Value}
use Rattle.values.specs.declared.Value.TheVariants.{Whole, Truth, Real, Unset}
use Rattle.values.specs.declared.Operator.{Operator}
use Rattle.values.specs.declared.Operator.TheVariants.{Plus, Minus, Times, Divide}
use Rattle.values.specs.declared.Kind.{Kind}
use Rattle.values.specs.declared.Kind.TheVariants.{Wholes, Bools, Reals}
use Rattle.std.specs.Prelude.{Option, Some, None, Ok, Err}
use Rattle.values.specs.definitions.Division.{is_zero}
use Rattle.values.specs.definitions.Value.{is_finite, fitted, settled, whole_op, real_op, operated, negated, as_real}
use Rattle.values.specs.definitions.Storable.{of_kind, in_range, storable}
use Rattle.values.specs.definitions.Fitting.{number_kind, has_kind}
use Rattle.values.specs.definitions.Bytes.{same_bytes}
use Rattle.values.specs.definitions.Cells.{tag, payload, raised, finite_bits, unpacked, cell_bytes}
use Rattle.values.specs.definitions.Forms.{Field, malformed, dash, query, true_text, false_text, magnitude, scanned}
use Rattle.values.specs.definitions.Forms.{unsigned_whole, negative_whole, truth_field, finite_real, kind_field, event_field, presence_field}
use Rattle.values.proofs.laws.WholeLaws.{raised_lt, lowered_mag, lowered_raised, neg_small}
use Rattle.values.proofs.laws.RealLaws.{finite_of_bits, finite_by_bits}
use Rattle.values.proofs.laws.ByteLaws.{length_low_first}

pub unset_storable : (k : Kind) → T (storable k Unset)
unfolding storable
unset_storable k = tt

pub storable_of_kind : (k : Kind) (v : Value) → T (storable k v) → T (of_kind k v)
unfolding storable
storable_of_kind k v h = and_l (of_kind k v) (in_range v) h

-- the kind of a cell does not matter to what a value of it must be
pub storable_at_kind : (j k : Kind) (v : Value) → T (storable j v) → T (of_kind k v) → T (storable k v)
unfolding storable
storable_at_kind j k v h o = and_i (of_kind k v) (in_range v) o (and_r (of_kind j v) (in_range v) h)

pub test_storable : (k : Kind) (b : Bool) (v : Value) → (b ≡ true → T (storable k v)) → T (storable k (cond b v Unset))
test_storable k true v h = h refl
test_storable k false v h = unset_storable k

-- ---- operators

whole_storable : (z : ℤ) → mag z < 2 ^ 31 → T (storable Wholes (Whole z))
unfolding storable
whole_storable z h = lt→ltb (mag z) (2 ^ 31) h

pub fitted_storable : (z : ℤ) → T (storable Wholes (fitted z))
unfolding fitted
fitted_storable z = test_storable Wholes (ltb (mag z) (2 ^ 31)) (Whole z) (λ e. whole_storable z (ltb-true (mag z) (2 ^ 31) e))

pub settled_storable : (x : Float) → T (fits binary64 x) → T (storable Reals (settled x))
unfolding settled storable
settled_storable nan h = tt
settled_storable (inf s) h = tt
settled_storable (fin s m e) h = h

whole_op_storable : (op : Operator) (x y : ℤ) → T (storable Wholes (whole_op op x y))
whole_op_storable Plus x y = fitted_storable _
whole_op_storable Minus x y = fitted_storable _
whole_op_storable Times x y = fitted_storable _
whole_op_storable Divide x y = go (is_zero y) _
  where
    go : (b : Bool) (z : ℤ) → T (storable Wholes (cond b Unset (fitted z)))
    go true z = unset_storable Wholes
    go false z = fitted_storable z

real_op_storable : (op : Operator) (x y : Float) → T (storable Reals (real_op op x y))
real_op_storable Plus x y = settled_storable _ (add-fits binary64 x y)
real_op_storable Minus x y = settled_storable _ (sub-fits binary64 x y)
real_op_storable Times x y = settled_storable _ (mul-fits binary64 x y)
real_op_storable Divide x y = settled_storable _ (div-fits binary64 x y)

pub operated_storable : (k : Kind) (op : Operator) (a b : Value) → T (has_kind (number_kind k)) → T (storable k a) → T (storable k b) → T (storable k (operated op a b))
unfolding storable has_kind number_kind
operated_storable Wholes op (Whole x) (Whole y) n h g = whole_op_storable op x y
operated_storable Wholes op (Whole x) Unset n h g = tt
operated_storable Reals op (Real x) (Real y) n h g = real_op_storable op x y
operated_storable Reals op (Real x) Unset n h g = tt
operated_storable Wholes op Unset b n h g = tt
operated_storable Reals op Unset b n h g = tt
operated_storable Wholes op (Whole x) (Truth _) n h g = elim g [ ]
operated_storable Wholes op (Whole x) (Real y) n h g = elim g [ ]
operated_storable Wholes op (Truth _) b n h g = elim h [ ]
operated_storable Wholes op (Real x) b n h g = elim h [ ]
operated_storable Bools op a b n h g = elim n [ ]
operated_storable Reals op (Whole x) b n h g = elim h [ ]
operated_storable Reals op (Truth _) b n h g = elim h [ ]
operated_storable Reals op (Real x) (Whole y) n h g = elim g [ ]
operated_storable Reals op (Real x) (Truth _) n h g = elim g [ ]

pub negated_storable : (k : Kind) (a : Value) → T (has_kind (number_kind k)) → T (storable k a) → T (storable k (negated a))
unfolding storable has_kind number_kind
negated_storable Wholes (Whole x) n h = fitted_storable (neg_ℤ x)
negated_storable Reals (Real x) n h = settled_storable (Ieee.neg x) (neg-fits binary64 x (and_r (is_finite x) (fits binary64 x) h))
negated_storable Wholes Unset n h = tt
negated_storable Reals Unset n h = tt
negated_storable Wholes (Truth _) n h = elim h [ ]
negated_storable Wholes (Real x) n h = elim h [ ]
negated_storable Bools a n h = elim n [ ]
negated_storable Reals (Whole x) n h = elim h [ ]
negated_storable Reals (Truth _) n h = elim h [ ]

pub as_real_storable : (a : Value) → T (storable Wholes a) → T (storable Reals (as_real a))
unfolding storable
as_real_storable (Whole x) h = settled_storable (Ieee.of_int binary64 x) (of_int-fits binary64 x)
as_real_storable Unset h = tt
as_real_storable (Truth _) h = elim h [ ]
as_real_storable (Real _) h = elim h [ ]

-- ---- the 9 bytes of a cell

-- the kind of the values with a tag; with no value's tag a cell is unset, which every kind has
abbrev pub tag_kind : ℕ → Kind
tag_kind t = cond (eqb t 1) Wholes (cond (eqb t 2) Bools Reals)

pub unpacked_storable : (t w : ℕ) → T (storable (tag_kind t) (unpacked t w))
unfolding unpacked storable
unpacked_storable t w = go (eqb t 1) (eqb t 2) (eqb t 3)
  where
    wholes : T (storable Wholes (cond (ltb w 4294967296) (Whole (sub_ℕ w 2147483648)) Unset))
    wholes =
        let z = sub_ℕ w 2147483648 in
        test_storable Wholes (ltb w 4294967296) (Whole z) (λ e. whole_storable z (lowered_mag w (ltb-true w 4294967296 e)))

    bools : (a b : Bool) → T (storable Bools (cond a (Truth false) (cond b (Truth true) Unset)))
    bools true b = tt
    bools false true = tt
    bools false false = tt

    reals : T (storable Reals (cond (finite_bits w) (Real (of_bits binary64 w)) Unset))
    reals = test_storable Reals (finite_bits w) (Real (of_bits binary64 w)) (λ e. rw (finite_of_bits w, e) (of_bits-fits binary64 w))

    go : (a b c : Bool) → T (storable (cond a Wholes (cond b Bools Reals)) (
        cond a (cond (ltb w 4294967296) (Whole (sub_ℕ w 2147483648)) Unset)
        (cond b (cond (eqb w 0) (Truth false) (cond (eqb w 1) (Truth true) Unset))
        (cond c (cond (finite_bits w) (Real (of_bits binary64 w)) Unset) Unset))
        ))
    go true b c = wholes
    go false true c = bools (eqb w 0) (eqb w 1)
    go false false true = reals
    go false false false = tt

-- so a test of the kind is all that a cell's bytes need
pub unpacked_at_kind : (k : Kind) (t w : ℕ) → T (of_kind k (unpacked t w)) → T (storable k (unpacked t w))
unpacked_at_kind k t w h = storable_at_kind (tag_kind t) k (unpacked t w) (unpacked_storable t w) h

pub payload_below : (k : Kind) (v : Value) → T (storable k v) → payload v < 256 ^ 8
unfolding storable is_nan
payload_below Wholes (Whole z) h = lt_trans (raised_lt z (ltb→lt (mag z) (2 ^ 31) h)) (lit< tt)
payload_below Bools (Truth true) h = lit< tt
payload_below Bools (Truth false) h = lit< tt
payload_below Reals (Real (fin s m e)) h = to_bits-lt binary64 (fin s m e) h
payload_below k Unset h = lit< tt
payload_below Bools (Whole z) h = elim h [ ]
payload_below Reals (Whole z) h = elim h [ ]
payload_below Wholes (Truth _) h = elim h [ ]
payload_below Reals (Truth _) h = elim h [ ]
payload_below Wholes (Real _) h = elim h [ ]
payload_below Bools (Real _) h = elim h [ ]
payload_below Reals (Real nan) h = elim h [ ]
payload_below Reals (Real (inf _)) h = elim h [ ]

pub unpacked_packed : (k : Kind) (v : Value) → T (storable k v) → unpacked (tag v) (payload v) ≡ v
unfolding storable unpacked is_nan
unpacked_packed Wholes (Whole z) h =
    let m = ltb→lt (mag z) (2 ^ 31) h in
    rw (lt-ltb (raised z) 4294967296 (raised_lt z m), lowered_raised z m)
unpacked_packed Bools (Truth true) h = refl
unpacked_packed Bools (Truth false) h = refl
unpacked_packed Reals (Real (fin s m e)) h = rw (finite_by_bits (fin s m e) h, of_bits-to_bits binary64 (fin s m e) h)
unpacked_packed k Unset h = refl
unpacked_packed Bools (Whole z) h = elim h [ ]
unpacked_packed Reals (Whole z) h = elim h [ ]
unpacked_packed Wholes (Truth _) h = elim h [ ]
unpacked_packed Reals (Truth _) h = elim h [ ]
unpacked_packed Wholes (Real _) h = elim h [ ]
unpacked_packed Bools (Real _) h = elim h [ ]
unpacked_packed Reals (Real nan) h = elim h [ ]
unpacked_packed Reals (Real (inf _)) h = elim h [ ]

pub length_cell_bytes : (v : Value) → length (cell_bytes v) ≡ 9
length_cell_bytes v = ap suc (length_low_first 8 (payload v))

-- ---- fields

-- a field that gives a value gives a storable one
abbrev gives : Kind → Field → Bool
gives k (Ok None) = true
gives k (Ok (Some v)) = storable k v
gives k (Err e) = true

unsigned_gives : (m : Option ℕ) → T (gives Wholes (unsigned_whole m))
unsigned_gives (Some n) = go (ltb n 2147483648) refl
  where
    go : (b : Bool) → ltb n 2147483648 ≡ b → T (gives Wholes (cond b (Ok (Some (Whole (pos n)))) (Err malformed)))
    go true e = whole_storable (pos n) (ltb-true n 2147483648 e)
    go false e = tt
unsigned_gives None = tt

negative_gives : (m : Option ℕ) → T (gives Wholes (negative_whole m))
negative_gives (Some n) = go (eqb n 0) (leb n 2147483648) refl
  where
    go : (a b : Bool) → leb n 2147483648 ≡ b → T (gives Wholes (cond a (Err malformed) (cond b (Ok (Some (Whole (neg_ℤ (pos n))))) (Err malformed))))
    go true b e = tt
    go false true e = whole_storable (neg_ℤ (pos n)) (neg_small n (leb-true n 2147483648 e))
    go false false e = tt
negative_gives None = tt

real_gives : (m : Option ℕ) → T (gives Reals (finite_real m))
unfolding storable
real_gives (Some w) = go (finite_bits w) refl
  where
    go : (b : Bool) → finite_bits w ≡ b → T (gives Reals (cond b (Ok (Some (Real (of_bits binary64 w)))) (Err malformed)))
    go true e = rw (finite_of_bits w, e) (of_bits-fits binary64 w)
    go false e = tt
real_gives None = tt

test_gives : (k : Kind) (b : Bool) (f g : Field) → T (gives k f) → T (gives k g) → T (gives k (cond b f g))
test_gives k true f g p q = p
test_gives k false f g p q = q

truth_gives : (s : List ℕ) → T (gives Bools (truth_field s))
unfolding storable
truth_gives s = go (same_bytes s true_text) (same_bytes s false_text)
  where
    go : (a b : Bool) → T (gives Bools (cond a (Ok (Some (Truth true))) (cond b (Ok (Some (Truth false))) (Err malformed))))
    go true b = tt
    go false true = tt
    go false false = tt

kind_gives : (k : Kind) (s : List ℕ) → T (gives k (kind_field k s))
kind_gives Wholes s =
    let n = magnitude (drop 1 s) in
    test_gives Wholes (eqb (get_or s 0 0) 45) (negative_whole n) (unsigned_whole (magnitude s)) (negative_gives n) (unsigned_gives (magnitude s))
kind_gives Bools s = truth_gives s
kind_gives Reals s = let w = scanned 16 0 s in test_gives Reals (eqb (length s) 16) (finite_real w) (Err malformed) (real_gives w) tt

event_gives : (k : Kind) (s : List ℕ) → T (gives k (event_field k s))
event_gives k s =
    let f = cond (same_bytes s query) (Ok (Some Unset)) (kind_field k s) in
    test_gives k (same_bytes s dash) (Ok None) f tt (test_gives k (same_bytes s query) (Ok (Some Unset)) (kind_field k s) (unset_storable k) (kind_gives k s))

pub event_field_storable : (k : Kind) (s : List ℕ) (v : Value) → event_field k s ≡ Ok (Some v) → T (storable k v)
event_field_storable k s v e = rw e at (event_gives k s)

pub presence_field_truth : (s : List ℕ) (v : Value) → presence_field s ≡ Ok (Some v) → (b : Bool) × (v ≡ Truth b)
presence_field_truth s v e = go (same_bytes s dash) (same_bytes s true_text) (same_bytes s false_text) e
  where
    go : (a b c : Bool) → cond a (Ok None) (cond b (Ok (Some (Truth true))) (cond c (Ok (Some (Truth false))) (Err malformed))) ≡ Ok (Some v) → (b : Bool) × (v ≡ Truth b)
    go false true c e = (true, cc)
    go false false true e = (false, cc)
    go true b c e = let z : ◌≡◌ {A = ℕ} 0 1 = cc in absurd (omega arith)
    go false false false e = let z : ◌≡◌ {A = ℕ} 0 1 = cc in absurd (omega arith)
