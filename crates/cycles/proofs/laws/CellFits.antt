-- The tests of a plane's cell: what a store or a kept line has in memory passes them, and what passes them is what such a cell can hold.
use mathlib.Core.Path.{◌≡◌, refl, sym, ap, ◌∙◌, subst}
use mathlib.Core.Bool.{Bool, true, false, cond, ◌&&◌, ◌||◌, false≢true}
use mathlib.Core.List.{[]}
use mathlib.Core.Option.{Option, none, some}
use Prim.Native.Nat.{ℕ, ◌^◌, ◌<◌}
use native.Mathlib.Omega.{arith}
use lib.Dec.{T, ltb, eqb, lt→ltb, ltb→lt, eqb→eq}
use lib.ListN.{length, get_or}
use lib.Ieee.{fin, binary64, is_nan, to_bits}
use lib.Ieee.Fits.{and_i, and_l, and_r}
use lib.Ieee.Bits.{is_true, to_bits-lt}
use lib.Signed.{mag}
use borrow.Author.Tests.{ne_eqb, eqb-false}
use Rattle.values.specs.declared.Value.{Value}
use Rattle.values.specs.declared.Value.TheVariants.{Whole, Truth, Real, Unset}
use Rattle.values.specs.declared.Kind.{Kind}
use Rattle.values.specs.declared.Kind.TheVariants.{Wholes, Bools, Reals}
use Rattle.values.specs.definitions.Value.{is_set}
use Rattle.values.specs.definitions.Storable.{of_kind, storable}
use Rattle.values.specs.definitions.Bytes.{word_at}
use Rattle.values.specs.definitions.Cells.{tag, payload, raised, unpacked, finite_bits, cell_bytes, cell_at}
use Rattle.values.proofs.laws.WholeLaws.{raised_lt}
use Rattle.values.proofs.laws.RealLaws.{finite_by_bits}
use Rattle.values.proofs.laws.StorableLaws.{unset_storable, unpacked_at_kind, unpacked_packed, payload_below, length_cell_bytes}
use Rattle.text.specs.definitions.Syntax.{Sort, attribute, event, action, Member}
use Rattle.text.proofs.laws.ListLaws.{some_injective, none_some}
use Rattle.checking.specs.definitions.Scope.{is_attribute, is_action}
use Rattle.cycles.specs.definitions.Cycle.{is_sort}
use Rattle.cycles.specs.definitions.Planes.{
  input_bytes,
  input_of,
  input_at,
  is_unset_cell,
  is_set_cell,
  is_value_cell,
  store_fits,
  is_blank_cell,
  kept_fits,
}
use Rattle.cycles.proofs.laws.TableLaws.{word_drop, word_low_first}

or_right : (a b : Bool) → T b → T (a || b)
or_right true b h = tt
or_right false b h = h

-- ---- what is written passes

pub set_passes : (k : Kind) (v : Value) → T (storable k v) → T (is_set v) → T (is_set_cell k (tag v) (payload v))
unfolding storable is_set_cell is_nan
set_passes Wholes (Whole z) h g = lt→ltb (raised z) 4294967296 (raised_lt z (ltb→lt (mag z) (2 ^ 31) h))
set_passes Bools (Truth true) h g = tt
set_passes Bools (Truth false) h g = tt
set_passes Reals (Real (fin s m e)) h g =
    let x = fin s m e in
    and_i (ltb (to_bits binary64 x) 18446744073709551616) (finite_bits (to_bits binary64 x))
    (lt→ltb (to_bits binary64 x) 18446744073709551616 (to_bits-lt binary64 x h))
    (rw (finite_by_bits x h) tt)
set_passes Wholes (Truth _) h g = elim h [ ]
set_passes Wholes (Real _) h g = elim h [ ]
set_passes Wholes Unset h g = elim g [ ]
set_passes Bools (Whole z) h g = elim h [ ]
set_passes Bools (Real _) h g = elim h [ ]
set_passes Bools Unset h g = elim g [ ]
set_passes Reals (Whole z) h g = elim h [ ]
set_passes Reals (Truth _) h g = elim h [ ]
set_passes Reals (Real lib.Ieee.nan) h g = elim h [ ]
set_passes Reals (Real (lib.Ieee.inf _)) h g = elim h [ ]
set_passes Reals Unset h g = elim g [ ]

pub value_passes : (k : Kind) (v : Value) → T (storable k v) → T (is_value_cell k (tag v) (payload v))
unfolding is_value_cell is_unset_cell
value_passes k v h = go v h (set_passes k v h)
  where
    go : (v : Value) → T (storable k v) → (T (is_set v) → T (is_set_cell k (tag v) (payload v))) → T (is_value_cell k (tag v) (payload v))
    go (Whole z) h g = g tt
    go (Truth b) h g = g tt
    go (Real x) h g = or_right (is_unset_cell (tag (Real x)) (payload (Real x))) (is_set_cell k (tag (Real x)) (payload (Real x))) (g tt)
    go Unset h g = tt

-- a member's cell in a store; where there is no member, an unset cell
pub store_passes : (must_be_set : Bool) (o : Option Member) (v : Value) → ((x : Member) → o ≡ some x → T (storable x.kind v)) → (o ≡ none → v ≡ Unset)
    → ((x : Member) → o ≡ some x → T (is_attribute x.sort) → must_be_set ≡ true → T (is_set v)) → T (store_fits must_be_set o (tag v) (payload v))
unfolding store_fits
store_passes must_be_set none v of_kind no_cell set = rw (no_cell refl) tt
store_passes must_be_set (some x) v of_kind no_cell set = go must_be_set refl (is_attribute x.sort) refl
  where
    go : (a : Bool) → must_be_set ≡ a → (b : Bool) → is_attribute x.sort ≡ b
        → T (cond (a && b) (is_set_cell x.kind (tag v) (payload v)) (is_value_cell x.kind (tag v) (payload v)))
    go true p true q = set_passes x.kind v (of_kind x refl) (set x refl (rw q tt) p)
    go true p false q = value_passes x.kind v (of_kind x refl)
    go false p b q = value_passes x.kind v (of_kind x refl)

-- ---- what passes can be held

pub unset_value : (t w : ℕ) → T (is_unset_cell t w) → unpacked t w ≡ Unset
unfolding is_unset_cell unpacked
unset_value t w h = rw (eqb→eq t 0 (and_l (eqb t 0) (eqb w 0) h))

set_value : (k : Kind) (t w : ℕ) → T (is_set_cell k t w) → T (of_kind k (unpacked t w)) × T (is_set (unpacked t w))
unfolding is_set_cell unpacked of_kind
set_value Wholes t w h =
    rw (eqb→eq t 1 (and_l (eqb t 1) (ltb w 4294967296) h), is_true (ltb w 4294967296) (and_r (eqb t 1) (ltb w 4294967296) h)) (tt, tt)
set_value Bools t w h = rw (eqb→eq t 2 (and_l (eqb t 2) (ltb w 2) h)) (go (eqb w 0) refl (eqb w 1) refl)
  where
    low : w < 2
    low = ltb→lt w 2 (and_r (eqb t 2) (ltb w 2) h)

    go : (a : Bool) → eqb w 0 ≡ a → (b : Bool) → eqb w 1 ≡ b
        → T (of_kind Bools (cond a (Truth false) (cond b (Truth true) Unset))) × T (is_set (cond a (Truth false) (cond b (Truth true) Unset)))
    go true p b q = (tt, tt)
    go false p true q = (tt, tt)
    go false p false q = let x : w ≡ 0 → ⊥ = eqb-false w 0 p in let y : w ≡ 1 → ⊥ = eqb-false w 1 q in absurd (omega (arith, low))
set_value Reals t w h =
    let below = ltb w 18446744073709551616 in
    let g = and_r (eqb t 3) (below && finite_bits w) h in
    rw (eqb→eq t 3 (and_l (eqb t 3) (below && finite_bits w) h), is_true (finite_bits w) (and_r below (finite_bits w) g)) (tt, tt)

pub set_storable : (k : Kind) (t w : ℕ) → T (is_set_cell k t w) → T (storable k (unpacked t w)) × T (is_set (unpacked t w))
set_storable k t w h = (unpacked_at_kind k t w (set_value k t w h).0, (set_value k t w h).1)

pub value_storable : (k : Kind) (t w : ℕ) → T (is_value_cell k t w) → T (storable k (unpacked t w))
unfolding is_value_cell
value_storable k t w h = go (is_unset_cell t w) refl h
  where
    go : (b : Bool) → is_unset_cell t w ≡ b → T (b || is_set_cell k t w) → T (storable k (unpacked t w))
    go true e g = rw (unset_value t w (rw e tt)) (unset_storable k)
    go false e g = (set_storable k t w g).0

-- what passes the test of a store's cell is as a sound store has it
module _ (must_be_set : Bool) (t w : ℕ) where
  pub store_of_kind : (x : Member) → T (store_fits must_be_set (some x) t w) → T (storable x.kind (unpacked t w))
  unfolding store_fits
  store_of_kind x h = go (must_be_set && is_attribute x.sort) h
    where
      go : (b : Bool) → T (cond b (is_set_cell x.kind t w) (is_value_cell x.kind t w)) → T (storable x.kind (unpacked t w))
      go true h = (set_storable x.kind t w h).0
      go false h = value_storable x.kind t w h

  pub store_no_cell : T (store_fits must_be_set none t w) → unpacked t w ≡ Unset
  unfolding store_fits
  store_no_cell h = unset_value t w h

  pub store_set : (x : Member) → T (is_attribute x.sort) → must_be_set ≡ true → T (store_fits must_be_set (some x) t w) → T (is_set (unpacked t w))
  unfolding store_fits
  store_set x a e h = (set_storable x.kind t w (rw (e, is_true (is_attribute x.sort) a) at h)).1

-- ---- the bytes of a cell, read back

pub payload_read : (k : Kind) (v : Value) → T (storable k v) → word_at 8 (cell_bytes v) 1 ≡ payload v
payload_read k v h = sym (word_drop 8 1 (cell_bytes v) 0) ∙ word_low_first 8 (payload v) [] (payload_below k v h)

pub cell_read : (k : Kind) (v : Value) → T (storable k v) → cell_at (cell_bytes v) 0 ≡ v
cell_read k v h = ap (unpacked (tag v)) (payload_read k v h) ∙ unpacked_packed k v h

-- ---- readings

-- a value's tag is no blank's
tag_below : (v : Value) → tag v < 4
tag_below (Whole z) = omega arith
tag_below (Truth b) = omega arith
tag_below (Real x) = go (is_nan x)
  where
    go : (b : Bool) → cond b 0 3 < 4
    go true = omega arith
    go false = omega arith
tag_below Unset = omega arith

pub no_blank : (v : Value) → eqb (tag v) 4 ≡ false
no_blank v = ne_eqb (tag v) 4 (λ e. omega (arith, tag_below v))

pub length_input_bytes : (o : Option Value) → length (input_bytes o) ≡ 9
length_input_bytes none = refl
length_input_bytes (some v) = length_cell_bytes v

pub input_read : (o : Option Value) → ((v : Value) → o ≡ some v → (k : Kind) × T (storable k v)) → input_at (input_bytes o) 0 ≡ o
input_read none h = refl
input_read (some v) h =
    let (k, g) = h v refl in
    rw (no_blank v) (ap some (cell_read k v g))

-- an event's reading, as a sound state has it
abbrev pub EventValue : Option Member → Value → Type 0
EventValue o v = (x : Member) × (o ≡ some x) × (x.sort ≡ event) × T (storable x.kind v)

-- ---- what is kept of a line

module _ (x : Member) (t w : ℕ) where
  -- the test by the member's sort
  pub kept_attribute : x.sort ≡ attribute → kept_fits (some x) t w ≡ is_blank_cell t w
  unfolding kept_fits
  kept_attribute q = rw (q, kept_fits)

  pub kept_event : x.sort ≡ event → kept_fits (some x) t w ≡ (is_blank_cell t w || is_value_cell x.kind t w)
  unfolding kept_fits
  kept_event q = rw (q, kept_fits)

  pub kept_action : x.sort ≡ action → kept_fits (some x) t w ≡ is_value_cell x.kind t w
  unfolding kept_fits
  kept_action q = rw (q, kept_fits)

-- a blank passes wherever there is no action
pub blank_passes : (o : Option Member) → is_sort is_action o ≡ false → T (kept_fits o 4 0)
unfolding kept_fits is_blank_cell is_sort is_action
blank_passes none h = tt
blank_passes (some x) h = at x.sort refl
  where
    at : (s : Sort) → x.sort ≡ s → T (kept_fits (some x) 4 0)
    at attribute q = rw (kept_attribute x 4 0 q) tt
    at event q = rw (kept_event x 4 0 q) tt
    at action q = absurd (false≢true (sym h ∙ ap is_action q))

-- an event's reading, or none, where there is no action
pub reading_passes : (o : Option Member) (r : Option Value) → is_sort is_action o ≡ false → ((v : Value) → r ≡ some v → EventValue o v)
    → T (kept_fits o (get_or (input_bytes r) 0 0) (word_at 8 (input_bytes r) 1))
reading_passes o none a h = blank_passes o a
reading_passes o (some v) a h =
    let x = (h v refl).0 in
    let g = (h v refl).3 in
    rw (payload_read x.kind v g, (h v refl).1, kept_event x (tag v) (payload v) (h v refl).2)
    (or_right (is_blank_cell (tag v) (payload v)) (is_value_cell x.kind (tag v) (payload v)) (value_passes x.kind v g))

-- the value of an action that fired, or that of one that did not
pub fired_passes : (x : Member) (v : Value) → x.sort ≡ action → T (storable x.kind v)
    → T (kept_fits (some x) (get_or (cell_bytes v) 0 0) (word_at 8 (cell_bytes v) 1))
fired_passes x v q g = rw (payload_read x.kind v g, kept_action x (tag v) (payload v) q) (value_passes x.kind v g)

pub an_action : (o : Option Member) → is_sort is_action o ≡ true → (x : Member) × (o ≡ some x) × (x.sort ≡ action)
unfolding is_sort is_action
an_action none h = absurd (false≢true h)
an_action (some x) h = (x, refl, at x.sort h)
  where
    at : (s : Sort) → is_action s ≡ true → s ≡ action
    at attribute q = absurd (false≢true q)
    at event q = absurd (false≢true q)
    at action q = refl

-- at an action the value fired, anywhere else the reading
pub kept_passes : (o : Option Member) (v : Value) (r : Option Value) → ((x : Member) → o ≡ some x → x.sort ≡ action → T (storable x.kind v))
    → ((u : Value) → r ≡ some u → EventValue o u)
    → T (kept_fits o (get_or (cond (is_sort is_action o) (cell_bytes v) (input_bytes r)) 0 0)
    (word_at 8 (cond (is_sort is_action o) (cell_bytes v) (input_bytes r)) 1))
kept_passes o v r fired given = at (is_sort is_action o) refl
  where
    at : (b : Bool) → is_sort is_action o ≡ b
        → T (kept_fits o (get_or (cond b (cell_bytes v) (input_bytes r)) 0 0) (word_at 8 (cond b (cell_bytes v) (input_bytes r)) 1))
    at true q = let x = an_action o q in rw x.1 (fired_passes x.0 v x.2 (fired x.0 x.1 x.2))
    at false q = reading_passes o r q given

-- and the other way round
module _ (t w : ℕ) where
  -- a blank cell is no reading
  pub blank_none : T (is_blank_cell t w) → input_of t w ≡ none
  unfolding is_blank_cell
  blank_none b = rw (eqb→eq t 4 (and_l (eqb t 4) (eqb w 0) b))

  no_reading : (v : Value) → input_of t w ≡ some v → T (is_blank_cell t w) → ⊥
  no_reading v e b = none_some (sym (blank_none b) ∙ e)

  given_value : (v : Value) → input_of t w ≡ some v → unpacked t w ≡ v
  given_value v e = at (eqb t 4) e
    where
      at : (b : Bool) → cond b none (some (unpacked t w)) ≡ some v → unpacked t w ≡ v
      at true q = absurd (none_some q)
      at false q = some_injective q

  -- at an event none or a storable reading
  pub event_sound : (x : Member) (v : Value) → x.sort ≡ event → T (kept_fits (some x) t w) → input_of t w ≡ some v → T (storable x.kind v)
  event_sound x v q h e = at (is_blank_cell t w) refl (rw (kept_event x t w q) at h)
    where
      at : (b : Bool) → is_blank_cell t w ≡ b → T (b || is_value_cell x.kind t w) → T (storable x.kind v)
      at true p g = absurd (no_reading v e (rw p tt))
      at false p g = subst (λ (v : Value). T (storable x.kind v)) (given_value v e) (value_storable x.kind t w g)

  -- at an action a storable value
  pub fired_sound : (x : Member) → x.sort ≡ action → T (kept_fits (some x) t w) → T (storable x.kind (unpacked t w))
  fired_sound x q h = value_storable x.kind t w (rw (kept_action x t w q) at h)

  -- elsewhere blank
  pub else_blank : (o : Option Member) → ((x : Member) → o ≡ some x → x.sort ≡ attribute) → T (kept_fits o t w) → T (is_blank_cell t w)
  unfolding kept_fits
  else_blank none n h = h
  else_blank (some x) n h = rw (kept_attribute x t w (n x refl)) at h

  -- a reading where there is no action is an event's
  pub reading_sound : (o : Option Member) (v : Value) → is_sort is_action o ≡ false → T (kept_fits o t w) → input_of t w ≡ some v → EventValue o v
  unfolding kept_fits is_sort is_action
  reading_sound none v a h e = absurd (no_reading v e h)
  reading_sound (some x) v a h e = at x.sort refl
    where
      at : (s : Sort) → x.sort ≡ s → EventValue (some x) v
      at attribute q = absurd (no_reading v e (rw (kept_attribute x t w q) at h))
      at event q = (x, refl, q, event_sound x v q h e)
      at action q = absurd (false≢true (sym a ∙ ap is_action q))
