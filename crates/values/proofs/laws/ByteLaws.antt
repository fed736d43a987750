-- Lists of bytes: what stays where some are overwritten, numbers read back from their bytes, and a comparison from front to end.
use mathlib.Core.Path.{◌≡◌, refl, sym, ap, ◌∙◌}
use mathlib.Core.List.{List, [], ◌∷◌, ◌++◌}
use mathlib.Core.Bool.{Bool, true, false, cond, ◌&&◌, false≢true}
use Prim.Native.Nat.{ℕ, zero, suc, ◌+◌, ◌*◌, ◌/◌, ◌%◌, ◌^◌, ◌≤◌, ◌<◌}
use native.Mathlib.Nat.{add-zero, pow-succ', div-div-eq-div-mul}
use native.Mathlib.Numerals.{add-one}
use native.Mathlib.Omega.{arith}
use lib.Dec.{eqb}
use lib.ListN.{length, get_or, set, take, drop, length-set}
use Rattle.std.proofs.Common.{append_assoc, drop-drop}
use Rattle.std.specs.Int.{w32, w64, to_le_bytes}
use lib.Pointwise.{pointwise}
use lib.Seq.{get_or-set_same, get_or-set_other, sets, sets-eq, length-sets}
use borrow.Rule.Slice.PartMut.{put_mid}
use borrow.Author.Tests.{eq-eqb, eqb-true}
use Rattle.values.specs.definitions.Bytes.{same_bytes, word_at, low_first, overwritten}

-- ---- overwritten

pub overwritten_sets : (l : List ℕ) (at : ℕ) (bs : List ℕ) → overwritten l at bs ≡ sets l at bs
overwritten_sets l at [] = refl
overwritten_sets l at (b ∷ bs) = rw (add-one at) (overwritten_sets (set l at b) (suc at) bs)

pub length_overwritten : (l : List ℕ) (at : ℕ) (bs : List ℕ) → length (overwritten l at bs) ≡ length l
length_overwritten l at bs = ap length (overwritten_sets l at bs) ∙ length-sets l at bs

-- what was before, the bytes, what was after
pub overwritten_parts : (l : List ℕ) (at : ℕ) (bs : List ℕ) → at + length bs ≤ length l → overwritten l at bs ≡ take at l ++ bs ++ drop (at + length bs) l
overwritten_parts l at bs h = overwritten_sets l at bs ∙ sets-eq bs l at h

-- one run of bytes after another
pub overwritten_append : (l : List ℕ) (at : ℕ) (xs ys : List ℕ) → overwritten l at (xs ++ ys) ≡ overwritten (overwritten l at xs) (at + length xs) ys
overwritten_append l at [] ys = rw (add-zero at)
overwritten_append l at (x ∷ xs) ys =
    overwritten_append (set l at x) (at + 1) xs ys ∙ ap (λ (k : ℕ). overwritten (overwritten (set l at x) (at + 1) xs) k ys) (next at (length xs))
  where
    next : (a n : ℕ) → a + 1 + n ≡ a + suc n
    next a n = omega arith

pub overwritten_below : (l : List ℕ) (at : ℕ) (bs : List ℕ) (k : ℕ) → k < at → get_or (overwritten l at bs) k 0 ≡ get_or l k 0
overwritten_below l at [] k h = refl
overwritten_below l at (b ∷ bs) k h = overwritten_below (set l at b) (at + 1) bs k (omega arith) ∙ get_or-set_other l at k b 0 (λ e. omega arith)

pub overwritten_above : (l : List ℕ) (at : ℕ) (bs : List ℕ) (k : ℕ) → at + length bs ≤ k → get_or (overwritten l at bs) k 0 ≡ get_or l k 0
overwritten_above l at [] k h = refl
overwritten_above l at (b ∷ bs) k h = overwritten_above (set l at b) (at + 1) bs k (omega arith) ∙ get_or-set_other l at k b 0 (λ e. omega arith)

-- ---- the library's words

-- a part of a slice written anew, as `copy_from_slice` leaves it
pub part_overwritten : (l : List ℕ) (at : ℕ) (bs new : List ℕ) (k : ℕ) → at + length bs ≤ length l → k ≡ length bs → new ≡ bs
    → put_mid at k l new ≡ overwritten l at bs
part_overwritten l at bs new k h e f =
    rw (f, e, drop-drop (length bs) at l) (sym (append_assoc (take at l) bs (drop (at + length bs) l)) ∙ sym (overwritten_parts l at bs h))

-- `==` on slices of bytes
pub slices_same : (s t : List ℕ) → pointwise eqb s t ≡ same_bytes s t
unfolding same_bytes
slices_same [] [] = refl
slices_same [] (y ∷ ys) = refl
slices_same (x ∷ xs) [] = refl
slices_same (x ∷ xs) (y ∷ ys) = go (eqb x y) (slices_same xs ys)
  where
    go : (b : Bool) → pointwise eqb xs ys ≡ same_bytes xs ys → (b && pointwise eqb xs ys) ≡ cond b (same_bytes xs ys) false
    go true e = e
    go false e = refl

-- `to_le_bytes`
pub low_first_64 : (w : ℕ) → to_le_bytes w64 w ≡ low_first 8 w
low_first_64 w = simp div-div-eq-div-mul

pub low_first_32 : (w : ℕ) → to_le_bytes w32 w ≡ low_first 4 w
low_first_32 w = simp div-div-eq-div-mul

-- ---- numbers

pub length_low_first : (n w : ℕ) → length (low_first n w) ≡ n
length_low_first zero w = refl
length_low_first (suc n) w = ap suc (length_low_first n (w / 256))

-- a number depends on no other bytes than its own
pub word_same : (n : ℕ) (l m : List ℕ) (at : ℕ) → ((k : ℕ) → at ≤ k → k < at + n → get_or l k 0 ≡ get_or m k 0) → word_at n l at ≡ word_at n m at
word_same zero l m at h = refl
word_same (suc n) l m at h = rw (h at (omega arith) (omega arith), word_same n l m (at + 1) (λ k p q. h k (omega arith) (omega arith)))

pub word_back : (n : ℕ) (l : List ℕ) (at w : ℕ) → at + n ≤ length l → w < 256 ^ n → word_at n (overwritten l at (low_first n w)) at ≡ w
word_back zero l at w p h = none w h
  where
    none : (w : ℕ) → w < 256 ^ 0 → 0 ≡ w
    none w h = omega arith
word_back (suc n) l at w p h =
    rw (
      overwritten_below (set l at (w % 256)) (at + 1) (low_first n (w / 256)) at (omega arith),
      get_or-set_same l at (w % 256) 0 (omega arith),
      word_back n (set l at (w % 256)) (at + 1) (w / 256) (simp length-set (omega arith)) (less w (256 ^ n) (rw (pow-succ' 256 n) at h)),
    )
    (all w)
  where
    less : (w m : ℕ) → w < 256 * m → w / 256 < m
    less w m h = omega arith

    all : (w : ℕ) → w % 256 + 256 * (w / 256) ≡ w
    all w = omega arith

-- ---- comparison

pub same_bytes_self : (s : List ℕ) → same_bytes s s ≡ true
unfolding same_bytes
same_bytes_self [] = refl
same_bytes_self (x ∷ xs) = rw (eq-eqb x x refl) (same_bytes_self xs)

pub same_bytes_equal : (s t : List ℕ) → same_bytes s t ≡ true → s ≡ t
unfolding same_bytes
same_bytes_equal [] [] h = refl
same_bytes_equal [] (y ∷ ys) h = absurd (false≢true h)
same_bytes_equal (x ∷ xs) [] h = absurd (false≢true h)
same_bytes_equal (x ∷ xs) (y ∷ ys) h = go (eqb x y) refl (same_bytes_equal xs ys)
  where
    go : (b : Bool) → eqb x y ≡ b → (same_bytes xs ys ≡ true → xs ≡ ys) → x ∷ xs ≡ y ∷ ys
    go true e f = rw (eqb-true x y e, f (rw e at h))
    go false e f = absurd (false≢true (rw e at h))
