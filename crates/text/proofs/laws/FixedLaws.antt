-- Laws of tokens that are always spelled so: only those of the right length count, and their classes stay within bounds.
use mathlib.Core.Path.{◌≡◌, refl, sym, ap, ◌∙◌}
use mathlib.Core.List.{List, [], ◌∷◌}
use mathlib.Core.Bool.{Bool, true, false, ◌&&◌, ◌||◌, true≢false, false≢true}
use mathlib.Core.Option.{none, some, get_or}
use Prim.Native.Nat.{ℕ, suc, ◌<◌, ◌≤◌}
use native.Mathlib.Omega.{arith}
use lib.Dec.{leb, eqb}
use lib.ListN.{length, get_or as byte_of}
use borrow.Author.Tests.{leb-true, eqb-false, eq-eqb, ne_eqb}
use Rattle.values.specs.definitions.Bytes.{same_bytes}
use Rattle.values.proofs.laws.ByteLaws.{same_bytes_equal}
use Rattle.text.specs.definitions.Bytes.{between}
use Rattle.text.specs.definitions.Tokens.{Fixed, spelled, reserved, marks, class_in, NAME}
use Rattle.text.specs.inner_contracts.TokenTable.{of_length}

-- tests joined

pub and_left : (s t : Bool) → s && t ≡ true → s ≡ true
and_left true t e = refl
and_left false t e = absurd (false≢true e)

pub and_right : (s t : Bool) → s && t ≡ true → t ≡ true
and_right true t e = e
and_right false t e = absurd (false≢true e)

or_left : (s t : Bool) → s || t ≡ false → s ≡ false
or_left true t e = e
or_left false t e = refl

or_right : (s t : Bool) → s || t ≡ false → t ≡ false
or_right true t e = absurd (true≢false e)
or_right false t e = e

pub between_bounds : (low high b : ℕ) → between low high b ≡ true → (low ≤ b) × (b ≤ high)
unfolding between
between_bounds low high b e = (leb-true low b (and_left (leb low b) (leb b high) e), leb-true b high (and_right (leb low b) (leb b high) e))

module _ (f : Fixed) (fs : List Fixed) (bs : List ℕ) where
  pub class_yes : same_bytes bs f.spelling ≡ true → class_in (f ∷ fs) bs ≡ some f.class
  unfolding class_in
  class_yes e = rw (e, class_in)

  pub class_no : same_bytes bs f.spelling ≡ false → class_in (f ∷ fs) bs ≡ class_in fs bs
  unfolding class_in
  class_no e = rw (e, class_in)

unlike : (bs s : List ℕ) → (bs ≡ s → ⊥) → same_bytes bs s ≡ false
unlike bs s h = go (same_bytes bs s) refl
  where
    go : (t : Bool) → same_bytes bs s ≡ t → t ≡ false
    go true e = absurd (h (same_bytes_equal bs s e))
    go false e = refl

-- does a spelling pass a test?
unfoldable some_passes : (List ℕ → Bool) → List Fixed → Bool
some_passes test [] = false
some_passes test (f ∷ fs) = test f.spelling || some_passes test fs

-- the comparison byte by byte
pub words_same : (bs s : List ℕ) → length bs ≡ length s → ((k : ℕ) → k < length s → byte_of bs k 0 ≡ byte_of s k 0) → true ≡ same_bytes bs s
unfolding same_bytes
words_same [] [] l h = refl
words_same [] (y ∷ ys) l h = absurd (omega arith)
words_same (x ∷ xs) [] l h = absurd (omega arith)
words_same (x ∷ xs) (y ∷ ys) l h =
    let e : x ≡ y = h 0 (omega arith) in
    rw (eq-eqb x y e) (words_same xs ys (omega arith) (λ k b. h (suc k) (omega arith)))

pub words_differ : (bs s : List ℕ) (i : ℕ) → (byte_of bs i 0 ≡ byte_of s i 0 → ⊥) → false ≡ same_bytes bs s
words_differ bs s i n = sym (unlike bs s (λ e. n (ap (λ l. byte_of l i 0) e)))

pub lengths_differ : (bs s : List ℕ) → (length bs ≡ length s → ⊥) → false ≡ same_bytes bs s
lengths_differ bs s n = sym (unlike bs s (λ e. n (ap length e)))

-- bs is none of them if it passes a test that no spelling passes
class_none : (test : List ℕ → Bool) (fs : List Fixed) (bs : List ℕ) → test bs ≡ true → some_passes test fs ≡ false → class_in fs bs ≡ none
unfolding class_in some_passes
class_none test [] bs p h = refl
class_none test (f ∷ fs) bs p h =
    let fails = or_left (test f.spelling) (some_passes test fs) h in
    class_no f fs bs (unlike bs f.spelling (λ e. true≢false (sym p ∙ ap test e ∙ fails)))
    ∙ class_none test fs bs p (or_right (test f.spelling) (some_passes test fs) h)

-- ---- by length

module _ (n : ℕ) (f : Fixed) (fs : List Fixed) where
  of_length_yes : eqb (length f.spelling) n ≡ true → of_length n (f ∷ fs) ≡ f ∷ of_length n fs
  unfolding of_length
  of_length_yes e = rw (e, of_length)

  of_length_no : eqb (length f.spelling) n ≡ false → of_length n (f ∷ fs) ≡ of_length n fs
  unfolding of_length
  of_length_no e = rw (e, of_length)

pub class_by_length : (fs : List Fixed) (bs : List ℕ) → class_in fs bs ≡ class_in (of_length (length bs) fs) bs
unfolding of_length
class_by_length [] bs = refl
class_by_length (f ∷ fs) bs = go (eqb (length f.spelling) (length bs)) refl (class_by_length fs bs)
  where
    head : (fs gs : List Fixed) → class_in fs bs ≡ class_in gs bs → (t : Bool) → same_bytes bs f.spelling ≡ t → class_in (f ∷ fs) bs ≡ class_in (f ∷ gs) bs
    head fs gs h true e = class_yes f fs bs e ∙ sym (class_yes f gs bs e)
    head fs gs h false e = class_no f fs bs e ∙ h ∙ sym (class_no f gs bs e)

    go : (t : Bool) → eqb (length f.spelling) (length bs) ≡ t → class_in fs bs ≡ class_in (of_length (length bs) fs) bs
        → class_in (f ∷ fs) bs ≡ class_in (of_length (length bs) (f ∷ fs)) bs
    go true e h = rw (of_length_yes (length bs) f fs e) (head fs (of_length (length bs) fs) h (same_bytes bs f.spelling) refl)
    go false e h =
        let d = eqb-false (length f.spelling) (length bs) e in
        rw (of_length_no (length bs) f fs e) (class_no f fs bs (unlike bs f.spelling (λ s. d (ap length (sym s)))) ∙ h)

-- the reserved words of n bytes, where bs has n
pub reserved_of : (bs : List ℕ) (n : ℕ) → length bs ≡ n → get_or (class_in (of_length n reserved) bs) NAME ≡ get_or (class_in reserved bs) NAME
reserved_of bs n e = rw (class_by_length reserved bs, e)

pub not_reserved : (bs : List ℕ) → (length bs ≡ 2 → ⊥) → (length bs ≡ 3 → ⊥) → (length bs ≡ 4 → ⊥) → (length bs ≡ 5 → ⊥) → (length bs ≡ 6 → ⊥)
    → (length bs ≡ 7 → ⊥) → (length bs ≡ 9 → ⊥) → NAME ≡ get_or (class_in reserved bs) NAME
unfolding some_passes reserved
not_reserved bs n2 n3 n4 n5 n6 n7 n9 =
    let n = length bs in
    let other = ne_eqb n in
    let none_so_long : some_passes (λ s. eqb n (length s)) reserved ≡ false =
    rw (other 2 n2, other 3 n3, other 4 n4, other 5 n5, other 6 n6, other 7 n7, other 9 n9) in
    rw (class_none (λ s. eqb n (length s)) reserved bs (eq-eqb n n refl) none_so_long)

pub class_nothing : (bs : List ℕ) → NAME ≡ get_or (class_in [] bs) NAME
unfolding class_in
class_nothing bs = refl

-- a fixed token before others
module _ (bs s : List ℕ) (class other : ℕ) (fs : List Fixed) where
  pub class_first : same_bytes bs s ≡ true → class ≡ get_or (class_in (spelled s class ∷ fs) bs) NAME
  class_first e = rw (class_yes (spelled s class) fs bs e)

  pub class_later : same_bytes bs s ≡ false → other ≡ get_or (class_in fs bs) NAME → other ≡ get_or (class_in (spelled s class ∷ fs) bs) NAME
  class_later e h = rw (class_no (spelled s class) fs bs e) h

-- ---- a class within bounds

unfoldable pub classes_within : ℕ → ℕ → List Fixed → Bool
unfolding between
classes_within low high [] = true
classes_within low high (f ∷ fs) = between low high f.class && classes_within low high fs

pub class_bounds : (low high : ℕ) (fs : List Fixed) (bs : List ℕ) (c : ℕ) → classes_within low high fs ≡ true → class_in fs bs ≡ some c → (low ≤ c) × (c ≤ high)
unfolding classes_within class_in
class_bounds low high [] bs c h e = let z : ◌≡◌ {A = ℕ} 0 1 = cc in absurd (omega arith)
class_bounds low high (f ∷ fs) bs c h e =
    let later = and_right (between low high f.class) (classes_within low high fs) h in
    go (same_bytes bs f.spelling) refl (class_bounds low high fs bs c later)
  where
    go : (t : Bool) → same_bytes bs f.spelling ≡ t → (class_in fs bs ≡ some c → (low ≤ c) × (c ≤ high)) → (low ≤ c) × (c ≤ high)
    go true d k =
        let s : f.class ≡ c = cc (class_yes f fs bs d) in
        let first = and_left (between low high f.class) (classes_within low high fs) h in
        rw s at (between_bounds low high f.class first)
    go false d k = k (sym (class_no f fs bs d) ∙ e)

pub reserved_bounds : (bs : List ℕ) (c : ℕ) → class_in reserved bs ≡ some c → (3 ≤ c) × (c ≤ 36)
unfolding classes_within reserved
reserved_bounds bs c e = class_bounds 3 36 reserved bs c refl e

pub mark_bounds : (bs : List ℕ) (c : ℕ) → class_in marks bs ≡ some c → (24 ≤ c) × (c ≤ 35)
unfolding classes_within marks
mark_bounds bs c e = class_bounds 24 35 marks bs c refl e
