-- Columns by their numbers: two columns are the same exactly where their numbers are, and so many different numbers below a bound are no more
-- than the bound.
use Prim.Native.Nat.{ℕ, zero, suc, ◌+◌, ◌-◌, ◌*◌, ◌≤◌, ◌<◌}
use native.Mathlib.Omega.{arith}
use mathlib.Core.Path.{◌≡◌, refl, ap, ap₂, ◌∙◌}
use mathlib.Core.Bool.{Bool, true, false, cond, ◌&&◌, ◌||◌}
use mathlib.Core.List.Memᴰ
use mathlib.Core.List.{List, [], ◌∷◌, map}
use mathlib.Core.Option.{Option, none, some}
use lib.Dec.{eqb}
use lib.ListN.{length, get_or, set, take}
use lib.Seq.{get_or-set_same, get_or-set_other}
use Rattle.std.proofs.lemmas.List.{get_or-take}
use borrow.Author.Tests.{eq-eqb, ne_eqb, eqb-true, eqb-false}
use Rattle.text.proofs.laws.ListLaws.{All}
use Rattle.cycles.specs.definitions.Spots.{Spot}
use Rattle.cycles.specs.definitions.Header.{Column, same_event, same_column, is_column_among}
use Rattle.cycles.specs.inner_contracts.HeaderReads.{member_or_presence, column_number, backwards, is_number_among}

-- ---- the same column

-- its member's number is none that stands for presence
abbrev pub Small : Column → Type 0
Small c = (p : Spot) → c.event ≡ some p → p.member < 12

pub small_number : (c : Column) → Small c → (n : ℕ) → c.entity < n → column_number c < n * 13
unfolding column_number
small_number c s n h = go c.event s
  where
    go : (o : Option Spot) → ((p : Spot) → o ≡ some p → p.member < 12) → c.entity * 13 + member_or_presence o < n * 13
    go none k = omega arith
    go (some p) k = let b = k p refl in omega arith

eqb_turned : (a b : ℕ) → eqb a b ≡ eqb b a
eqb_turned a b = go (eqb b a) refl
  where
    go : (t : Bool) → eqb b a ≡ t → eqb a b ≡ t
    go true e = let h = eqb-true b a e in eq-eqb a b (omega arith)
    go false e = let h : b ≡ a → ⊥ = eqb-false b a e in ne_eqb a b (λ q. h (omega arith))

-- two digits of base 13
digits_apart : (a b x y : ℕ) → x < 13 → y < 13 → eqb (a * 13 + x) (b * 13 + y) ≡ (eqb a b && eqb x y)
digits_apart a b x y p q = go (eqb a b) refl (eqb x y) refl
  where
    go : (s : Bool) → eqb a b ≡ s → (t : Bool) → eqb x y ≡ t → eqb (a * 13 + x) (b * 13 + y) ≡ (s && t)
    go true e true g = let h = eqb-true a b e in let k = eqb-true x y g in eq-eqb (a * 13 + x) (b * 13 + y) (omega arith)
    go true e false g = let k : x ≡ y → ⊥ = eqb-false x y g in ne_eqb (a * 13 + x) (b * 13 + y) (λ r. let h = eqb-true a b e in k (omega arith))
    go false e t g = let k : a ≡ b → ⊥ = eqb-false a b e in ne_eqb (a * 13 + x) (b * 13 + y) (λ r. k (omega arith))

pub same_number : (c d : Column) → Small c → Small d → same_column c d ≡ eqb (column_number c) (column_number d)
unfolding same_column column_number
same_number c d s t = go c.event s d.event t
  where
    go : (o : Option Spot) → ((p : Spot) → o ≡ some p → p.member < 12) → (q : Option Spot) → ((p : Spot) → q ≡ some p → p.member < 12)
        → (eqb c.entity d.entity && same_event o q) ≡ eqb (c.entity * 13 + member_or_presence o) (d.entity * 13 + member_or_presence q)
    go none k none j = rw (digits_apart c.entity d.entity 12 12 (omega arith) (omega arith))
    go none k (some q) j =
        let h = j q refl in
        rw (digits_apart c.entity d.entity 12 q.member (omega arith) (omega arith), ne_eqb 12 q.member (omega arith))
    go (some p) k none j =
        let h = k p refl in
        rw (digits_apart c.entity d.entity p.member 12 (omega arith) (omega arith), ne_eqb p.member 12 (omega arith))
    go (some p) k (some q) j =
        let h = k p refl in
        let g = j q refl in
        rw (digits_apart c.entity d.entity p.member q.member (omega arith) (omega arith), eqb_turned q.member p.member)

pub among_numbers : (c : Column) (ds : List Column) → Small c → All Small ds → is_column_among c ds ≡ is_number_among (column_number c) (map column_number ds)
unfolding is_column_among is_number_among
among_numbers c [] s t = refl
among_numbers c (d ∷ ds) s t =
    ap₂ ◌||◌ (same_number c d s (t d (Memᴰ.head refl))) (among_numbers c ds s (λ x m. t x (Memᴰ.tail m)))

-- ---- different numbers below a bound

-- no number twice, as a header's columns are read
abbrev pub ApartBelow : ℕ → List ℕ → Type 0
ApartBelow n [] = Unit {0}
ApartBelow n (x ∷ xs) = (x < n) × (is_number_among x xs ≡ false) × ApartBelow n xs

without : ℕ → List ℕ → List ℕ
without m [] = []
without m (x ∷ xs) = cond (eqb x m) (without m xs) (x ∷ without m xs)

none_without : (m : ℕ) (xs : List ℕ) → is_number_among m xs ≡ false → without m xs ≡ xs
unfolding without is_number_among
none_without m [] h = refl
none_without m (x ∷ xs) h = go (eqb m x) refl (none_without m xs) h
  where
    go : (t : Bool) → eqb m x ≡ t → (is_number_among m xs ≡ false → without m xs ≡ xs) → (t || is_number_among m xs) ≡ false
        → cond (eqb x m) (without m xs) (x ∷ without m xs) ≡ x ∷ xs
    go true e k h = let z : ◌≡◌ {A = ℕ} 0 1 = cc in absurd (omega arith)
    go false e k h = rw (eqb_turned x m, e, k h)

less_without : (m x : ℕ) (xs : List ℕ) → is_number_among x xs ≡ false → is_number_among x (without m xs) ≡ false
unfolding without is_number_among
less_without m x [] h = refl
less_without m x (y ∷ ys) h = go (eqb x y) refl (eqb y m) h (less_without m x ys)
  where
    go : (t : Bool) → eqb x y ≡ t → (s : Bool) → (t || is_number_among x ys) ≡ false → (is_number_among x ys ≡ false → is_number_among x (without m ys) ≡ false)
        → is_number_among x (cond s (without m ys) (y ∷ without m ys)) ≡ false
    go true e s h k = let z : ◌≡◌ {A = ℕ} 0 1 = cc in absurd (omega arith)
    go false e true h k = k h
    go false e false h k = rw (e, k h)

length_without : (n m : ℕ) (xs : List ℕ) → ApartBelow n xs → length xs ≤ suc (length (without m xs))
unfolding without
length_without n m [] h = omega arith
length_without n m (x ∷ xs) (b, a, h) = go (eqb x m) refl (length_without n m xs h)
  where
    go : (t : Bool) → eqb x m ≡ t → length xs ≤ suc (length (without m xs)) → suc (length xs) ≤ suc (length (cond t (without m xs) (x ∷ without m xs)))
    go true e k =
        let q = eqb-true x m e in
        let w : without m xs ≡ xs = none_without m xs (rw (← q) a) in
        rw w (omega arith)
    go false e k = omega arith

apart_without : (n : ℕ) (xs : List ℕ) → ApartBelow (suc n) xs → ApartBelow n (without n xs)
unfolding without
apart_without n [] h = tt
apart_without n (x ∷ xs) (b, a, h) = go (eqb x n) refl (apart_without n xs h)
  where
    go : (t : Bool) → eqb x n ≡ t → ApartBelow n (without n xs) → ApartBelow n (cond t (without n xs) (x ∷ without n xs))
    go true e k = k
    go false e k = let d : x ≡ n → ⊥ = eqb-false x n e in (omega arith, less_without n x xs a, k)

pub apart_few : (n : ℕ) (xs : List ℕ) → ApartBelow n xs → length xs ≤ n
apart_few zero [] h = omega arith
apart_few zero (x ∷ xs) (b, a, h) = absurd (omega arith)
apart_few (suc n) xs h =
    let a = length_without (suc n) n xs h in
    let b = apart_few n (without n xs) (apart_without n xs h) in
    omega arith

-- ---- numbers in memory, the last first

pub backwards_length : (k : ℕ) (l : List ℕ) → length (backwards k l) ≡ k
unfolding backwards
backwards_length zero l = refl
backwards_length (suc k) l = ap suc (backwards_length k l)

pub backwards_below : (k : ℕ) (l : List ℕ) (i v : ℕ) → k ≤ i → backwards k (set l i v) ≡ backwards k l
unfolding backwards
backwards_below zero l i v h = refl
backwards_below (suc k) l i v h = ap₂ ◌∷◌ (get_or-set_other l i k v 0 (omega arith)) (backwards_below k l i v (omega arith))

-- one more number
pub backwards_set : (k : ℕ) (l : List ℕ) (v : ℕ) → k < length l → backwards (k + 1) (set l k v) ≡ v ∷ backwards k l
unfolding backwards
backwards_set k l v h =
    let n : k + 1 ≡ suc k = omega arith in
    rw n (ap₂ ◌∷◌ (get_or-set_same l k v 0 h) (backwards_below k l k v (omega arith)))

-- the columns behind the first n are not among the first n
pub backwards_taken : (k n : ℕ) (l : List ℕ) → k ≤ n → backwards k (take n l) ≡ backwards k l
unfolding backwards
backwards_taken zero n l h = refl
backwards_taken (suc k) n l h = ap₂ ◌∷◌ (get_or-take n l k 0 (omega arith)) (backwards_taken k n l (omega arith))

pub apart_at : (n : ℕ) (k : ℕ) (l : List ℕ) → ApartBelow n (backwards k l) → (i : ℕ) → i < k → get_or l i 0 < n
unfolding backwards
apart_at n zero l h i p = absurd (omega arith)
apart_at n (suc k) l (b, a, h) i p = go (eqb i k) refl (apart_at n k l h i)
  where
    go : (t : Bool) → eqb i k ≡ t → (i < k → get_or l i 0 < n) → get_or l i 0 < n
    go true e later = let q = eqb-true i k e in rw q b
    go false e later = let d : i ≡ k → ⊥ = eqb-false i k e in later (omega arith)

-- a search from the last to the first
module _ (x : ℕ) (l : List ℕ) (k : ℕ) (h : 0 < k) where
  among_last : is_number_among x (backwards k l) ≡ (eqb x (get_or l (k - 1) 0) || is_number_among x (backwards (k - 1) l))
  unfolding is_number_among backwards
  among_last = let n : k ≡ suc (k - 1) = omega arith in ap (λ (j : ℕ). is_number_among x (backwards j l)) n

  pub among_here : x ≡ get_or l (k - 1) 0 → is_number_among x (backwards k l) ≡ true
  among_here e = among_last ∙ rw (eq-eqb x (get_or l (k - 1) 0) e)

  pub among_before : (x ≡ get_or l (k - 1) 0 → ⊥) → is_number_among x (backwards k l) ≡ is_number_among x (backwards (k - 1) l)
  among_before e = among_last ∙ rw (ne_eqb x (get_or l (k - 1) 0) e)

pub among_none : (x : ℕ) (l : List ℕ) (k : ℕ) → k ≤ 0 → is_number_among x (backwards k l) ≡ false
unfolding is_number_among backwards
among_none x l k h = let n : k ≡ 0 = omega arith in rw n
