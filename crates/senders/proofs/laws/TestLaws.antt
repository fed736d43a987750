-- Tests of every item of a list, and of every number: one and the same where each says the same.
use Prim.Native.Nat.{ℕ, zero, suc, ◌+◌, ◌*◌, ◌/◌, ◌%◌, ◌≤◌, ◌<◌}
use native.Mathlib.Numerals.{add-one}
use native.Mathlib.Omega.{arith}
use mathlib.Core.Path.{◌≡◌, refl, sym, ap, ap₂, ◌∙◌, subst}
use mathlib.Core.Bool.{Bool, true, false, cond, ◌&&◌}
use mathlib.Core.List.{List, [], ◌∷◌, map, Memᴰ}
use mathlib.Core.Option.{Option, none, some}
use lib.Dec.{T, ltb, eqb}
use lib.Ieee.Fits.{and_i, and_l, and_r}
use lib.ListN.{length, get_or, get_elem?, take, drop}
use lib.Seq.{drop-cons}
use borrow.Author.Tests.{ltb-true, ltb-false}
use Rattle.values.specs.definitions.Bytes.{same_bytes}
use Rattle.text.specs.definitions.Syntax.{Member, Interface, Entity, File}
use Rattle.text.proofs.laws.ListLaws.{some_injective, none_some, All, all_none, all_cons, flatMap_member}
use Rattle.checking.specs.definitions.Scope.{Indexed, interface_of, nth_member, member_of}
use Rattle.checking.proofs.laws.WithinCounts.{WithinCounts}
use Rattle.checking.proofs.laws.DirectoryLaws.{number_inside}
use Rattle.cycles.specs.definitions.Spots.{Spot, every, numbered, members_of, entity_cells, cells}
use Rattle.cycles.specs.definitions.Planes.{entity_count, each}
use Rattle.cycles.proofs.laws.TableLaws.{each_holds, each_at}
use Rattle.cycles.proofs.laws.WalkLaws.{every_passes}
use Rattle.cycles.proofs.laws.SpotLaws.{Stands, found_spot, cell_stands}
use Rattle.cycles.proofs.laws.CellNumbers.{cell_entity, cell_member, cell_below, no_entity_no_cell, no_member_no_cell}

pub same_truth : (a b : Bool) → (T a → T b) → (T b → T a) → a ≡ b
same_truth true true f g = refl
same_truth true false f g = absurd (f tt)
same_truth false true f g = absurd (g tt)
same_truth false false f g = refl

pub every_at : {A : Type 0} (test : A → Bool) (xs : List A) → T (every test xs) → All (λ (x : A). T (test x)) xs
unfolding every
every_at test [] h = all_none (λ x. T (test x))
every_at test (x ∷ xs) h = all_cons (λ y. T (test y)) (and_l (test x) (every test xs) h) (every_at test xs (and_r (test x) (every test xs) h))

-- a test that each item passes by two others
pub every_both : {A : Type 0} (p q r : A → Bool) → ((x : A) → T (p x) → T (q x) → T (r x)) → (xs : List A)
    → T (every p xs) → T (every q xs) → T (every r xs)
unfolding every
every_both p q r h [] a b = tt
every_both p q r h (x ∷ xs) a b =
    and_i (r x) (every r xs) (h x (and_l (p x) (every p xs) a) (and_l (q x) (every q xs) b))
    (every_both p q r h xs (and_r (p x) (every p xs) a) (and_r (q x) (every q xs) b))

pub each_same : (p q : ℕ → Bool) (i k : ℕ) → ((j : ℕ) → i ≤ j → j < i + k → p j ≡ q j) → each p i k ≡ each q i k
unfolding each
each_same p q i zero h = refl
each_same p q i (suc k) h = ap₂ ◌&&◌ (h i (omega arith) (omega arith)) (each_same p q (i + 1) k (λ j a b. h j (omega arith) (omega arith)))

-- ---- lists with numbers

pub every_numbered : {A : Type 0} (test : ℕ → Bool) (i : ℕ) (xs : List A) → every (λ (x : Indexed A). test x.number) (numbered i xs) ≡ each test i (length xs)
unfolding every numbered each
every_numbered test i [] = refl
every_numbered test i (x ∷ xs) = ap (λ (b : Bool). test i && b) (every_numbered test (suc i) xs ∙ ap (λ (j : ℕ). each test j (length xs)) (sym (add-one i)))

module _ {A : Type 0} where
  numbered_from : (n : ℕ) (xs : List A) (k : ℕ) {x : A} → get_elem? xs k ≡ some x → (m : ℕ) → m ≡ n + k
      → Memᴰ (record { number = m; item = x }) (numbered n xs)
  unfolding numbered
  numbered_from n [] k h m e = absurd (none_some h)
  numbered_from n (y ∷ ys) zero {x} h m e =
      let q : m ≡ n = omega arith in
      mathlib.Core.List.Memᴰ.head (λ i. record { number = q i; item = sym (some_injective h) i })
  numbered_from n (y ∷ ys) (suc k) h m e = mathlib.Core.List.Memᴰ.tail (numbered_from (suc n) ys k h m (omega arith))

  pub numbered_member : (xs : List A) (k : ℕ) {x : A} → get_elem? xs k ≡ some x → Memᴰ (record { number = k; item = x }) (numbered 0 xs)
  numbered_member xs k h = numbered_from 0 xs k h k (omega arith)

-- ---- cells by their numbers

pub cell_among : (f : File) (e m : ℕ) {x : Member} → e < entity_count f → member_of f e m ≡ some x
    → Memᴰ (record { entity = e; member = m; what = x }) (cells f)
unfolding member_of cells entity_cells
cell_among f e m {x} below h = by_interface (interface_of f e) refl h
  where
    by_interface : (o : Option Interface) → interface_of f e ≡ o → nth_member o m ≡ some x → Memᴰ (record { entity = e; member = m; what = x }) (cells f)
    by_interface none q g = absurd (none_some g)
    by_interface (some i) q g =
        let (y, s) = number_inside f.entities e below in
        let inside : Memᴰ (record { entity = e; member = m; what = x }) (map (found_spot e) (numbered 0 (members_of (some i)))) =
        mathlib.Core.List.Memᴰ.map (found_spot e) (numbered_member i.members m g) in
        flatMap_member (λ (k : Indexed Entity). entity_cells f k.number) (numbered 0 f.entities) (numbered_member f.entities e s)
        (subst (λ (o : Option Interface). Memᴰ (record { entity = e; member = m; what = x }) (map (found_spot e) (numbered 0 (members_of o))))
        (sym q) inside)

-- a member's numbers are below the counts
pub stands_below : (f : File) → WithinCounts f → (e m : ℕ) {x : Member} → member_of f e m ≡ some x → (e < entity_count f) × (m < 12)
stands_below f w e m {x} h = go (ltb e (entity_count f)) refl (ltb m 12) refl
  where
    go : (a : Bool) → ltb e (entity_count f) ≡ a → (b : Bool) → ltb m 12 ≡ b → (e < entity_count f) × (m < 12)
    go true p true q = (ltb-true e (entity_count f) p, ltb-true m 12 q)
    go true p false q = absurd (none_some (sym (no_member_no_cell f e m w (ltb-false m 12 q)) ∙ h))
    go false p b q = absurd (none_some (sym (no_entity_no_cell f e m (ltb-false e (entity_count f) p)) ∙ h))

-- a test of every cell is one of every number, where all that is no cell passes
pub every_cell : (f : File) → WithinCounts f → (test : ℕ → ℕ → Bool) → ((e m : ℕ) → member_of f e m ≡ none → T (test e m))
    → every (λ (p : Spot). test p.entity p.member) (cells f) ≡ each (λ k. test (k / 12) (k % 12)) 0 (12 * entity_count f)
every_cell f w test None_passes =
    same_truth (every spot_test (cells f)) (each number_test 0 (12 * n)) (λ h. each_holds number_test 0 (12 * n) (λ k a b. number_passes h k (omega arith)))
    (λ h. every_passes spot_test (cells f) (λ p m. spot_passes h p (cell_stands f p m)))
  where
    n : ℕ
    n = entity_count f

    spot_test : Spot → Bool
    spot_test p = test p.entity p.member

    number_test : ℕ → Bool
    number_test k = test (k / 12) (k % 12)

    number_passes : T (every spot_test (cells f)) → (k : ℕ) → k < 12 * n → T (number_test k)
    number_passes h k b = go (member_of f (k / 12) (k % 12)) refl
      where
        go : (o : Option Member) → member_of f (k / 12) (k % 12) ≡ o → T (number_test k)
        go none q = None_passes (k / 12) (k % 12) q
        go (some x) q =
            every_at spot_test (cells f) h (record { entity = k / 12; member = k % 12; what = x }) (cell_among f (k / 12) (k % 12) (omega arith) q)

    spot_passes : T (each number_test 0 (12 * n)) → (p : Spot) → Stands f p → T (spot_test p)
    spot_passes h p s =
        let (a, b) = stands_below f w p.entity p.member s in
        let below = cell_below p.entity p.member b n a in
        let t = each_at number_test 0 (12 * n) h (p.entity * 12 + p.member) (omega arith) (omega arith) in
        rw (cell_entity p.entity p.member b, cell_member p.entity p.member b) at t

-- ---- bytes by their numbers

pub same_front : (s t : List ℕ) (i k : ℕ) → i + k ≤ length s → i + k ≤ length t
    → same_bytes (take k (drop i s)) (take k (drop i t)) ≡ each (λ j. eqb (get_or s j 0) (get_or t j 0)) i k
unfolding same_bytes each
same_front s t i zero p q = refl
same_front s t i (suc k) p q =
    rw (drop-cons s i 0 (omega arith), drop-cons t i 0 (omega arith), ← add-one i)
    (go (eqb (get_or s i 0) (get_or t i 0)) (same_front s t (i + 1) k (omega arith) (omega arith)))
  where
    go : (b : Bool) {x y : Bool} → x ≡ y → cond b x false ≡ (b && y)
    go true e = e
    go false e = refl
