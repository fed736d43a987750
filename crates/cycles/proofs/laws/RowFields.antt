-- The fields of a row or of its header as a table over the numbers of cells.
use Prim.Native.Nat.{ℕ, zero, suc, ◌+◌, ◌-◌, ◌*◌, ◌/◌, ◌%◌, ◌≤◌, ◌<◌}
use native.Mathlib.Nat.{add-zero}
use native.Mathlib.Numerals.{add-one}
use native.Mathlib.Omega.{arith}
use mathlib.Core.Path.{◌≡◌, refl, sym, ap, ap₂, ◌∙◌, subst}
use mathlib.Core.Bool.{Bool, true, false}
use mathlib.Core.List.{List, [], ◌∷◌, ◌++◌, map, flat_map, append-nil}
use mathlib.Core.Option.{Option, none, some}
use lib.ListN.{length, get_elem?}
use Rattle.text.specs.definitions.Syntax.{Interface, File}
use Rattle.checking.specs.definitions.Scope.{Indexed, interface_of, nth_member, member_of, is_action}
use Rattle.checking.proofs.laws.WithinCounts.{WithinCounts}
use Rattle.text.proofs.laws.ListLaws.{flatMap_flatMap}
use Rattle.cycles.specs.definitions.Spots.{Spot, numbered, members_of, entity_cells, cells}
use Rattle.cycles.specs.definitions.Row.{action_cells, action_fields}
use Rattle.cycles.specs.definitions.Planes.{table, entity_count}
use Rattle.cycles.specs.inner_contracts.RowMemory.{field_of, field_at}
use Rattle.cycles.proofs.laws.TableLaws.{table_append}
use Rattle.cycles.proofs.laws.CellNumbers.{none_past}

-- ---- lists of lists

module _ {A B C : Type 0} where
  flatMap_map : (g : B → List C) (h : A → B) (xs : List A) → flat_map g (map h xs) ≡ flat_map (λ x. g (h x)) xs
  unfolding flat_map
  flatMap_map g h [] = refl
  flatMap_map g h (x ∷ xs) = ap (λ (l : List C). g (h x) ++ l) (flatMap_map g h xs)

-- the items of a list with their numbers, from k on, as a table
module _ {A : Type 0} (g : Indexed A → List ℕ) (piece : ℕ → List ℕ) where
  pub numbered_table : (k : ℕ) (xs : List A) → ((j : ℕ) (x : A) → get_elem? xs j ≡ some x → g (record { number = k + j; item = x }) ≡ piece (k + j))
      → flat_map g (numbered k xs) ≡ table piece k (length xs)
  unfolding numbered flat_map table
  numbered_table k [] h = refl
  numbered_table k (x ∷ xs) h =
      ap₂ (λ (a b : List ℕ). a ++ b)
      (subst (λ (n : ℕ). g (record { number = n; item = x }) ≡ piece n) (add-zero k) (h 0 x refl))
      (numbered_table (suc k) xs (λ j y e. subst (λ (n : ℕ). g (record { number = n; item = y }) ≡ piece n) (next j) (h (suc j) y e))
      ∙ ap (λ (n : ℕ). table piece n (length xs)) (sym (add-one k)))
    where
      next : (j : ℕ) → k + suc j ≡ suc k + j
      next j = omega arith

-- ---- tables

table_empty : (piece : ℕ → List ℕ) (i k : ℕ) → ((j : ℕ) → i ≤ j → piece j ≡ []) → table piece i k ≡ []
unfolding table
table_empty piece i zero h = refl
table_empty piece i (suc k) h = ap₂ (λ (a b : List ℕ). a ++ b) (h i (omega arith)) (table_empty piece (i + 1) k (λ j l. h j (omega arith)))

-- pieces past the end may be left out
table_longer : (piece : ℕ → List ℕ) (k n : ℕ) → k ≤ n → ((j : ℕ) → k ≤ j → piece j ≡ []) → table piece 0 k ≡ table piece 0 n
table_longer piece k n l h =
    let a : n ≡ k + (n - k) = omega arith in
    let b : 0 + k ≡ k = omega arith in
    sym (ap (table piece 0) a ∙ table_append piece 0 k (n - k) ∙ ap (λ (m : ℕ). table piece 0 k ++ table piece m (n - k)) b
    ∙ ap (λ (x : List ℕ). table piece 0 k ++ x) (table_empty piece k (n - k) h)
    ∙ append-nil (table piece 0 k))

table_shift : (p q : ℕ → List ℕ) (i j k : ℕ) → ((m : ℕ) → m < k → p (i + m) ≡ q (j + m)) → table p i k ≡ table q j k
unfolding table
table_shift p q i j zero h = refl
table_shift p q i j (suc k) h =
    ap₂ (λ (a b : List ℕ). a ++ b)
    (subst (λ (n : ℕ). p n ≡ q j) (add-zero i) (subst (λ (n : ℕ). p (i + 0) ≡ q n) (add-zero j) (h 0 (omega arith))))
    (table_shift p q (i + 1) (j + 1) k (λ m l. ap p (next i m) ∙ h (suc m) (omega arith) ∙ ap q (sym (next j m))))
  where
    next : (n m : ℕ) → n + 1 + m ≡ n + suc m
    next n m = omega arith

-- a table of tables of 12 pieces is one table
table_by_twelve : (piece : ℕ → ℕ → List ℕ) (e k : ℕ)
    → table (λ n. table (piece n) 0 12) e k ≡ table (λ i. piece (i / 12) (i % 12)) (12 * e) (12 * k)
unfolding table
table_by_twelve piece e zero = refl
table_by_twelve piece e (suc k) =
    let a : 12 * suc k ≡ 12 + 12 * k = omega arith in
    let b : 12 * (e + 1) ≡ 12 * e + 12 = omega arith in
    ap₂ (λ (x y : List ℕ). x ++ y)
    (table_shift (piece e) (λ i. piece (i / 12) (i % 12)) 0 (12 * e) 12 one)
    (table_by_twelve piece (e + 1) k ∙ ap (λ (n : ℕ). table (λ i. piece (i / 12) (i % 12)) n (12 * k)) b)
    ∙ sym (ap (table (λ i. piece (i / 12) (i % 12)) (12 * e)) a ∙ table_append (λ i. piece (i / 12) (i % 12)) (12 * e) 12 (12 * k))
  where
    one : (m : ℕ) → m < 12 → piece e (0 + m) ≡ piece ((12 * e + m) / 12) ((12 * e + m) % 12)
    one m l =
        let p : 0 + m ≡ m = omega arith in
        let q : (12 * e + m) / 12 ≡ e = omega arith in
        let r : (12 * e + m) % 12 ≡ m = omega arith in
        rw (p, q, r)

-- ---- the fields of a file

module _ (f : File) (w : WithinCounts f) (field : Spot → List ℕ) where
  abbrev spot_field : Spot → List ℕ
  spot_field p = elim (is_action p.what.sort) [ true ↦ 32 ∷ field p | false ↦ [] ]

  abbrev piece : ℕ → ℕ → List ℕ
  piece e m = field_of field e m (member_of f e m)

  entity_fields : (e : ℕ) → flat_map spot_field (entity_cells f e) ≡ table (piece e) 0 12
  unfolding entity_cells member_of field_of flat_map
  entity_fields e =
      flatMap_map spot_field (λ m. record { entity = e; member = m.number; what = m.item }) (numbered 0 (members_of (interface_of f e)))
      ∙ go (interface_of f e) refl
    where
      go : (o : Option Interface) → interface_of f e ≡ o
          → flat_map (λ m. spot_field (record { entity = e; member = m.number; what = m.item })) (numbered 0 (members_of o))
          ≡ table (λ m. field_of field e m (nth_member (interface_of f e) m)) 0 12
      go none s = sym (rw s (table_empty (λ m. []) 0 12 (λ j l. refl)))
      go (some i) s =
          rw s
          (numbered_table (λ m. spot_field (record { entity = e; member = m.number; what = m.item })) (λ m. field_of field e m (get_elem? i.members m)) 0
          i.members
          (λ j x q. let z : 0 + j ≡ j = omega arith in rw (z, q))
          ∙ table_longer (λ m. field_of field e m (get_elem? i.members m)) (length i.members) 12 (w.members e i s)
          (λ j l. rw (none_past i.members j l)))

  abbrev cell_if : Spot → List Spot
  cell_if p = elim (is_action p.what.sort) [ true ↦ p ∷ [] | false ↦ [] ]

  -- a field stands where its cell does
  fields_by_cell : action_fields f field ≡ flat_map spot_field (cells f)
  unfolding action_fields action_cells flat_map
  fields_by_cell = flatMap_flatMap (λ p. 32 ∷ field p) cell_if spot_field (λ p. by_sort p (is_action p.what.sort)) (cells f)
    where
      by_sort : (p : Spot) (b : Bool)
          → flat_map (λ (q : Spot). 32 ∷ field q) (elim b as (λ (x : Bool). List Spot) [ true ↦ p ∷ [] | false ↦ [] ])
          ≡ (elim b as (λ (x : Bool). List ℕ) [ true ↦ 32 ∷ field p | false ↦ [] ])
      by_sort p true = append-nil (32 ∷ field p)
      by_sort p false = refl

  pub fields_table : action_fields f field ≡ table (field_at f field) 0 (12 * entity_count f)
  unfolding cells field_at
  fields_table =
      fields_by_cell
      ∙ flatMap_flatMap spot_field (λ e. entity_cells f e.number) (λ e. flat_map spot_field (entity_cells f e.number))
      (λ e. refl) (numbered 0 f.entities)
      ∙ numbered_table (λ e. flat_map spot_field (entity_cells f e.number)) (λ e. table (piece e) 0 12) 0 f.entities (λ j x q. entity_fields (0 + j))
      ∙ table_by_twelve piece 0 (length f.entities)
