-- References, cells and writes in memory: what the evaluator's small functions give, and what a world's facts say of given tokens.
use Prim.Native.Nat.{ℕ, ◌+◌, ◌*◌, ◌/◌, ◌%◌, ◌<◌, ◌≤◌}
use mathlib.Core.Path.{◌≡◌, refl, sym, ◌∙◌}
use mathlib.Core.List.{List, [], ◌∷◌, ◌++◌}
use mathlib.Core.Bool.{Bool, true, false, ◌&&◌}
use mathlib.Core.Option.{Option, none}
use mathlib.Core.Logic.{◌⊎◌}
use native.Mathlib.Omega.{arith}
use lib.Dec.{ltb, eqb}
use lib.ListN.{length, get_or}
use borrow.Author.Tests.{lt-ltb, le-ltb}
use Rattle.values.specs.declared.Value.{Value}
use Rattle.values.specs.declared.Value.TheVariants.{Unset}
use Rattle.values.specs.definitions.Cells.{cell_at}
use Rattle.text.specs.definitions.Tokens.{NAME, EVENT, ACTION, FROM, WITH, ON, DOT}
use Rattle.text.specs.inner_contracts.Walks.{nth_token, Rows, Stands, Steps}
use Rattle.text.proofs.laws.WalkLaws.{getElem?_inside}
use Rattle.writes.specs.definitions.Writes.{Write}
use Rattle.writes.specs.inner_contracts.Pending.{pended}
use Rattle.cycles.specs.declared.evaluate.Binding.{Binding}
use Rattle.cycles.specs.definitions.Store.{Store}
use Rattle.cycles.specs.definitions.Spots.{Spot}
use Rattle.cycles.specs.inner_contracts.TotalMachine.{value_at, is_present_at}
use Rattle.cycles.specs.definitions.Reference.{written_if}
use Rattle.cycles.specs.definitions.Planes.{ENTITY_CELLS, MOST_CELL_BYTES}
use Rattle.cycles.specs.inner_contracts.Evaluation.{bound, Locates, located, missing, Refers, Targeted, bare, declares, Resolved, Stored, CellRead, puts, Put}

-- ---- references

module _ (b : Binding) (r : ℕ) where
  pub bound_entity : r < 32 → r ≡ bound b r
  unfolding bound
  bound_entity h = rw (lt-ltb r 32 h)

-- ---- cells

module _ {count : ℕ} {flags cells : List ℕ} {s : Store} (h : Stored count flags cells s) {p : Option Spot} {e m : ℕ} where
  pub present_located : Locates count p e m → (ltb m 12 && eqb (get_or flags e 0) 1) ≡ is_present_at s p
  unfolding is_present_at
  present_located (located what q k l) = rw (q, lt-ltb m 12 l) (sym (h.present e k))
  present_located (missing q k) = rw (q, le-ltb m 12 k)

  absent_read : Locates count p e m → (ltb m 12 && eqb (get_or flags e 0) 1) ≡ false → Unset ≡ value_at s p
  unfolding value_at
  absent_read (located what q k l) a =
      let z : eqb (get_or flags e 0) 1 ≡ false = rw (lt-ltb m 12 l) at a in
      rw (q, h.present e k, z)
  absent_read (missing q k) a = rw q

  present_read : Locates count p e m → (ltb m 12 && eqb (get_or flags e 0) 1) ≡ true → {v : Value} → v ≡ cell_at cells (e * 12 + m) → v ≡ value_at s p
  unfolding value_at
  present_read (located what q k l) a r =
      let z : eqb (get_or flags e 0) 1 ≡ true = rw (lt-ltb m 12 l) at a in
      rw (q, h.present e k, z) (r ∙ sym (h.cell e m k l))
  present_read (missing q k) a r =
      let y : false ≡ true = rw (le-ltb m 12 k) at a in
      let z : ◌≡◌ {A = ℕ} 0 1 = cc in absurd (omega arith)

module _ {flags cells : List ℕ} {e m : ℕ} where
  pub read_absent : (ltb m 12 && eqb (get_or flags e 0) 1) ≡ false → CellRead flags cells e m Unset
  read_absent a = record { reads = λ count s p h l. absent_read h l a }

  pub read_present : (ltb m 12 && eqb (get_or flags e 0) 1) ≡ true → {v : Value} → v ≡ cell_at cells (e * 12 + m) → CellRead flags cells e m v
  read_present a q = record { reads = λ count s p h l. present_read h l a q }

-- ---- writes

pub puts_append : (area : List ℕ) (xs ys : List Write) → puts area (xs ++ ys) ≡ puts (puts area xs) ys
unfolding puts
puts_append area [] ys = refl
puts_append area (w ∷ ws) ys = puts_append (pended MOST_CELL_BYTES area (w.entity * ENTITY_CELLS + w.member) w.priority w.value) ws ys

-- nothing is written where nothing was found
none_written : (area : List ℕ) (made : Bool) (priority : ℕ) (v : Value) → area ≡ puts area (written_if made none priority v)
unfolding puts written_if
none_written area true priority v = refl
none_written area false priority v = refl

module _ {area : List ℕ} {priority e m : ℕ} {v : Value} where
  pub put_nothing : {made : Bool} → made ≡ false → Put area made priority e m v area
  unfolding puts written_if
  put_nothing q = record { written = λ count p k l. rw q }

  pub put_missing : {made : Bool} → 12 ≤ m → Put area made priority e m v area
  put_missing {made} h = record { written = λ count p k l. go l }
    where
      go : {count : ℕ} {p : Option Spot} → Locates count p e m → area ≡ puts area (written_if made p priority v)
      go (located what q k l) = absurd (omega arith)
      go (missing q k) = rw q (none_written area made priority v)

  pub put_made : {made : Bool} {after : List ℕ} → made ≡ true → m < 12 → after ≡ pended MOST_CELL_BYTES area (e * 12 + m) priority v
      → Put area made priority e m v after
  unfolding puts written_if
  put_made {made} {after} em h a = record { written = λ count p k l. go l }
    where
      go : {count : ℕ} {p : Option Spot} → Locates count p e m → after ≡ puts area (written_if made p priority v)
      go (located what q k l) = rw (em, q) a
      go (missing q k) = absurd (omega arith)

pub ruleset cells_read = (read_absent, read_present)

pub ruleset writes_put = (put_nothing, put_missing, put_made)

-- ---- the tokens of a world

module _ {classes values refs : List ℕ} {b : Binding} (x : Resolved classes values refs b) where
  pub number_at : {i k : ℕ} → Stands x.rows i k → (nth_token x.rows.tokens i).value ≡ get_or values i 0
  number_at {i} p =
      let h : i < length x.rows.tokens = rw x.rows.count p.inside in
      x.value i (nth_token x.rows.tokens i) (getElem?_inside x.rows.tokens i _ h)

  pub dotted_at : {i j k : ℕ} → Steps (length classes) i j → Steps (length classes) j k
      → Stands x.rows i NAME → Stands x.rows j DOT → Stands x.rows k NAME
      → Refers x.rows refs b x.spots x.count i k
  dotted_at {i} {j} {k} s t p q r =
      let a = s.steps p.inside in
      let c = t.steps q.inside in
      rw (c, a) (x.dotted i p (rw a at q) (rw (c, a) at r))

  pub sourced_at : {i n k m : ℕ} → Steps (length classes) i n → Steps (length classes) n k → Steps (length classes) k m
      → Stands x.rows i EVENT → Stands x.rows n NAME → Stands x.rows k FROM → Stands x.rows m NAME
      → Refers x.rows refs b x.spots x.count m n
  sourced_at {i} {n} {k} {m} s t u p q r v =
      let a = s.steps p.inside in
      let c = t.steps q.inside in
      let d = u.steps r.inside in
      rw (d, c, a) (x.sourced i p (rw a at q) (rw (c, a) at r) (rw (d, c, a) at v))

  pub called_at : {i n k m : ℕ} → Steps (length classes) i n → Steps (length classes) k m
      → Stands x.rows i ACTION → Stands x.rows n NAME → Stands x.rows k ON → Stands x.rows m NAME
      → i < k → ((j : ℕ) → i < j → j < k → get_or classes j 0 ≡ ON → ⊥)
      → Refers x.rows refs b x.spots x.count m n
  called_at {i} {n} {k} {m} s t p q r v h f =
      let a = s.steps p.inside in
      let c = t.steps r.inside in
      rw (a, c) (x.called i k p (rw a at q) r (rw c at v) h f)

  -- the attribute named after a target, whose name is token number n and whose entity is e
  pub filtered_at : {k n i e : ℕ} {name : List ℕ} → Stands x.rows k FROM ⊎ Stands x.rows k ON → n ≡ k + 1 → Targeted x.rows n i
      → name ≡ (nth_token x.rows.tokens n).bytes → e ≡ bound b (get_or refs n 0 % 256)
      → Stands x.rows i WITH → Stands x.rows (i + 1) NAME
      → Locates x.count (x.spots name (nth_token x.rows.tokens (i + 1)).bytes) e (get_or refs (i + 1) 0 / 256)
  filtered_at {k} {n} {i} w a h ename ee p q = rw (ename, ee, a) (x.filtered k i w (rw a at h) p q)

pub target_named : {classes : List ℕ} {w : Rows classes} {n i : ℕ} → Targeted w n i → Stands w n NAME
target_named (bare p) = p
target_named (declares p q r) = p
