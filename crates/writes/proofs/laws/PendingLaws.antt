-- Memory of pending cells after a write: the lengths, the cells and the stamps; so each cell has what stands there.
use Prim.Native.Nat.{ℕ, ◌+◌, ◌-◌, ◌*◌, ◌≤◌, ◌<◌}
use native.Mathlib.Omega.{arith}
use mathlib.Core.Path.{◌≡◌, refl, sym, ap, ap₂, ◌∙◌}
use mathlib.Core.List.{List}
use mathlib.Core.Bool.{Bool, true, false, cond}
use mathlib.Core.Logic.{inr}
use mathlib.Core.Option.{Option, none, some}
use lib.Dec.{T, leb, ltb}
use lib.ListN.{length, get_or, set, length-set}
use lib.Seq.{get_or-set_same, get_or-set_other}
use borrow.Author.Tests.{ltb-true, ltb-false, lt-ltb, le-ltb, le-leb, lt-leb}
use Rattle.values.specs.declared.Value.{Value}
use Rattle.values.specs.declared.Kind.{Kind}
use Rattle.values.specs.definitions.Storable.{storable}
use Rattle.values.specs.definitions.Cells.{unpacked, cell_at, with_cell}
use Rattle.values.proofs.laws.ByteLaws.{word_same}
use Rattle.values.proofs.laws.CellLaws.{length_with_cell, cell_same, cell_outside, cell_other}
use Rattle.writes.specs.definitions.Writes.{Write, stronger, written_value}
use Rattle.writes.specs.inner_contracts.Pending.{stamp_of, pended}
use Rattle.writes.proofs.laws.StandingLaws.{strongest}

-- ---- a late write, and one that is made

-- by the stamp of its cell
module _ (stamp priority : ℕ) where
  pub never_late : stamp ≡ 0 → false ≡ ltb priority stamp
  never_late e = sym (ap (ltb priority) e ∙ le-ltb priority 0 (omega arith))

  pub late_if : (stamp ≡ 0 → ⊥) → leb priority (stamp - 1) ≡ ltb priority stamp
  late_if n = go (ltb priority stamp) refl
    where
      go : (b : Bool) → ltb priority stamp ≡ b → leb priority (stamp - 1) ≡ b
      go true e = let l : priority ≤ stamp - 1 = omega (arith, ltb-true priority stamp e) in le-leb priority (stamp - 1) l
      go false e = let l : stamp - 1 < priority = omega (arith, ltb-false priority stamp e) in lt-leb priority (stamp - 1) l

module _ (stamps : ℕ) (area : List ℕ) (i priority : ℕ) (v : Value) where
  pub pended_late : ltb priority (get_or area (stamps + i) 0) ≡ true → pended stamps area i priority v ≡ area
  unfolding pended
  pended_late e = rw e

  pub pended_made : ltb priority (get_or area (stamps + i) 0) ≡ false → pended stamps area i priority v ≡ set (with_cell area i v) (stamps + i) (priority + 1)
  unfolding pended
  pended_made e = rw e

  -- as code makes it
  pub put_made : {late : Bool} → late ≡ ltb priority (get_or area (stamps + i) 0) → late ≡ false → {cells : List ℕ} → cells ≡ with_cell area i v
      → set cells (stamps + i) (priority + 1) ≡ pended stamps area i priority v
  put_made e f c = ap (λ (l : List ℕ). set l (stamps + i) (priority + 1)) c ∙ sym (pended_made (sym e ∙ f))

  pub length_pended : length (pended stamps area i priority v) ≡ length area
  length_pended = go (ltb priority (get_or area (stamps + i) 0)) refl
    where
      go : (b : Bool) → ltb priority (get_or area (stamps + i) 0) ≡ b → length (pended stamps area i priority v) ≡ length area
      go true e = ap length (pended_late e)
      go false e = ap length (pended_made e) ∙ length-set (with_cell area i v) (stamps + i) (priority + 1) ∙ length_with_cell area i v

-- ---- one cell after a write

-- a byte behind the cells changes none of them
stamped_cell : (l : List ℕ) (j at stamp : ℕ) → j * 9 + 9 ≤ at → cell_at (set l at stamp) j ≡ cell_at l j
stamped_cell l j at stamp h =
    ap₂ unpacked (get_or-set_other l at (j * 9) stamp 0 (λ z. omega arith))
    (word_same 8 (set l at stamp) l (j * 9 + 1) (λ n p q. get_or-set_other l at n stamp 0 (λ z. omega arith)))

-- what a memory has in cell number j: the value and the stamp of what stands there
pub record Has (stamps : ℕ) (area : List ℕ) (j : ℕ) (o : Option Write) : Type 0 where
  pub value : cell_at area j ≡ written_value o
  pub stamp : get_or area (stamps + j) 0 ≡ stamp_of o

module _ (stamps : ℕ) (area : List ℕ) (j : ℕ) (room : j * 9 + 9 ≤ stamps) (inside : stamps + j < length area) (w : Write) where
  abbrev after : List ℕ
  after = pended stamps area j w.priority w.value

  made_has : (k : Kind) → T (storable k w.value) → ltb w.priority (get_or area (stamps + j) 0) ≡ false → Has stamps after j (some w)
  unfolding written_value stamp_of
  made_has k t e =
      let l = with_cell area j w.value in
      let n = length_with_cell area j w.value in
      rw (pended_made stamps area j w.priority w.value e) (record {
        value = stamped_cell l j (stamps + j) (w.priority + 1) (omega arith) ∙ cell_same k area j w.value (omega arith) t;
        stamp = get_or-set_same l (stamps + j) (w.priority + 1) 0 (omega arith);
      })

  -- a write to the cell, by what stands there
  pub pended_same : (o : Option Write) → Has stamps area j o → (k : Kind) → T (storable k w.value) → Has stamps after j (strongest o (some w))
  unfolding stamp_of strongest stronger
  pended_same none h k t = made_has k t (ap (ltb w.priority) h.stamp ∙ le-ltb w.priority 0 (omega arith))
  pended_same (some v) h k t = go (ltb v.priority w.priority) refl
    where
      go : (b : Bool) → ltb v.priority w.priority ≡ b → Has stamps after j (some (cond b w v))
      go true e =
          let l : v.priority + 1 ≤ w.priority = omega (arith, ltb-true v.priority w.priority e) in
          made_has k t (ap (ltb w.priority) h.stamp ∙ le-ltb w.priority (v.priority + 1) l)
      go false e =
          let l : w.priority < v.priority + 1 = omega (arith, ltb-false v.priority w.priority e) in
          rw (pended_late stamps area j w.priority w.value (ap (ltb w.priority) h.stamp ∙ lt-ltb w.priority (v.priority + 1) l)) h

-- a write to another cell
pub pended_other : (stamps : ℕ) (area : List ℕ) (i priority : ℕ) (v : Value) {j : ℕ} {o : Option Write} → Has stamps area j o
    → i * 9 + 9 ≤ stamps → j * 9 + 9 ≤ stamps → (i ≡ j → ⊥) → Has stamps (pended stamps area i priority v) j o
pended_other stamps area i priority v {j} {o} h room other d = go (ltb priority (get_or area (stamps + i) 0)) refl
  where
    go : (b : Bool) → ltb priority (get_or area (stamps + i) 0) ≡ b → Has stamps (pended stamps area i priority v) j o
    go true e = rw (pended_late stamps area i priority v e) h
    go false e =
        let l = with_cell area i v in
        rw (pended_made stamps area i priority v e) (record {
          value = stamped_cell l j (stamps + i) (priority + 1) (omega arith) ∙ cell_other area i j v d ∙ h.value;
          stamp = get_or-set_other l (stamps + i) (stamps + j) (priority + 1) 0 (λ z. d (omega arith)) ∙ cell_outside area i v (stamps + j) (inr (omega arith)) ∙ h.stamp;
        })
