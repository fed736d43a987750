-- Memory of pending cells after writes, one after another: each cell has what stands there of the writes.
use Prim.Native.Nat.{ℕ, zero, suc, ◌+◌, ◌*◌, ◌≤◌, ◌<◌}
use native.Mathlib.Omega.{arith}
use mathlib.Core.Path.{◌≡◌, refl, sym, ap, ap₂, ◌∙◌, subst}
use mathlib.Core.Bool.{Bool, true, false, cond, ◌&&◌}
use mathlib.Core.List.Memᴰ
use mathlib.Core.List.{List, [], ◌∷◌, ◌++◌, append_assoc}
use mathlib.Core.Logic.{◌⊎◌, inl, inr}
use mathlib.Core.Option.{Option, none, some}
use lib.Dec.{T, ltb, eqb, eqb→eq}
use lib.ListN.{length, get_or, set, take, drop, replicate, get_or-replicate, length-replicate, length-set}
use lib.Ieee.Fits.{and_l, and_r}
use lib.Seq.{drop-cons, drop_at, take_at, length-take-le, get_or-drop, get_or-set_other}
use borrow.Author.Tests.{ltb-true, ltb-false, eqb-true, eqb-false}
use Rattle.values.specs.declared.Value.{Value}
use Rattle.values.specs.declared.Value.TheVariants.{Unset}
use Rattle.values.specs.declared.Kind.{Kind}
use Rattle.values.specs.definitions.Storable.{storable}
use Rattle.values.specs.definitions.Bytes.{word_at}
use Rattle.values.specs.definitions.Cells.{unpacked, cell_bytes, cell_at, with_cell}
use Rattle.values.proofs.laws.ByteLaws.{overwritten_parts}
use Rattle.values.proofs.laws.StorableLaws.{length_cell_bytes}
use Rattle.values.proofs.laws.CellLaws.{length_with_cell, cell_outside}
use Rattle.text.specs.definitions.Syntax.{File}
use Rattle.text.proofs.laws.ListLaws.{none_some, All}
use Rattle.writes.specs.definitions.Writes.{Write, is_to, standing, written_value}
use Rattle.writes.specs.inner_contracts.Pending.{stamp_of, pended}
use Rattle.writes.proofs.laws.StandingLaws.{strongest, strongest_none, strongest_chain, standing_cons, Holds, standing_holds}
use Rattle.writes.proofs.laws.PendingLaws.{pended_late, pended_made, length_pended, Has, pended_same, pended_other}
use Rattle.checking.specs.definitions.Scope.{member_of}
use Rattle.checking.proofs.laws.WithinCounts.{WithinCounts}
use Rattle.cycles.specs.inner_contracts.Evaluation.{puts}
use Rattle.cycles.proofs.laws.TableLaws.{word_drop, word_first, begins_with}
use Rattle.cycles.proofs.laws.CellFits.{cell_read}
use Rattle.cycles.proofs.laws.CellNumbers.{no_entity_no_cell, no_member_no_cell}
use Rattle.cycles.proofs.laws.SoundEvaluation.{SoundWrite}

-- in bytes of 0 nothing stands: the cells are unset, and their stamps are 0
zeros_unset : (n i : ℕ) → i * 9 < n → cell_at (replicate n 0) i ≡ Unset
unfolding unpacked
zeros_unset n i h = ap (λ (t : ℕ). unpacked t (word_at 8 (replicate n 0) (i * 9 + 1))) (get_or-replicate n (i * 9) 0 0 h)

pub zeros_have : (stamps n i : ℕ) → i * 9 < n → stamps + i < n → Has stamps (replicate n 0) i none
unfolding written_value stamp_of
zeros_have stamps n i h g = record { value = zeros_unset n i h; stamp = get_or-replicate n (stamps + i) 0 0 g }

-- a sound write is to one of the 12 cells of one of 32 entities
module _ (f : File) (h : WithinCounts f) (w : Write) (s : SoundWrite f w) where
  write_member : w.member < 12
  write_member = go (ltb w.member 12) refl
    where
      go : (b : Bool) → ltb w.member 12 ≡ b → w.member < 12
      go true e = ltb-true w.member 12 e
      go false e = absurd (none_some (sym (no_member_no_cell f w.entity w.member h (ltb-false w.member 12 e)) ∙ s.1))

  write_entity : w.entity < 32
  write_entity = go (ltb w.entity (length f.entities)) refl
    where
      go : (b : Bool) → ltb w.entity (length f.entities) ≡ b → w.entity < 32
      go true e = omega (arith, ltb-true w.entity (length f.entities) e, h.entities)
      go false e = absurd (none_some (sym (no_entity_no_cell f w.entity w.member (ltb-false w.entity (length f.entities) e)) ∙ s.1))

module _ (f : File) (h : WithinCounts f) (e m : ℕ) (few : e < 32) (l : m < 12) where
  -- one write: to this cell or to another
  put_has : (w : Write) → SoundWrite f w → (area : List ℕ) → 3840 ≤ length area → (o : Option Write) → Has 3456 area (e * 12 + m) o
      → Has 3456 (pended 3456 area (w.entity * 12 + w.member) w.priority w.value) (e * 12 + m) (strongest o (standing e m (w ∷ [])))
  unfolding standing is_to
  put_has w s area r o p = go (eqb w.entity e) refl (eqb w.member m) refl (write_entity f h w s) (write_member f h w s)
    where
      go : (a : Bool) → eqb w.entity e ≡ a → (b : Bool) → eqb w.member m ≡ b → w.entity < 32 → w.member < 12
          → Has 3456 (pended 3456 area (w.entity * 12 + w.member) w.priority w.value) (e * 12 + m) (strongest o (cond (a && b) (some w) none))
      go true i true j k n =
          let z : w.entity * 12 + w.member ≡ e * 12 + m = ap₂ (λ (x y : ℕ). x * 12 + y) (eqb-true w.entity e i) (eqb-true w.member m j) in
          rw z (pended_same 3456 area (e * 12 + m) (omega arith) (omega arith) w o p s.0.kind s.2)
      go true i false j k n =
          rw (strongest_none o)
          (pended_other 3456 area (w.entity * 12 + w.member) w.priority w.value p (omega arith) (omega arith)
          (λ z. eqb-false w.member m j (omega arith)))
      go false i b j k n =
          rw (strongest_none o)
          (pended_other 3456 area (w.entity * 12 + w.member) w.priority w.value p (omega arith) (omega arith)
          (λ z. eqb-false w.entity e i (omega arith)))

  pub after_puts : (ws : List Write) → All (SoundWrite f) ws → (area : List ℕ) → 3840 ≤ length area → (o : Option Write) → Has 3456 area (e * 12 + m) o
      → Has 3456 (puts area ws) (e * 12 + m) (strongest o (standing e m ws))
  unfolding puts standing
  after_puts [] a area r o p = rw (strongest_none o) p
  after_puts (w ∷ ws) a area r o p =
      let next = pended 3456 area (w.entity * 12 + w.member) w.priority w.value in
      subst (Has 3456 (puts next ws) (e * 12 + m))
      (strongest_chain o (standing e m (w ∷ [])) (standing e m ws) ∙ ap (strongest o) (sym (standing_cons e m w ws)))
      (after_puts ws (λ u n. a u (Memᴰ.tail n)) next
      (subst (λ (n : ℕ). 3840 ≤ n) (sym (length_pended 3456 area (w.entity * 12 + w.member) w.priority w.value)) r)
      (strongest o (standing e m (w ∷ []))) (put_has w (a w (Memᴰ.head refl)) area r o p))

-- where there is no cell no write stands
pub none_stands : (f : File) (e m : ℕ) → member_of f e m ≡ none → (ws : List Write) → All (SoundWrite f) ws → standing e m ws ≡ none
unfolding is_to
none_stands f e m q ws a = go (standing e m ws) (standing_holds (λ w. ⊥) e m ws (λ w n t. no_write w (a w n) t))
  where
    no_write : (w : Write) → SoundWrite f w → T (is_to e m w) → ⊥
    no_write w s t =
        let i = eqb→eq w.entity e (and_l (eqb w.entity e) (eqb w.member m) t) in
        let j = eqb→eq w.member m (and_r (eqb w.entity e) (eqb w.member m) t) in
        none_some (sym q ∙ sym (ap₂ (member_of f) i j) ∙ s.1)

    go : (o : Option Write) → Holds (λ w. ⊥) o → o ≡ none
    go none h = refl
    go (some w) h = absurd h

-- ---- the bytes of a cell

-- bytes of 0 are those of unset cells
zeros_run : (n at size : ℕ) → at + n ≤ size → take {A = ℕ} n (drop at (replicate size 0)) ≡ replicate n 0
zeros_run zero at size h = refl
zeros_run (suc n) at size h =
    let k = length-replicate {A = ℕ} size 0 in
    rw (drop-cons {A = ℕ} (replicate size 0) at 0 (omega arith))
    (ap₂ (λ (b : ℕ) (l : List ℕ). b ∷ l) (get_or-replicate size at 0 0 (omega arith)) (zeros_run n (suc at) size (omega arith)))

pub zeros_cell : (size i : ℕ) → i * 9 + 9 ≤ size → take 9 (drop (i * 9) (replicate size 0)) ≡ cell_bytes Unset
zeros_cell size i h = zeros_run 9 (i * 9) size h

-- two memories that have the same bytes somewhere
same_run : (n at : ℕ) (l m : List ℕ) → at + n ≤ length l → at + n ≤ length m → ((k : ℕ) → at ≤ k → k < at + n → get_or l k 0 ≡ get_or m k 0)
    → take n (drop at l) ≡ take n (drop at m)
same_run zero at l m p q h = refl
same_run (suc n) at l m p q h =
    rw (drop-cons l at 0 (omega arith), drop-cons m at 0 (omega arith))
    (ap₂ (λ (b : ℕ) (x : List ℕ). b ∷ x) (h at (omega arith) (omega arith))
    (same_run n (suc at) l m (omega arith) (omega arith) (λ k a b. h k (omega arith) (omega arith))))

-- a cell of memory has the bytes of a value that a cell can hold
pub record Neat (area : List ℕ) (j : ℕ) : Type 0 where
  pub kind : Kind
  pub value : Value
  pub can : T (storable kind value)
  pub bytes : take 9 (drop (j * 9) area) ≡ cell_bytes value

-- so they are those of the value that is read there
pub neat_bytes : {area : List ℕ} {j : ℕ} → Neat area j → take 9 (drop (j * 9) area) ≡ cell_bytes (cell_at area j)
neat_bytes {area} {j} p =
    let v = p.value in
    let from = drop (j * 9) area in
    let rest = drop 9 from in
    let n = length_cell_bytes v in
    let z : j * 9 + 0 ≡ j * 9 = omega arith in
    let behind : cell_at from 0 ≡ cell_at area j =
    ap₂ unpacked (get_or-drop (j * 9) area 0 0 ∙ ap (λ (k : ℕ). get_or area k 0) z) (word_drop 8 (j * 9) area 1) in
    let first : cell_at (cell_bytes v ++ rest) 0 ≡ cell_at (cell_bytes v) 0 =
    ap (unpacked (get_or (cell_bytes v) 0 0)) (word_first 8 (cell_bytes v) rest 1 (omega arith)) in
    let reads : cell_at area j ≡ v =
    sym behind ∙ ap (λ (l : List ℕ). cell_at l 0) (begins_with from (cell_bytes v) 9 p.bytes) ∙ first ∙ cell_read p.kind v p.can in
    p.bytes ∙ ap cell_bytes (sym reads)

-- memory with a value in cell number i: that cell's bytes, and another's
module _ (l : List ℕ) (i : ℕ) (v : Value) (room : i * 9 + 9 ≤ length l) where
  put_bytes : take 9 (drop (i * 9) (with_cell l i v)) ≡ cell_bytes v
  put_bytes =
      let n = length_cell_bytes v in
      let rest = drop (i * 9 + length (cell_bytes v)) l in
      ap (λ (m : List ℕ). take 9 (drop (i * 9) m))
      (overwritten_parts l (i * 9) (cell_bytes v) (omega arith) ∙ append_assoc (take (i * 9) l) (cell_bytes v) rest)
      ∙ ap (take 9) (drop_at (take (i * 9) l) (cell_bytes v ++ rest) (i * 9) (length-take-le (i * 9) l (omega arith)))
      ∙ take_at (cell_bytes v) rest 9 n

  other_bytes : (j : ℕ) → j * 9 + 9 ≤ length l → (i ≡ j → ⊥) → take 9 (drop (j * 9) (with_cell l i v)) ≡ take 9 (drop (j * 9) l)
  other_bytes j inside d =
      let n = length_with_cell l i v in
      same_run 9 (j * 9) (with_cell l i v) l (omega arith) inside (λ k p q. cell_outside l i v k (side k p q (ltb j i) refl))
    where
      side : (k : ℕ) → j * 9 ≤ k → k < j * 9 + 9 → (b : Bool) → ltb j i ≡ b → (k < i * 9) ⊎ (i * 9 + 9 ≤ k)
      side k p q true e = let h = ltb-true j i e in inl (omega arith)
      side k p q false e = let h = ltb-false j i e in inr (omega arith)

-- a byte behind the cells changes none of them
stamped_bytes : (l : List ℕ) (j at stamp : ℕ) → j * 9 + 9 ≤ at → j * 9 + 9 ≤ length l → take 9 (drop (j * 9) (set l at stamp)) ≡ take 9 (drop (j * 9) l)
stamped_bytes l j at stamp h inside =
    let n = length-set l at stamp in
    same_run 9 (j * 9) (set l at stamp) l (omega arith) inside (λ k p q. get_or-set_other l at k stamp 0 (λ z. omega arith))

-- after a write, to this cell or to another
module _ (area : List ℕ) (i priority : ℕ) (v : Value) (k : Kind) (t : T (storable k v)) (low : i < 384) (room : 3840 ≤ length area) (j : ℕ)
    (few : j < 384) (p : Neat area j) where
  stamped : take 9 (drop (j * 9) (set (with_cell area i v) (3456 + i) (priority + 1))) ≡ take 9 (drop (j * 9) (with_cell area i v))
  stamped =
      let n = length_with_cell area i v in
      stamped_bytes (with_cell area i v) j (3456 + i) (priority + 1) (omega arith) (omega arith)

  made_neat : (b : Bool) → eqb i j ≡ b → Neat (set (with_cell area i v) (3456 + i) (priority + 1)) j
  made_neat true e =
      let z : i ≡ j = eqb-true i j e in
      record {
        kind = k;
        value = v;
        can = t;
        bytes = stamped ∙ ap (λ (n : ℕ). take 9 (drop (n * 9) (with_cell area i v))) (sym z) ∙ put_bytes area i v (omega arith);
      }
  made_neat false e = record {
    kind = p.kind;
    value = p.value;
    can = p.can;
    bytes = stamped ∙ other_bytes area i v (omega arith) j (omega arith) (eqb-false i j e) ∙ p.bytes;
  }

  neat_pended : Neat (pended 3456 area i priority v) j
  neat_pended = go (ltb priority (get_or area (3456 + i) 0)) refl
    where
      go : (b : Bool) → ltb priority (get_or area (3456 + i) 0) ≡ b → Neat (pended 3456 area i priority v) j
      go true e = rw (pended_late 3456 area i priority v e) p
      go false e = rw (pended_made 3456 area i priority v e) (made_neat (eqb i j) refl)

pub neat_puts : (f : File) → WithinCounts f → (j : ℕ) → j < 384 → (ws : List Write) → All (SoundWrite f) ws → (area : List ℕ) → 3840 ≤ length area
    → Neat area j → Neat (puts area ws) j
unfolding puts
neat_puts f h j few [] a area r p = p
neat_puts f h j few (w ∷ ws) a area r p =
    let s = a w (Memᴰ.head refl) in
    let i = w.entity * 12 + w.member in
    let low : i < 384 = omega (arith, write_entity f h w s, write_member f h w s) in
    neat_puts f h j few ws (λ u n. a u (Memᴰ.tail n)) (pended 3456 area i w.priority w.value)
    (subst (λ (n : ℕ). 3840 ≤ n) (sym (length_pended 3456 area i w.priority w.value)) r)
    (neat_pended area i w.priority w.value s.0.kind s.2 low r j few p)
