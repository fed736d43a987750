-- What is read of chosen cells, one after another in the order of the text: their numbers stand in memory with the last one first.
use Prim.Native.Nat.{ℕ, zero, suc, ◌+◌, ◌-◌, ◌/◌, ◌%◌, ◌≤◌, ◌<◌}
use native.Mathlib.Omega.{arith}
use mathlib.Core.Path.{◌≡◌, refl, sym, ap, ap₂, ◌∙◌, subst}
use mathlib.Core.Bool.{Bool, true, false}
use mathlib.Core.List.{List, [], ◌∷◌, map, Memᴰ}
use mathlib.Core.Option.{some}
use lib.Dec.{eqb}
use lib.ListN.{length, get_or, set, take, drop, length-set, length-drop}
use lib.Seq.{drop-drop, get_or-set_same, get_or-set_other}
use borrow.Author.Tests.{eqb-true, eqb-false}
use Rattle.values.specs.declared.Value.{Value}
use Rattle.values.specs.declared.Value.TheVariants.{Unset}
use Rattle.values.specs.declared.Kind.{Kind}
use Rattle.values.specs.declared.Kind.TheVariants.{Wholes, Bools, Reals}
use Rattle.text.specs.definitions.Syntax.{File}
use Rattle.checking.specs.definitions.Scope.{member_of}
use Rattle.checking.specs.inner_contracts.Directory.{kind_class}
use Rattle.cycles.specs.definitions.Spots.{Spot}
use Rattle.cycles.specs.definitions.Reference.{read_spot}
use Rattle.cycles.specs.definitions.Planes.{entity_count, decode_store, decode_stores}
use Rattle.cycles.specs.inner_contracts.TotalMachine.{value_at}
use Rattle.cycles.specs.inner_contracts.Evaluation.{Locates, located, Stored, CellRead}
use Rattle.cycles.specs.inner_contracts.CellTokens.{CellToken}
use Rattle.cycles.specs.inner_contracts.HeaderReads.{backwards}
use Rattle.cycles.proofs.laws.CellNumbers.{cell_entity, cell_member}
use Rattle.cycles.proofs.laws.CellTokenLaws.{member_told}
use Rattle.cycles.proofs.laws.PlaneTestLaws.{behind, behind_all}
use Rattle.cycles.proofs.laws.StoredLaws.{decoded_stored}
use Rattle.days.specs.definitions.Chosen.{is_real_kind, is_real_spot}
use Rattle.days.specs.inner_contracts.Choosing.{spot_number, RealRead, SpotValue, RealsRead, CellsRead}
use Rattle.senders.specs.definitions.Sender.{State}
use Rattle.senders.specs.definitions.StateImage.{STATE, decode, state_of}
use Rattle.senders.proofs.laws.StateLaws.{is_decoded}
use Rattle.days.proofs.laws.SpotNumbers.{spot_entity, spot_member}
use Rattle.days.proofs.laws.ChoosingLaws.{chosen_stand}

-- ---- one after another

-- the first k items are read of the last k of `count` spots, the last one first
pub record BackRead {A : Type 0} (reads : ℕ → A → Type 0) (other : A) (spots : List ℕ) (count k : ℕ) (r : List A) : Type 0 where
  pub size : length r ≡ 5
  pub each : (i j : ℕ) → j < k → i + j + 1 ≡ count → reads (get_or spots i 0) (get_or r j other)

module _ {A : Type 0} (reads : ℕ → A → Type 0) (other : A) (spots : List ℕ) (count : ℕ) where
  pub back_begins : (r : List A) → length r ≡ 5 → BackRead reads other spots count 0 r
  back_begins r n = record { size = n; each = λ i j h e. absurd (omega arith) }

  pub back_next : {k : ℕ} {r : List A} → BackRead reads other spots count k r → k < count → count ≤ 5 → {v : A}
      → reads (get_or spots (count - 1 - k) 0) v → BackRead reads other spots count (k + 1) (set r k v)
  back_next {k} {r} b h l {v} q = record { size = length-set r k v ∙ b.size; each = λ i j p e. go i j p e (eqb j k) refl }
    where
      go : (i j : ℕ) → j < k + 1 → i + j + 1 ≡ count → (t : Bool) → eqb j k ≡ t → reads (get_or spots i 0) (get_or (set r k v) j other)
      go i j p e true t =
          let m = eqb-true j k t in
          let n : i ≡ count - 1 - k = omega arith in
          let s = b.size in
          rw (m, n, get_or-set_same r k v other (omega arith)) q
      go i j p e false t =
          let m : j ≡ k → ⊥ = eqb-false j k t in
          rw (get_or-set_other r k j v other m) (b.each i j (omega arith) e)

-- items that are each what the spot of a spot says are what the spots say, one after another
module _ {A : Type 0} (other : A) (said : Spot → A) (spots : List ℕ) where
  said_in_turn : (ps : List Spot) (count : ℕ) (r : List A) → count ≤ length r → map spot_number ps ≡ backwards count spots
      → ((i j : ℕ) (p : Spot) → Memᴰ p ps → i + j + 1 ≡ count → spot_number p ≡ get_or spots i 0 → get_or r j other ≡ said p)
      → take count r ≡ map said ps
  unfolding backwards
  said_in_turn [] zero r l e h = refl
  said_in_turn [] (suc c) r l e h = let z : ◌≡◌ {A = ℕ} 0 1 = cc in absurd (omega arith)
  said_in_turn (p ∷ ps) zero r l e h = let z : ◌≡◌ {A = ℕ} 0 1 = cc in absurd (omega arith)
  said_in_turn (p ∷ ps) (suc c) [] l e h = absurd (omega arith)
  said_in_turn (p ∷ ps) (suc c) (x ∷ r) l e h =
      let first : spot_number p ≡ get_or spots c 0 = cc in
      let later : map spot_number ps ≡ backwards c spots = cc in
      ap₂ ◌∷◌ (h c 0 p (Memᴰ.head refl) (omega arith) first)
      (said_in_turn ps c r (omega arith) later (λ i j q m n k. h i (suc j) q (Memᴰ.tail m) (omega arith) k))

-- ---- a spot's entity and member

module _ (p : Spot) (m : p.member < 12) {spot : ℕ} (e : spot_number p ≡ spot) where
  entity_of_number : spot / 12 ≡ p.entity
  unfolding spot_number
  entity_of_number = rw (← e) (cell_entity p.entity p.member m)

  member_of_number : spot % 12 ≡ p.member
  unfolding spot_number
  member_of_number = rw (← e) (cell_member p.entity p.member m)

-- ---- real cells

real_class : (k : Kind) → eqb (kind_class k) 23 ≡ is_real_kind k
unfolding kind_class is_real_kind
real_class Wholes = refl
real_class Bools = refl
real_class Reals = refl

pub real_by_class : {classes d : List ℕ} {spot at c : ℕ} → CellToken d spot at → c ≡ get_or classes (at + 3) 0
    → RealRead classes d spot (eqb c 23)
unfolding is_real_spot
real_by_class {classes} {d} {spot} {at} {c} t q = record {
  is = λ text offsets lengths w few p s e.
      let m = spot_member w.file few p s in
      let z : member_of w.file (spot / 12) (spot % 12) ≡ some p.what = rw (entity_of_number p m e, member_of_number p m e) s in
      let x = member_told (t.is text classes offsets lengths w few) z in
      ap (λ (n : ℕ). eqb n 23) (q ∙ x.kind) ∙ real_class p.what.kind;
}

pub reals_read : {classes d spots : List ℕ} {count k : ℕ} {r : List Bool} → count ≤ 5 → count ≤ k
    → BackRead (RealRead classes d) false spots count k r
    → RealsRead classes d spots count r
reals_read {spots = spots} {count} {r = r} l m b = record {
  is = λ text offsets lengths w few cells ps h e.
      let n = b.size in
      said_in_turn false is_real_spot spots ps count r (omega arith) e
      (λ i j p a k q. (b.each i j (omega arith) k).is text offsets lengths w few p (chosen_stand w.file cells h p a) q);
}

-- ---- what cells read

pub spot_valued : {flags cells : List ℕ} {spot : ℕ} {v : Value} → CellRead flags cells (spot / 12) (spot % 12) v → SpotValue flags cells spot v
unfolding value_at
spot_valued {spot = spot} c = record {
  is = λ count s h p b m e.
      c.reads count s (some p) h
      (subst (λ (i : ℕ). Locates count (some p) i (spot % 12)) (sym (entity_of_number p m e))
      (subst (λ (i : ℕ). Locates count (some p) p.entity i) (sym (member_of_number p m e)) (located p.what refl b m)));
}

-- the store now of a state in memory
state_now : (print : ℕ) (f : File) (m : List ℕ) {s : State} → state_of print f m ≡ some s → s.stores.now ≡ decode_store (entity_count f) (drop 5 m)
unfolding decode decode_stores
state_now print f m h = ap (λ (t : State). t.stores.now) (is_decoded print f m h)

-- its parts in the memory of a bench of n entities
now_stored : (print : ℕ) (f : File) (state : List ℕ) (n : ℕ) → n ≡ entity_count f → n ≤ 32 → STATE ≤ length state
    → {s : State} → state_of print f state ≡ some s
    → Stored (entity_count f) (behind 5 state) (behind (5 + n) state) s.stores.now
now_stored print f state n e l z h =
    let k = length-drop 5 state in
    rw (behind_all 5 state, behind_all (5 + n) state, state_now print f state h, ← e, ← drop-drop n 5 state)
    (decoded_stored n (drop 5 state) (omega arith))

module _ {d state spots : List ℕ} {count n : ℕ} (q : n ≡ get_or d 1 0) where
  -- no file within the counts has so many entities
  pub cells_impossible : 32 < n → (r : List Value) → CellsRead d state spots count r
  cells_impossible l r = record {
    is = λ text classes offsets lengths w few print s h cells ps g e. let k = w.directory.entities in absurd (omega (arith, few.entities));
  }

  pub cells_read : {k : ℕ} {r : List Value} → count ≤ 5 → count ≤ k → n ≤ 32 → STATE ≤ length state
      → BackRead (SpotValue (behind 5 state) (behind (5 + n) state)) Unset spots count k r → CellsRead d state spots count r
  cells_read {r = r} l v k z b = record {
    is = λ text classes offsets lengths w few print s h cells ps g e.
        let f = w.file in
        let u = b.size in
        said_in_turn Unset (read_spot s.stores.now) spots ps count r (omega arith) e
        (λ i j p m a t.
        let x = chosen_stand f cells g p m in
        let there = now_stored print f state n (q ∙ w.directory.entities) k z h in
        (b.each i j (omega arith) a).is (entity_count f) s.stores.now there p (spot_entity f few p x) (spot_member f few p x) t);
  }
