-- An entity that is absent after the line takes no event's reading: the test of a line's inputs, one by one, is a test of every cell, since no
-- column of a header stands twice.
use Prim.Native.Nat.{ℕ, ◌+◌, ◌*◌, ◌/◌, ◌%◌, ◌<◌}
use native.Mathlib.Omega.{arith}
use mathlib.Core.Path.{◌≡◌, refl, sym, ap, ap₂, ◌∙◌, subst}
use mathlib.Core.Bool.{Bool, true, false, not, cond, ◌&&◌, ◌||◌, false≢true}
use mathlib.Core.List.{List, [], ◌∷◌, map, Memᴰ}
use mathlib.Core.Option
use mathlib.Core.Option.{Option, none, some}
use lib.Dec.{T, leb, eqb}
use lib.ListN.{length, get_or, drop}
use borrow.Author.Tests.{lt-ltb, eq-eqb, eqb-true}
use Rattle.values.specs.declared.Value.{Value}
use Rattle.std.specs.Prelude.{Some, None, Ok, Err}
use Rattle.values.specs.definitions.Forms.{Field}
use Rattle.values.specs.definitions.Bytes.{same_bytes}
use Rattle.text.specs.definitions.Syntax.{File}
use Rattle.text.proofs.laws.ListLaws.{some_injective, none_some, All}
use Rattle.checking.specs.inner_contracts.DirectoryReads.{Few}
use Rattle.checking.specs.definitions.Scope.{is_found}
use Rattle.checking.proofs.laws.DirectoryLaws.{number_below}
use Rattle.cycles.specs.definitions.Store.{Store, Inputs}
use Rattle.cycles.specs.definitions.Spots.{Spot, every}
use Rattle.cycles.specs.definitions.Cycle.{present_after}
use Rattle.cycles.specs.definitions.Fields.{split, fields}
use Rattle.cycles.specs.definitions.Header.{
  Column,
  column,
  is_member_number,
  is_presence,
  is_column_among,
  column_before,
  columns,
  columns_after_n,
  columns_after_by,
  header,
}
use Rattle.cycles.specs.definitions.Record.{Sent, record_of, Input, field_in, input_before, inputs_in, given_in, inputs_of, takes_input}
use Rattle.cycles.specs.definitions.Planes.{entity_count, presence_flag, input_bytes, decode_store, each}
use Rattle.cycles.specs.inner_contracts.LineReads.{presence_table, input_table}
use Rattle.cycles.specs.inner_contracts.CycleMemory.{present_by}
use Rattle.cycles.specs.inner_contracts.HeaderReads.{member_or_presence, column_number, is_number_among}
use Rattle.cycles.proofs.laws.WalkLaws.{every_passes}
use Rattle.cycles.proofs.laws.CellNumbers.{cell_entity, cell_member, cell_below}
use Rattle.cycles.proofs.laws.TableLaws.{begins_with, table_flag, table_tag, each_holds, each_at}
use Rattle.cycles.proofs.laws.CellFits.{no_blank}
use Rattle.cycles.proofs.laws.PlaneParts.{presence_piece, presence_sized, input_piece, input_sized}
use Rattle.cycles.proofs.laws.SoundLine.{column_sound, columns_sound, SoundInput}
use Rattle.cycles.proofs.laws.ColumnLaws.{among_numbers, ApartBelow}
use Rattle.cycles.proofs.laws.ColumnReadLaws.{sound_small, sound_number}
use Rattle.cycles.proofs.laws.RecordLaws.{record_fields}
use Rattle.senders.specs.inner_contracts.Judging.{takes_cell, InputsStand}
use Rattle.senders.proofs.laws.TestLaws.{same_truth, every_at, each_same}

-- ---- no column twice

-- the number of an input's column
abbrev pub input_number : Input → ℕ
input_number i = column_number i.column

abbrev pub ApartInputs : List Input → Type 0
ApartInputs is = ApartBelow 416 (map input_number is)

module _ (f : File) (few : Few f) where
  columns_apart : (xs : List (List ℕ)) {cs : List Column} → columns f xs ≡ some cs → ApartBelow 416 (map column_number cs)
  unfolding columns
  columns_apart [] {cs} h = subst (λ (cs : List Column). ApartBelow 416 (map column_number cs)) (some_injective h) tt
  columns_apart (x ∷ xs) {cs} h = by_column (column f (split 46 x)) refl (columns f xs) refl (λ ds e. columns_apart xs e) h
    where
      by_test : (c : Column) (ds : List Column) (b : Bool) → is_column_among c ds ≡ b → column f (split 46 x) ≡ some c → columns f xs ≡ some ds
          → ApartBelow 416 (map column_number ds) → cond b none (some (c ∷ ds)) ≡ some cs → ApartBelow 416 (map column_number cs)
      by_test c ds true t p q a h = absurd (none_some h)
      by_test c ds false t p q a h =
          let s = column_sound f (split 46 x) p in
          let n =
          sym (among_numbers c ds (sound_small f few c s) (λ d m. sound_small f few d (columns_sound f xs q d m))) ∙ t in
          subst (λ (cs : List Column). ApartBelow 416 (map column_number cs)) (some_injective h) (sound_number f few c s, n, a)

      by_column : (o : Option Column) → column f (split 46 x) ≡ o → (r : Option (List Column)) → columns f xs ≡ r
          → ((ds : List Column) → r ≡ some ds → ApartBelow 416 (map column_number ds)) → column_before o r ≡ some cs → ApartBelow 416 (map column_number cs)
      by_column none p r q k h = absurd (none_some h)
      by_column (some c) p none q k h = absurd (none_some h)
      by_column (some c) p (some ds) q k h = by_test c ds (is_column_among c ds) refl p q (k ds refl) h

  pub header_apart : (names : List ℕ) {cs : List Column} → header f names ≡ some cs → ApartBelow 416 (map column_number cs)
  unfolding header columns_after_by columns_after_n
  header_apart names {cs} h = by_length (leb (length names) 32768) h
    where
      after_n : (xs : List (List ℕ)) → columns_after_n f xs ≡ some cs → ApartBelow 416 (map column_number cs)
      after_n [] h = absurd (none_some h)
      after_n (x ∷ xs) h = by_n (same_bytes x (110 ∷ [])) h
        where
          by_n : (b : Bool) → cond b (columns f xs) none ≡ some cs → ApartBelow 416 (map column_number cs)
          by_n true h = columns_apart xs h
          by_n false h = absurd (none_some h)

      after_by : (xs : List (List ℕ)) → columns_after_by f xs ≡ some cs → ApartBelow 416 (map column_number cs)
      after_by [] h = absurd (none_some h)
      after_by (x ∷ xs) h = by_by (same_bytes x (98 ∷ 121 ∷ [])) h
        where
          by_by : (b : Bool) → cond b (columns_after_n f xs) none ≡ some cs → ApartBelow 416 (map column_number cs)
          by_by true h = after_n xs h
          by_by false h = absurd (none_some h)

      by_length : (b : Bool) → (elim b [ true ↦ columns_after_by f (fields names) | false ↦ none ]) ≡ some cs → ApartBelow 416 (map column_number cs)
      by_length true h = after_by (fields names) h
      by_length false h = absurd (none_some h)

  -- an input for each column
  inputs_numbers : (cs : List Column) (xs : List (List ℕ)) {is : List Input} → length xs ≡ length cs → inputs_in cs xs ≡ some is
      → map input_number is ≡ map column_number cs
  unfolding inputs_in
  inputs_numbers [] xs l h = sym (ap (map input_number) (some_injective h))
  inputs_numbers (c ∷ cs) [] l h = absurd (omega arith)
  inputs_numbers (c ∷ cs) (x ∷ xs) {is} l h = go (field_in c x) (inputs_in cs xs) (λ js e. inputs_numbers cs xs (omega arith) e) h
    where
      go : (y : Field) (o : Option (List Input)) → ((js : List Input) → o ≡ some js → map input_number js ≡ map column_number cs) → input_before c y o ≡ some is
          → map input_number is ≡ column_number c ∷ map column_number cs
      go (Err e) o k h = absurd (none_some h)
      go (Ok None) none k h = absurd (none_some h)
      go (Ok None) (some js) k h = sym (ap (map input_number) (some_injective h)) ∙ ap (◌∷◌ (column_number c)) (k js refl)
      go (Ok (Some v)) none k h = absurd (none_some h)
      go (Ok (Some v)) (some js) k h = sym (ap (map input_number) (some_injective h)) ∙ ap (◌∷◌ (column_number c)) (k js refl)

  -- no two inputs of a record have one column
  pub said_apart : (names values : List ℕ) {cs : List Column} → header f names ≡ some cs → {x : Sent} → record_of (length cs) values ≡ some x
      → {is : List Input} → inputs_in cs x.texts ≡ some is → ApartInputs is
  said_apart names values {cs} h {x} r i =
      let e = inputs_numbers cs x.texts (record_fields (length cs) values r).2 i in
      subst (ApartBelow 416) (sym e) (header_apart names h)

-- ---- the reading of a cell

-- what a cell's reading comes from
pub record GivenBy (is : List Input) (e m : ℕ) (v : Value) : Type 0 where
  pub input : Input
  pub inside : Memᴰ input is
  pub of_entity : input.column.entity ≡ e
  pub spot : Spot
  pub of_event : input.column.event ≡ some spot
  pub of_member : spot.member ≡ m
  pub says_so : input.says ≡ some v

pub given_from : (is : List Input) (e m : ℕ) (v : Value) → given_in is e m ≡ some v → GivenBy is e m v
unfolding given_in is_member_number
given_from [] e m v h = absurd (none_some h)
given_from (i ∷ is) e m v h =
    by_entity (eqb i.column.entity e) refl i.column.event refl (λ g. later (given_from is e m v g)) h
  where
    later : GivenBy is e m v → GivenBy (i ∷ is) e m v
    later g = record {
      input = g.input;
      inside = Memᴰ.tail g.inside;
      of_entity = g.of_entity;
      spot = g.spot;
      of_event = g.of_event;
      of_member = g.of_member;
      says_so = g.says_so;
    }

    by_member : (p : Spot) → i.column.entity ≡ e → i.column.event ≡ some p → (b : Bool) → eqb p.member m ≡ b
        → (given_in is e m ≡ some v → GivenBy (i ∷ is) e m v) → cond b i.says (given_in is e m) ≡ some v → GivenBy (i ∷ is) e m v
    by_member p a q true t k h = record {
      input = i;
      inside = Memᴰ.head refl;
      of_entity = a;
      spot = p;
      of_event = q;
      of_member = eqb-true p.member m t;
      says_so = h;
    }
    by_member p a q false t k h = k h

    by_entity : (b : Bool) → eqb i.column.entity e ≡ b → (o : Option Spot) → i.column.event ≡ o → (given_in is e m ≡ some v → GivenBy (i ∷ is) e m v)
        → cond (b && is_member_number m o) i.says (given_in is e m) ≡ some v → GivenBy (i ∷ is) e m v
    by_entity false a o q k h = k h
    by_entity true a none q k h = k h
    by_entity true a (some p) q k h = by_member p (eqb-true i.column.entity e a) q (eqb p.member m) refl k h

number_among_inputs : (is : List Input) (i : Input) → Memᴰ i is → is_number_among (input_number i) (map input_number is) ≡ true
unfolding is_number_among
number_among_inputs (j ∷ js) i (Memᴰ.head e) = rw (eq-eqb (input_number i) (input_number j) (ap input_number e))
number_among_inputs (j ∷ js) i (Memᴰ.tail m) = go (eqb (input_number i) (input_number j)) (number_among_inputs js i m)
  where
    go : (b : Bool) → is_number_among (input_number i) (map input_number js) ≡ true → (b || is_number_among (input_number i) (map input_number js)) ≡ true
    go true h = refl
    go false h = h
number_among_inputs [] i x' = elim x' [ ]

pub given_at : (is : List Input) → ApartInputs is → (i : Input) → Memᴰ i is → (p : Spot) → i.column.event ≡ some p
    → given_in is i.column.entity p.member ≡ i.says
unfolding given_in is_member_number column_number
given_at (j ∷ js) (b, a, h) i (Memᴰ.head e) p q =
    let g : j.column.event ≡ some p = sym (ap (λ (k : Input). k.column.event) e) ∙ q in
    let n : j.column.entity ≡ i.column.entity = sym (ap (λ (k : Input). k.column.entity) e) in
    rw (eq-eqb j.column.entity i.column.entity n, g, eq-eqb p.member p.member refl) (sym (ap (λ (k : Input). k.says) e))
given_at (j ∷ js) (b, a, h) i (Memᴰ.tail m) p q =
    by_entity (eqb j.column.entity i.column.entity) refl j.column.event refl (given_at js h i m p q)
  where
    -- it is not the same column
    other : j.column.entity ≡ i.column.entity → (r : Spot) → j.column.event ≡ some r → r.member ≡ p.member → ⊥
    other n r g k =
        let same : input_number j ≡ input_number i =
        ap₂ (λ (x y : ℕ). x * 13 + y) n (ap member_or_presence g ∙ k ∙ sym (ap member_or_presence q)) in
        false≢true (sym a ∙ ap (λ (x : ℕ). is_number_among x (map input_number js)) same ∙ number_among_inputs js i m)

    by_member : (r : Spot) → j.column.entity ≡ i.column.entity → j.column.event ≡ some r → (t : Bool) → eqb r.member p.member ≡ t
        → given_in js i.column.entity p.member ≡ i.says
        → cond t j.says (given_in js i.column.entity p.member) ≡ i.says
    by_member r n g true t k = absurd (other n r g (eqb-true r.member p.member t))
    by_member r n g false t k = k

    by_entity : (t : Bool) → eqb j.column.entity i.column.entity ≡ t → (o : Option Spot) → j.column.event ≡ o
        → given_in js i.column.entity p.member ≡ i.says
        → cond (t && is_member_number p.member o) j.says (given_in js i.column.entity p.member) ≡ i.says
    by_entity false n o g k = k
    by_entity true n none g k = k
    by_entity true n (some r) g k = by_member r (eqb-true j.column.entity i.column.entity n) g (eqb r.member p.member) refl k
given_at [] _ i x4 p q = elim x4 [ ]

-- ---- the test of every cell

-- a cell has no reading, or its entity is present after the line
abbrev pub cell_takes : Store → Inputs → ℕ → Bool
cell_takes s i k = not (is_found (i.given (k / 12) (k % 12))) || present_after s i (k / 12)

module _ (f : File) (few : Few f) (s : Store) (is : List Input) (apart : ApartInputs is) (sound : All (SoundInput f) is) where
  cells_take : T (every (takes_input s (inputs_of is)) is) → (k : ℕ) → T (cell_takes s (inputs_of is) k)
  unfolding inputs_of takes_input is_found is_presence
  cells_take h k = go (given_in is (k / 12) (k % 12)) refl
    where
      go : (o : Option Value) → given_in is (k / 12) (k % 12) ≡ o → T (not (is_found o) || present_after s (inputs_of is) (k / 12))
      go none e = tt
      go (some v) e =
          let g = given_from is (k / 12) (k % 12) v e in
          let t = every_at (takes_input s (inputs_of is)) is h g.input g.inside in
          rw (g.of_event, g.says_so, g.of_entity) at t

  inputs_take : T (each (cell_takes s (inputs_of is)) 0 (12 * length f.entities)) → All (λ i. T (takes_input s (inputs_of is) i)) is
  unfolding inputs_of takes_input is_found is_presence
  inputs_take h i m = by_event i.column.event refl i.says refl
    where
      by_event : (o : Option Spot) → i.column.event ≡ o → (v : Option Value) → i.says ≡ v
          → T (is_presence o || (not (is_found v) || present_after s (inputs_of is) i.column.entity))
      by_event none q v e = tt
      by_event (some p) q none e = tt
      by_event (some p) q (some v) e =
          let column = (sound i m).in_column in
          let small = sound_small f few i.column column p q in
          let (x, there) = column.of_entity in
          let below = number_below f.entities i.column.entity there in
          let cell = cell_below i.column.entity p.member small (length f.entities) below in
          let t = each_at (cell_takes s (inputs_of is)) 0 (12 * length f.entities) h (i.column.entity * 12 + p.member) (omega arith) (omega arith) in
          let g = given_at is apart i m p q ∙ e in
          rw (cell_entity i.column.entity p.member small, cell_member i.column.entity p.member small, g) at t

  pub takes_each : every (takes_input s (inputs_of is)) is ≡ each (cell_takes s (inputs_of is)) 0 (12 * length f.entities)
  takes_each =
      same_truth (every (takes_input s (inputs_of is)) is) (each (cell_takes s (inputs_of is)) 0 (12 * length f.entities))
      (λ h. each_holds (cell_takes s (inputs_of is)) 0 (12 * length f.entities) (λ k a b. cells_take h k))
      (λ h. every_passes (takes_input s (inputs_of is)) is (inputs_take h))

-- ---- the same test of memory

blank_tag : (o : Option Value) → eqb (get_or (input_bytes o) 0 0) 4 ≡ not (is_found o)
unfolding is_found
blank_tag none = refl
blank_tag (some v) = no_blank v

present_flags : (p : ℕ) (o : Option Bool) → present_by p (get_or (presence_flag o) 0 0) ≡ Option.get_or o (eqb p 1)
present_flags p none = refl
present_flags p (some true) = refl
present_flags p (some false) = refl

-- `present` has the store now, `flags` and `cells` the inputs
module _ (f : File) (present : List ℕ) {flags cells : List ℕ} (i : Inputs) (g : InputsStand f flags cells i) where
  cell_test : (k : ℕ) → k < 12 * (entity_count f) → takes_cell present flags cells k ≡ cell_takes (decode_store (entity_count f) present) i k
  unfolding present_after takes_cell decode_store
  cell_test k h =
      let e : k / 12 < (entity_count f) = omega arith in
      let a : get_or cells (k * 9) 0 ≡ get_or (input_piece i.given k) 0 0 =
      ap (λ (l : List ℕ). get_or l (k * 9) 0) (begins_with cells (input_table i (entity_count f)) (108 * (entity_count f)) g.given)
      ∙ table_tag (input_piece i.given) (input_sized i.given) (12 * (entity_count f)) k (drop (108 * (entity_count f)) cells) h in
      let c : get_or flags (k / 12) 0 ≡ get_or (presence_piece i.presence (k / 12)) 0 0 =
      ap (λ (l : List ℕ). get_or l (k / 12) 0) (begins_with flags (presence_table i (entity_count f)) (entity_count f) g.presence)
      ∙ table_flag (presence_piece i.presence) (presence_sized i.presence) (entity_count f) (k / 12) (drop (entity_count f) flags) e in
      rw (lt-ltb (k / 12) (entity_count f) e)
      (ap₂ ◌||◌
      (ap (λ (t : ℕ). eqb t 4) a ∙ blank_tag (i.given (k / 12) (k % 12)))
      (ap (present_by (get_or present (k / 12) 0)) c ∙ present_flags (get_or present (k / 12) 0) (i.presence (k / 12))))

  pub cells_tested : each (takes_cell present flags cells) 0 (12 * (entity_count f)) ≡ each (cell_takes (decode_store (entity_count f) present) i) 0 (12 * (entity_count f))
  cells_tested = each_same (takes_cell present flags cells) (cell_takes (decode_store (entity_count f) present) i) 0 (12 * (entity_count f)) (λ j a b. cell_test j (omega arith))
