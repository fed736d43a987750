-- Columns and inputs that a bench reads: only its events have readings, each of its cell's kind, and only its entities presence.
use Prim.Native.Nat.{ℕ}
use mathlib.Core.Path.{◌≡◌, refl, sym, ap, ap₂, ◌∙◌, subst}
use mathlib.Core.Bool.{Bool, true, false, ◌&&◌, cond}
use mathlib.Core.List.Memᴰ
use mathlib.Core.List.{List, [], ◌∷◌}
use mathlib.Core.Option.{Option, none, some}
use lib.Dec.{T, leb, eqb, eqb→eq}
use lib.Ieee.Fits.{and_l}
use lib.ListN.{length, get_elem?}
use Rattle.values.specs.declared.Value.{Value}
use Rattle.std.specs.Prelude.{Some, None, Ok, Err}
use Rattle.values.specs.definitions.Storable.{storable}
use Rattle.values.specs.definitions.Bytes.{same_bytes}
use Rattle.values.specs.definitions.Forms.{Field, event_field, presence_field}
use Rattle.values.proofs.laws.StorableLaws.{event_field_storable}
use Rattle.text.specs.definitions.Syntax.{Sort, attribute, event, action, Member, Entity, File}
use Rattle.text.proofs.laws.ListLaws.{some_injective, none_some, All, all_none, all_cons}
use Rattle.checking.specs.definitions.Scope.{Indexed, entity_named, member_of}
use Rattle.checking.proofs.laws.LookUpLaws.{entity_found}
use Rattle.cycles.specs.definitions.Spots.{Spot, spot_of}
use Rattle.cycles.specs.definitions.Fields.{split, fields}
use Rattle.cycles.specs.definitions.Header.{
  Column,
  presence_column,
  event_column,
  column_of_entity,
  column,
  is_member_number,
  is_presence,
  is_column_among,
  column_before,
  columns,
  columns_after_n,
  columns_after_by,
  header,
}
use Rattle.cycles.specs.definitions.Record.{Input, field_in, input_before, inputs_in, as_truth, presence_in, given_in, inputs_of}
use Rattle.cycles.specs.definitions.SoundStores.{SoundInputs}
use Rattle.cycles.proofs.laws.SpotLaws.{Stands, spot_stands}

-- ---- columns

-- a column of an entity of the bench, and of an event of it
pub record SoundColumn (f : File) (c : Column) : Type 0 where
  pub of_entity : (x : Entity) × (get_elem? f.entities c.entity ≡ some x)
  pub of_event : (p : Spot) → c.event ≡ some p → (member_of f c.entity p.member ≡ some p.what) × (p.what.sort ≡ event)

module _ (f : File) where
  presence_sound : (n : List ℕ) (o : Option (Indexed Entity)) → entity_named f n ≡ o → {c : Column} → presence_column o ≡ some c → SoundColumn f c
  unfolding presence_column
  presence_sound n none q h = absurd (none_some h)
  presence_sound n (some e) q h =
      subst (SoundColumn f) (some_injective h) (record {
        of_entity = (e.item, entity_found f n q);
        of_event = λ p g. absurd (none_some g);
      })

  event_sound : (x : Entity) (p : Spot) → get_elem? f.entities p.entity ≡ some x → Stands f p → {c : Column} → event_column (some p) ≡ some c
      → SoundColumn f c
  unfolding event_column
  event_sound x p g s {c} h = by_sort p.what.sort refl h
    where
      by_sort : (t : Sort) → p.what.sort ≡ t → (elim t [
        | attribute ↦ none
        | event ↦ some (record { entity = p.entity; event = some p })
        | action ↦ none
      ]) ≡ some c → SoundColumn f c
      by_sort attribute q h = absurd (none_some h)
      by_sort action q h = absurd (none_some h)
      by_sort event q h =
          subst (SoundColumn f) (some_injective h) (record {
            of_entity = (x, g);
            of_event = λ r e. subst (λ (r : Spot). (member_of f p.entity r.member ≡ some r.what) × (r.what.sort ≡ event)) (some_injective e) (s, q);
          })

  entity_column_sound : (n m : List ℕ) (o : Option (Indexed Entity)) → entity_named f n ≡ o → {c : Column} → column_of_entity f o m ≡ some c → SoundColumn f c
  unfolding column_of_entity
  entity_column_sound n m none q h = absurd (none_some h)
  entity_column_sound n m (some e) q {c} h = by_spot (spot_of f e.number m) refl h
    where
      by_spot : (o : Option Spot) → spot_of f e.number m ≡ o → event_column o ≡ some c → SoundColumn f c
      by_spot none g h = absurd (none_some h)
      by_spot (some p) g h =
          let (i, s) = spot_stands f e.number m g in
          event_sound e.item p (ap (get_elem? f.entities) i ∙ entity_found f n q) s h

  pub column_sound : (ps : List (List ℕ)) {c : Column} → column f ps ≡ some c → SoundColumn f c
  unfolding column
  column_sound [] h = absurd (none_some h)
  column_sound (n ∷ []) h = presence_sound n (entity_named f n) refl h
  column_sound (n ∷ m ∷ []) h = entity_column_sound n m (entity_named f n) refl h
  column_sound (n ∷ m ∷ y ∷ ys) h = absurd (none_some h)

  pub columns_sound : (xs : List (List ℕ)) {cs : List Column} → columns f xs ≡ some cs → All (SoundColumn f) cs
  unfolding columns
  columns_sound [] h = subst (All (SoundColumn f)) (some_injective h) (all_none (SoundColumn f))
  columns_sound (x ∷ xs) {cs} h = by_column (column f (split 46 x)) (columns f xs) (λ c. column_sound (split 46 x)) (λ ds. columns_sound xs) h
    where
      by_test : (b : Bool) (c : Column) (ds : List Column) → SoundColumn f c → All (SoundColumn f) ds → cond b none (some (c ∷ ds)) ≡ some cs
          → All (SoundColumn f) cs
      by_test true c ds s t h = absurd (none_some h)
      by_test false c ds s t h = subst (All (SoundColumn f)) (some_injective h) (all_cons (SoundColumn f) s t)

      by_column : (o : Option Column) (p : Option (List Column)) → ((c : Column) → o ≡ some c → SoundColumn f c)
          → ((ds : List Column) → p ≡ some ds → All (SoundColumn f) ds) → column_before o p ≡ some cs → All (SoundColumn f) cs
      by_column none p k j h = absurd (none_some h)
      by_column (some c) none k j h = absurd (none_some h)
      by_column (some c) (some ds) k j h = by_test (is_column_among c ds) c ds (k c refl) (j ds refl) h

  pub header_sound : (bs : List ℕ) {cs : List Column} → header f bs ≡ some cs → All (SoundColumn f) cs
  unfolding header
  header_sound bs {cs} h = by_length (leb (length bs) 32768) h
    where
      after_n : (xs : List (List ℕ)) → columns_after_n f xs ≡ some cs → All (SoundColumn f) cs
      after_n [] h = absurd (none_some h)
      after_n (x ∷ xs) h = by_n (same_bytes x (110 ∷ [])) h
        where
          by_n : (b : Bool) → cond b (columns f xs) none ≡ some cs → All (SoundColumn f) cs
          by_n true h = columns_sound xs h
          by_n false h = absurd (none_some h)

      after_by : (xs : List (List ℕ)) → columns_after_by f xs ≡ some cs → All (SoundColumn f) cs
      after_by [] h = absurd (none_some h)
      after_by (x ∷ xs) h = by_by (same_bytes x (98 ∷ 121 ∷ [])) h
        where
          by_by : (b : Bool) → cond b (columns_after_n f xs) none ≡ some cs → All (SoundColumn f) cs
          by_by true h = after_n xs h
          by_by false h = absurd (none_some h)

      by_length : (b : Bool) → (elim b [ true ↦ columns_after_by f (fields bs) | false ↦ none ]) ≡ some cs → All (SoundColumn f) cs
      by_length true h = after_by (fields bs) h
      by_length false h = absurd (none_some h)

-- ---- inputs

-- what a record says of an event is of its kind
pub record SoundInput (f : File) (i : Input) : Type 0 where
  pub in_column : SoundColumn f i.column
  pub says : (p : Spot) (v : Value) → i.column.event ≡ some p → i.says ≡ some v → T (storable p.what.kind v)

module _ (f : File) where
  field_sound : (c : Column) (x : List ℕ) (v : Value) → field_in c x ≡ Ok (Some v) → (p : Spot) → c.event ≡ some p → T (storable p.what.kind v)
  unfolding field_in
  field_sound c x v h p e = by_event c.event e h
    where
      by_event : (o : Option Spot) → o ≡ some p → ◌≡◌ {A = Field} (elim o [ none ↦ presence_field x | some q ↦ event_field q.what.kind x ]) (Ok (Some v))
          → T (storable p.what.kind v)
      by_event none e h = absurd (none_some e)
      by_event (some q) e h = rw (some_injective e) at (event_field_storable q.what.kind x v h)

  pub inputs_sound : (cs : List Column) (xs : List (List ℕ)) {is : List Input} → All (SoundColumn f) cs → inputs_in cs xs ≡ some is → All (SoundInput f) is
  unfolding inputs_in
  inputs_sound [] xs h g = subst (All (SoundInput f)) (some_injective g) (all_none (SoundInput f))
  inputs_sound (c ∷ cs) [] h g = subst (All (SoundInput f)) (some_injective g) (all_none (SoundInput f))
  inputs_sound (c ∷ cs) (x ∷ xs) {is} h g =
      by_field (field_in c x) (inputs_in cs xs) refl (λ js. inputs_sound cs xs (λ d m. h d (Memᴰ.tail m))) g
    where
      own : SoundColumn f c
      own = h c (Memᴰ.head refl)

      by_field : (y : Field) (o : Option (List Input)) → field_in c x ≡ y → ((js : List Input) → o ≡ some js → All (SoundInput f) js)
          → input_before c y o ≡ some is → All (SoundInput f) is
      by_field (Err e) o q k g = absurd (none_some g)
      by_field (Ok None) none q k g = absurd (none_some g)
      by_field (Ok None) (some js) q k g =
          subst (All (SoundInput f)) (some_injective g) (all_cons (SoundInput f)
          (record { in_column = own; says = λ p v e s. absurd (none_some s) }) (k js refl))
      by_field (Ok (Some v)) none q k g = absurd (none_some g)
      by_field (Ok (Some v)) (some js) q k g =
          subst (All (SoundInput f)) (some_injective g) (all_cons (SoundInput f)
          (record { in_column = own; says = λ p w e s. let z : v ≡ w = some_injective s in rw z at (field_sound c x v q p e) }) (k js refl))

  given_sound : (is : List Input) → All (SoundInput f) is → (e m : ℕ) (v : Value) → given_in is e m ≡ some v
      → (x : Member) × (member_of f e m ≡ some x) × (x.sort ≡ event) × T (storable x.kind v)
  unfolding given_in
  given_sound [] h e m v g = absurd (none_some g)
  given_sound (i ∷ is) h e m v g =
      by_test (eqb i.column.entity e) i.column.event refl (eqb→eq i.column.entity e) (given_sound is (λ j n. h j (Memᴰ.tail n)) e m v) g
    where
      own : SoundInput f i
      own = h i (Memᴰ.head refl)

      FoundCell : Type 0
      FoundCell = (x : Member) × (member_of f e m ≡ some x) × (x.sort ≡ event) × T (storable x.kind v)

      at_spot : (p : Spot) → i.column.event ≡ some p → i.column.entity ≡ e → (t : Bool) → (T t → p.member ≡ m) → (given_in is e m ≡ some v → FoundCell)
          → cond t i.says (given_in is e m) ≡ some v → FoundCell
      at_spot p q a false k r g = r g
      at_spot p q a true k r g =
          let (s, t) = own.in_column.of_event p q in
          (p.what, ap₂ (member_of f) (sym a) (sym (k tt)) ∙ s, t, own.says p v q g)

      by_test : (b : Bool) (o : Option Spot) → i.column.event ≡ o → (T b → i.column.entity ≡ e) → (given_in is e m ≡ some v → FoundCell)
          → cond (b && is_member_number m o) i.says (given_in is e m) ≡ some v → FoundCell
      by_test false o q a r g = r g
      by_test true none q a r g = r g
      by_test true (some p) q a r g = at_spot p q (a tt) (eqb p.member m) (eqb→eq p.member m) r g

  no_presence : (is : List Input) → All (SoundInput f) is → (e : ℕ) → get_elem? f.entities e ≡ none → presence_in is e ≡ none
  unfolding presence_in
  no_presence [] h e g = refl
  no_presence (i ∷ is) h e g =
      by_test (eqb i.column.entity e && is_presence i.column.event)
      (λ t. eqb→eq i.column.entity e (and_l (eqb i.column.entity e) (is_presence i.column.event) t))
      (no_presence is (λ j n. h j (Memᴰ.tail n)) e g)
    where
      by_test : (b : Bool) → (T b → i.column.entity ≡ e) → presence_in is e ≡ none → cond b (as_truth i.says) (presence_in is e) ≡ none
      by_test false k r = r
      by_test true k r =
          let (x, q) = (h i (Memᴰ.head refl)).in_column.of_entity in
          absurd (none_some (sym g ∙ ap (get_elem? f.entities) (sym (k tt)) ∙ q))

  pub all_inputs_sound : (is : List Input) → All (SoundInput f) is → SoundInputs f (inputs_of is)
  unfolding inputs_of
  all_inputs_sound is h = record { of_kind = given_sound is h; no_entity = no_presence is h }
