-- A line's inputs and a cycle's writes keep a store sound, and leave attributes alone.
use Prim.Native.Nat.{ℕ}
use native.Mathlib.Omega.{arith}
use mathlib.Core.Path.{◌≡◌, refl, sym, ap, ap₂, ◌∙◌}
use mathlib.Core.Bool.{Bool, true, false, not, ◌&&◌, cond}
use mathlib.Core.List.{List}
use mathlib.Core.Option.{Option, none, some, get_or}
use lib.Dec.{T, eqb, eqb→eq}
use lib.Ieee.Fits.{and_l, and_r}
use Rattle.values.specs.declared.Value.{Value}
use Rattle.values.specs.declared.Value.TheVariants.{Unset}
use Rattle.values.specs.definitions.Storable.{storable}
use Rattle.values.proofs.laws.StorableLaws.{unset_storable}
use Rattle.text.specs.definitions.Syntax.{Sort, attribute, event, Member, File}
use Rattle.text.proofs.laws.ListLaws.{some_injective, none_some, All}
use Rattle.checking.specs.definitions.Scope.{member_of, is_attribute, is_action}
use Rattle.writes.specs.definitions.Writes.{Write, is_to, standing, written_value}
use Rattle.writes.proofs.laws.StandingLaws.{Holds, standing_holds}
use Rattle.cycles.specs.definitions.Store.{Store, Inputs}
use Rattle.cycles.specs.definitions.Cycle.{is_sort, leaves, seen, stored}
use Rattle.cycles.specs.definitions.SoundStores.{SoundStore, SoundInputs}
use Rattle.cycles.proofs.laws.SoundEvaluation.{SoundWrite}

-- ---- inputs

module _ (f : File) (s : Store) (i : Inputs) (sound : SoundStore f s) (taken : SoundInputs f i) where
  -- what the cell has without a reading
  abbrev unread : ℕ → ℕ → Value
  unread e m = cond (leaves s i e && not (is_sort is_attribute (member_of f e m))) Unset (s.cell e m)

  unread_storable : (e m : ℕ) (x : Member) → member_of f e m ≡ some x → (b : Bool) → T (storable x.kind (cond b Unset (s.cell e m)))
  unread_storable e m x q true = unset_storable x.kind
  unread_storable e m x q false = sound.of_kind e m x q

  unread_unset : (e m : ℕ) → member_of f e m ≡ none → (b : Bool) → cond b Unset (s.cell e m) ≡ Unset
  unread_unset e m q true = refl
  unread_unset e m q false = sound.no_cell e m q

  pub seen_sound : SoundStore f (seen f s i)
  unfolding seen
  seen_sound = record {
    of_kind = λ e m x q. by_given e m x q (i.given e m) refl;
    no_cell = λ e m q. no_given e m q (i.given e m) refl;
    no_entity = λ e q. rw (taken.no_entity e q) (sound.no_entity e q);
  }
    where
      by_given : (e m : ℕ) (x : Member) → member_of f e m ≡ some x → (o : Option Value) → i.given e m ≡ o → T (storable x.kind (get_or o (unread e m)))
      by_given e m x q none g = unread_storable e m x q (leaves s i e && not (is_sort is_attribute (member_of f e m)))
      by_given e m x q (some v) g = let (y, p, t, h) = taken.of_kind e m v g in let z : y ≡ x = some_injective (sym p ∙ q) in rw z at h

      no_given : (e m : ℕ) → member_of f e m ≡ none → (o : Option Value) → i.given e m ≡ o → get_or o (unread e m) ≡ Unset
      no_given e m q none g = unread_unset e m q (leaves s i e && not (is_sort is_attribute (member_of f e m)))
      no_given e m q (some v) g = let (y, p, t, h) = taken.of_kind e m v g in absurd (none_some (sym q ∙ p))

  -- an attribute has no reading, and stays where its entity leaves
  pub seen_attribute : (e m : ℕ) (x : Member) → member_of f e m ≡ some x → T (is_attribute x.sort) → (seen f s i).cell e m ≡ s.cell e m
  unfolding seen is_attribute
  seen_attribute e m x q t = by_given (i.given e m) refl
    where
      no_event : (y : Sort) → y ≡ event → T (is_attribute y) → ⊥
      no_event attribute h t = let z : ◌≡◌ {A = ℕ} 0 1 = cc in omega arith
      no_event event h t = elim t [ ]
      no_event Rattle.text.specs.definitions.Syntax.action h t = elim t [ ]

      by_sort : (a b : Bool) → T b → cond (a && not b) Unset (s.cell e m) ≡ s.cell e m
      by_sort true true h = refl
      by_sort false true h = refl
      by_sort false false h = elim h [ ]
      by_sort true false h = elim h [ ]

      by_given : (o : Option Value) → i.given e m ≡ o → get_or o (unread e m) ≡ s.cell e m
      by_given none g = rw q (by_sort (leaves s i e) (is_attribute x.sort) t)
      by_given (some v) g =
          let (y, p, u, h) = taken.of_kind e m v g in
          let z : y ≡ x = some_injective (sym p ∙ q) in
          absurd (no_event x.sort (ap (λ (w : Member). w.sort) (sym z) ∙ u) t)

-- ---- writes

module _ (f : File) (e m : ℕ) (x : Member) (q : member_of f e m ≡ some x) where
  abbrev Fits : Write → Type 0
  Fits w = T (storable x.kind w.value)

  -- a write to the cell is of the cell's kind
  write_fits : (w : Write) → SoundWrite f w → T (is_to e m w) → Fits w
  unfolding is_to
  write_fits w (y, p, h) t =
      let a = eqb→eq w.entity e (and_l (eqb w.entity e) (eqb w.member m) t) in
      let b = eqb→eq w.member m (and_r (eqb w.entity e) (eqb w.member m) t) in
      let z : y ≡ x = some_injective (sym p ∙ ap₂ (member_of f) a b ∙ q) in
      rw z at h

  held_storable : (o : Option Write) → Holds Fits o → T (storable x.kind (written_value o))
  unfolding written_value
  held_storable none h = unset_storable x.kind
  held_storable (some w) h = h

  written_storable : (ws : List Write) → All (SoundWrite f) ws → T (storable x.kind (written_value (standing e m ws)))
  written_storable ws h = held_storable (standing e m ws) (standing_holds Fits e m ws (λ w n. write_fits w (h w n)))

module _ (f : File) (s : Store) (ws : List Write) where
  pub stored_sound : SoundStore f s → All (SoundWrite f) ws → SoundStore f (stored f s ws)
  unfolding stored
  stored_sound sound h = record {
    of_kind = λ e m x q. by_sort e m x q (is_sort is_action (member_of f e m));
    no_cell = λ e m q. rw q (sound.no_cell e m q);
    no_entity = sound.no_entity;
  }
    where
      by_sort : (e m : ℕ) (x : Member) → member_of f e m ≡ some x → (b : Bool) → T (storable x.kind (cond b (written_value (standing e m ws)) (s.cell e m)))
      by_sort e m x q true = written_storable f e m x q ws h
      by_sort e m x q false = sound.of_kind e m x q

  pub stored_attribute : (e m : ℕ) (x : Member) → member_of f e m ≡ some x → T (is_attribute x.sort) → (stored f s ws).cell e m ≡ s.cell e m
  unfolding stored is_attribute
  stored_attribute e m x q t = rw q (by_sort x.sort t)
    where
      by_sort : (y : Sort) → T (is_attribute y) → cond (is_action y) (written_value (standing e m ws)) (s.cell e m) ≡ s.cell e m
      by_sort attribute t = refl
      by_sort event t = elim t [ ]
      by_sort Rattle.text.specs.definitions.Syntax.action t = elim t [ ]
