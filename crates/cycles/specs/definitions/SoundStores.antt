-- The stores and readings of a state of a bench: "all attributes set, every value of its cell's kind and every real finite", and nothing where the bench has no cell.
use Rattle.std.specs.Prelude.{ℕ, ◌≡◌, true, false, T}
use Rattle.std.proofs.Math.Option.{none, some}
use Rattle.std.proofs.Math.ListN.{get_elem?}
use Rattle.values.specs.declared.Value.{Value}
use Rattle.values.specs.declared.Value.TheVariants.{Unset}
use Rattle.values.specs.definitions.Value.{is_set}
use Rattle.values.specs.definitions.Storable.{storable}
use Rattle.text.specs.definitions.Syntax.{event, Member, File}
use Rattle.checking.specs.definitions.Scope.{member_of, is_attribute}
use Rattle.cycles.specs.definitions.Store.{Store, Inputs, Stores}

pub record SoundStore (f : File) (s : Store) : Type 0 where
  pub of_kind : (e m : ℕ) (x : Member) → member_of f e m ≡ some x → T (storable x.kind (s.cell e m))
  pub no_cell : (e m : ℕ) → member_of f e m ≡ none → s.cell e m ≡ Unset
  pub no_entity : (e : ℕ) → get_elem? f.entities e ≡ none → s.present e ≡ false

-- only events of the bench have readings, and only its entities presence
pub record SoundInputs (f : File) (i : Inputs) : Type 0 where
  pub of_kind : (e m : ℕ) (v : Value) → i.given e m ≡ some v
      → (x : Member) × (member_of f e m ≡ some x) × (x.sort ≡ event) × T (storable x.kind v)
  pub no_entity : (e : ℕ) → get_elem? f.entities e ≡ none → i.presence e ≡ none

pub record SoundStores (f : File) (s : Stores) : Type 0 where
  pub now : SoundStore f s.now
  pub previous : SoundStore f s.previous
  pub attributes : (e m : ℕ) (x : Member) → member_of f e m ≡ some x → T (is_attribute x.sort) → T (is_set (s.now.cell e m))
  -- and as the rules saw them one cycle before, where their entity was present
  pub attributes_before : (e m : ℕ) (x : Member) → member_of f e m ≡ some x → T (is_attribute x.sort) → s.previous.present e ≡ true
      → T (is_set (s.previous.cell e m))
