-- For an accepted file the reference machine runs a cycle, as the total machine does, from sound stores to sound stores; and fresh ones are sound.
use Prim.Native.Nat.{ℕ}
use mathlib.Core.Path.{◌≡◌, refl, sym, ◌∙◌, subst}
use mathlib.Core.List.{List, Memᴰ}
use mathlib.Core.Option.{Option, none, some}
use lib.Dec.{T}
use lib.Ieee.Bits.{is_true}
use lib.Ieee.Fits.{and_i}
use lib.ListN.{length}
use Rattle.values.specs.declared.Value.{Value}
use Rattle.values.specs.declared.Kind.{Kind}
use Rattle.values.specs.definitions.Storable.{storable}
use Rattle.values.proofs.laws.StorableLaws.{storable_of_kind}
use Rattle.text.specs.definitions.Syntax.{Member, Entity, File}
use Rattle.text.proofs.laws.ListLaws.{some_injective}
use Rattle.text.proofs.laws.NumberLaws.{parsed_small}
use Rattle.checking.specs.definitions.Scope.{is_found, interface_named}
use Rattle.checking.specs.definitions.Verdict as Verdict
use Rattle.checking.specs.definitions.Verdict.{file_verdict, verdict}
use Rattle.checking.proofs.laws.VerdictLaws.{accepted_verdict}
use Rattle.checking.proofs.laws.AcceptedLaws.{accepted_parsed}
use Rattle.checking.proofs.laws.CheckedFile.{KnownFile, accepted_known}
use Rattle.cycles.specs.definitions.Outcome.{running}
use Rattle.cycles.specs.definitions.Store.{Inputs, Stores}
use Rattle.cycles.specs.definitions.Spots.{Spot, every, cells}
use Rattle.cycles.specs.inner_contracts.TotalMachine.{all_writes}
use Rattle.cycles.specs.definitions.Cycle.{seen, input_fits, inputs_fit, ref_cycle, fresh_stores, ref_fresh_stores}
use Rattle.cycles.specs.inner_contracts.TotalMachine.{cycle}
use Rattle.cycles.specs.definitions.SoundStores.{SoundInputs, SoundStores}
use Rattle.cycles.proofs.laws.WalkLaws.{every_passes}
use Rattle.cycles.proofs.laws.SpotLaws.{cell_stands}
use Rattle.cycles.proofs.laws.SoundBindings.{rules_run}
use Rattle.cycles.proofs.laws.SoundStores.{seen_sound, seen_attribute, stored_sound, stored_attribute}
use Rattle.cycles.proofs.laws.SoundFresh.{known_fresh_sound, known_fresh_runs}

-- ---- inputs fit

input_passes : (k : Kind) (o : Option Value) → ((v : Value) → o ≡ some v → T (storable k v)) → T (input_fits k o)
unfolding input_fits
input_passes k none h = tt
input_passes k (some v) h = storable_of_kind k v (h v refl)

inputs_pass : (f : File) → KnownFile f → (i : Inputs) → SoundInputs f i → T (inputs_fit f i)
unfolding inputs_fit
inputs_pass f k i s =
    and_i (every (λ (e : Entity). is_found (interface_named f e.interface.bytes)) f.entities)
    (every (λ (p : Spot). input_fits p.what.kind (i.given p.entity p.member)) (cells f))
    (every_passes (λ (e : Entity). is_found (interface_named f e.interface.bytes)) f.entities (λ e m. rw (k.entity e m).named tt))
    (every_passes (λ (p : Spot). input_fits p.what.kind (i.given p.entity p.member)) (cells f) cell_passes)
  where
    cell_passes : (p : Spot) → Memᴰ p (cells f) → T (input_fits p.what.kind (i.given p.entity p.member))
    cell_passes p m = input_passes p.what.kind (i.given p.entity p.member) λ v g.
        let (x, q, t, h) = s.of_kind p.entity p.member v g in
        let e : x ≡ p.what = some_injective (sym q ∙ cell_stands f p m) in
        subst (λ (y : Member). T (storable y.kind v)) e h

-- ---- a cycle

module _ (f : File) (known : KnownFile f) (s : Stores) (sound : SoundStores f s) (i : Inputs) (taken : SoundInputs f i) where
  known_cycle_sound : (ref_cycle f s i ≡ running (cycle f s i)) × SoundStores f (cycle f s i)
  unfolding ref_cycle cycle
  known_cycle_sound =
      let now = seen_sound f s.now i sound.now taken in
      let w = rules_run f (seen f s.now i) s.previous now sound.previous known in (
        rw (is_true (inputs_fit f i) (inputs_pass f known i taken), w.0),
        record {
          now = stored_sound f (seen f s.now i) (all_writes f (seen f s.now i) s.previous) now w.1;
          previous = now;
          attributes = λ e m x q t.
              rw (
                stored_attribute f (seen f s.now i) (all_writes f (seen f s.now i) s.previous) e m x q t,
                seen_attribute f s.now i sound.now taken e m x q t,
              ) (sound.attributes e m x q t);
          attributes_before = λ e m x q t p. rw (seen_attribute f s.now i sound.now taken e m x q t) (sound.attributes e m x q t);
        },
      )

-- ---- the laws

pub cycle_sound : (f : File) → file_verdict f ≡ Verdict.accepted f → (s : Stores) → SoundStores f s → (i : Inputs) → SoundInputs f i
    → (ref_cycle f s i ≡ running (cycle f s i)) × SoundStores f (cycle f s i)
cycle_sound f h s sound i taken = known_cycle_sound f (accepted_known f h) s sound i taken

-- for a text and not for any tree, since in a tree a literal may be too large to be set
pub fresh_stores_sound : (text : List ℕ) (f : File) → verdict text ≡ Verdict.accepted f → SoundStores f (fresh_stores f)
fresh_stores_sound text f h =
    let a = accepted_parsed text f h in
    known_fresh_sound f (accepted_known f (accepted_verdict text h)) (parsed_small text (length text) a.read f a.lexed a.parsed)

pub fresh_stores_run : (text : List ℕ) (f : File) → verdict text ≡ Verdict.accepted f → ref_fresh_stores f ≡ running (fresh_stores f)
fresh_stores_run text f h = known_fresh_runs f (accepted_known f (accepted_verdict text h))
