-- Bindings: each gives every variable an entity of its interface, so a rule's names resolve, and all rules of a known file run.
use Prim.Native.Nat.{ℕ, zero, suc}
use mathlib.Core.Path.{◌≡◌, refl, sym, ap, ◌∙◌, subst}
use mathlib.Core.Bool.{Bool, true, false, ◌&&◌}
use mathlib.Core.List.Memᴰ
use mathlib.Core.List.{List, [], ◌∷◌, map, Memᴰ}
use mathlib.Core.Option.{Option, none, some}
use lib.Dec.{T}
use lib.Ieee.Bits.{is_true}
use lib.Ieee.Fits.{and_r}
use lib.ListN.{get_elem?}
use Rattle.values.specs.definitions.Bytes.{same_bytes}
use Rattle.text.specs.definitions.Syntax.{Member, Interface, Entity, Rule, File}
use Rattle.text.proofs.laws.ListLaws.{some_injective, none_some, All, member_flatMap}
use Rattle.checking.specs.definitions.Scope.{
  Indexed,
  is_found,
  interface_named,
  entity_named,
  member_named,
  interface_of,
  Variable,
  variables,
  variable_named,
  scope_of,
  interface_meant,
  interface_in,
}
use Rattle.checking.proofs.laws.LookUpLaws.{same_bytes_eq, found_at, entity_found}
use Rattle.checking.proofs.laws.CheckedFile.{KnownRule, KnownFile}
use Rattle.cycles.specs.definitions.Outcome.{running}
use Rattle.cycles.specs.definitions.Store.{Store}
use Rattle.cycles.specs.definitions.Spots.{meant_by, spot_if_meant, spots, numbered}
use Rattle.cycles.specs.inner_contracts.TotalMachine.{binding_writes}
use Rattle.cycles.specs.definitions.Reference.{ref_binding_writes}
use Rattle.cycles.specs.definitions.Bindings.{number_if, candidates, bindings, are_known, ref_rule_writes, ref_all_writes}
use Rattle.cycles.specs.inner_contracts.TotalMachine.{rule_writes, all_writes}
use Rattle.cycles.specs.definitions.SoundStores.{SoundStore}
use Rattle.cycles.proofs.laws.AmongLaws.{numbered_at}
use Rattle.cycles.proofs.laws.WalkLaws.{collected_runs, every_passes, member_among}
use Rattle.cycles.proofs.laws.SpotLaws.{Stands, found_spot, entity_spot, Resolves}
use Rattle.cycles.proofs.laws.SoundEvaluation.{SoundWrite, binding_runs}

module _ (f : File) where
  -- an entity for each variable, of its interface
  abbrev pub Binds : List Variable → List ℕ → Type 0
  Binds [] [] = Unit {0}
  Binds [] (e ∷ b) = ⊥
  Binds (v ∷ vs) [] = ⊥
  Binds (v ∷ vs) (e ∷ b) = (interface_of f e ≡ interface_named f v.interface.bytes) × Binds vs b

  bound_entity : (vs : List Variable) (b : List ℕ) → Binds vs b → (j : ℕ) {v : Variable} → get_elem? vs j ≡ some v
      → (e : ℕ) × (get_elem? b j ≡ some e) × (interface_of f e ≡ interface_named f v.interface.bytes)
  bound_entity [] [] h j g = absurd (none_some g)
  bound_entity (w ∷ vs) (e ∷ b) h zero g = (e, refl, h.0 ∙ ap (λ (v : Variable). interface_named f v.interface.bytes) (some_injective g))
  bound_entity (w ∷ vs) (e ∷ b) h (suc j) g = bound_entity vs b h.1 j g
  bound_entity [] (e ∷ b) h j {v = v} g = elim h [ ]
  bound_entity (w ∷ vs) [] h j {v = v} g = elim h [ ]

  number_of : (e : ℕ) {x : Entity} → get_elem? f.entities e ≡ some x → interface_of f e ≡ interface_named f x.interface.bytes
  unfolding interface_of
  number_of e h = rw h

  candidate_of : (s : Store) (i : List ℕ) (e : ℕ) → Memᴰ e (candidates f s i) → interface_of f e ≡ interface_named f i
  unfolding candidates
  candidate_of s i e m =
      let (x, n, d) = member_flatMap (λ (x : Indexed Entity). number_if (s.present x.number && same_bytes x.item.interface.bytes i) x.number)
      (numbered 0 f.entities) m in
      go x (numbered_at f.entities x (member_among n)) (s.present x.number && same_bytes x.item.interface.bytes i)
      (and_r (s.present x.number) (same_bytes x.item.interface.bytes i)) d
    where
      go : (x : Indexed Entity) → get_elem? f.entities x.number ≡ some x.item → (b : Bool) → (T b → T (same_bytes x.item.interface.bytes i))
          → Memᴰ e (number_if b x.number) → interface_of f e ≡ interface_named f i
      go x h false k d = absurd (Memᴰ.not-nil d)
      go x h true k d =
          ap (interface_of f) (Memᴰ.eq_of_singleton d) ∙ number_of x.number h
          ∙ ap (interface_named f) (same_bytes_eq x.item.interface.bytes i (k tt))

  pub bindings_bound : (s : Store) (vs : List Variable) (b : List ℕ) → Memᴰ b (bindings f s vs) → Binds vs b
  unfolding bindings
  bindings_bound s [] b m = subst (Binds []) (sym (Memᴰ.eq_of_singleton m)) tt
  bindings_bound s (v ∷ vs) b m =
      let (e, n, d) = member_flatMap (λ (e : ℕ). map (λ (b : List ℕ). e ∷ b) (bindings f s vs)) (candidates f s v.interface.bytes) m in
      let (c, k, q) = Memᴰ.of_map (λ (b : List ℕ). e ∷ b) (bindings f s vs) d in
      subst (Binds (v ∷ vs)) q (candidate_of s v.interface.bytes e n, bindings_bound s vs c k)

  pub binding_resolves : (r : Rule) (b : List ℕ) → Binds (variables r) b → Resolves f (scope_of f r) (spots f (variables r) b)
  unfolding interface_in scope_of spots
  binding_resolves r b h = record { resolve = λ n m i x q g. go n m i x g (entity_named f n) refl (variable_named (variables r) n) refl q }
    where
      go : (n m : List ℕ) (i : Interface) (x : Indexed Member) → member_named i m ≡ some x → (d : Option (Indexed Entity)) → entity_named f n ≡ d
          → (v : Option (Indexed Variable)) → variable_named (variables r) n ≡ v → interface_meant f d v ≡ some i
          → (e : ℕ) × (spot_if_meant f (meant_by d v b) m ≡ some (found_spot e x)) × Stands f (found_spot e x)
      go n m i x g none p none q t = absurd (none_some t)
      go n m i x g none p (some v) q t =
          let (e, u, w) = bound_entity (variables r) b h v.number (found_at (λ (v : Variable). v.name) n (variables r) q) in
          let z = entity_spot f e m (w ∙ t) g in
          (e, rw u z.0, z.1)
      go n m i x g (some d) p v q t = let z = entity_spot f d.number m (number_of d.number (entity_found f n p) ∙ t) g in (d.number, z.0, z.1)

-- ---- rules

module _ (f : File) (now previous : Store) (sound : SoundStore f now) (sound_previous : SoundStore f previous) where
  pub rule_runs : (r : Rule) → KnownRule f r
      → (ref_rule_writes f now previous r ≡ running (rule_writes f now previous r)) × All (SoundWrite f) (rule_writes f now previous r)
  unfolding ref_rule_writes rule_writes
  rule_runs r k =
      let w =
      collected_runs (λ (b : List ℕ). ref_binding_writes (spots f (variables r) b) now previous r)
      (λ (b : List ℕ). binding_writes (spots f (variables r) b) now previous r) (SoundWrite f) (bindings f now (variables r)) one in
      (rw (is_true (are_known f (variables r)) all_known) w.0, w.1)
    where
      all_known : T (are_known f (variables r))
      all_known = every_passes (λ (v : Variable). is_found (interface_named f v.interface.bytes)) (variables r)
          (λ v m. let (i, e) = k.variable v m in rw e tt)

      one : (b : List ℕ) → Memᴰ b (bindings f now (variables r))
          → (ref_binding_writes (spots f (variables r) b) now previous r ≡ running (binding_writes (spots f (variables r) b) now previous r))
          × All (SoundWrite f) (binding_writes (spots f (variables r) b) now previous r)
      one b m =
          binding_runs f (scope_of f r) (spots f (variables r) b) (binding_resolves f r b (bindings_bound f now (variables r) b m))
          now previous sound sound_previous r k.clause k.call

  pub rules_run : KnownFile f → (ref_all_writes f now previous ≡ running (all_writes f now previous)) × All (SoundWrite f) (all_writes f now previous)
  unfolding ref_all_writes all_writes
  rules_run k = collected_runs (ref_rule_writes f now previous) (rule_writes f now previous) (SoundWrite f) f.rules (λ r m. rule_runs r (k.rule r m))
