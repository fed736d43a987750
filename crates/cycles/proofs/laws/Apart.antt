-- Two runs of the total machine on a closed set of entities: what the others read never reaches the set.
use Prim.Native.Nat.{ℕ}
use mathlib.Core.Path.{◌≡◌, refl, sym, ap, ap₂, ◌∙◌}
use mathlib.Core.Bool.{Bool, true, false, ◌&&◌, and-false}
use mathlib.Core.List.{List, [], ◌∷◌, flat_map}
use mathlib.Core.Option.{Option, none, some}
use mathlib.Core.Logic.{◌⊎◌, inl, inr}
use lib.Dec.{T, eqb}
use borrow.Author.Tests.{ne_eqb}
use Rattle.values.specs.definitions.Bytes.{same_bytes}
use Rattle.values.specs.declared.Value.{Value}
use Rattle.values.specs.definitions.Value.{is_set}
use Rattle.text.specs.definitions.Syntax.{Call, Rule, File, priority_of}
use Rattle.checking.specs.definitions.Scope.{Variable, variables}
use Rattle.writes.specs.definitions.Writes.{Write, is_to, standing}
use Rattle.writes.proofs.laws.StandingLaws.{strongest, standing_append}
use Rattle.cycles.specs.definitions.Store.{Store, Inputs, Stores}
use Rattle.cycles.specs.definitions.Spots.{Spot, spots, numbered}
use Rattle.cycles.specs.inner_contracts.TotalMachine.{
  is_present_at,
  value,
  filter_holds,
  holds,
  call_writes,
  writes_if,
  binding_writes,
}
use Rattle.cycles.specs.definitions.Reference.{written_if}
use Rattle.cycles.specs.definitions.Bindings.{number_if, candidates, bindings}
use Rattle.cycles.specs.inner_contracts.TotalMachine.{rule_writes, all_writes}
use Rattle.cycles.specs.definitions.Cycle.{seen}
use Rattle.cycles.specs.inner_contracts.TotalMachine.{cycle}
use Rattle.cycles.specs.definitions.ClosedSet.{Among, here, there, is_of, can_be, ReadsInside, Closed}
use Rattle.cycles.proofs.laws.AmongLaws.{AllIn, all_in_cons, one_passes_or_none, numbered_at, all_in_flatMap, flatMap_same}
use Rattle.cycles.specs.inner_contracts.AllRules.{Binds}
use Rattle.cycles.proofs.laws.BindingLaws.{bindings_bind, meant_can_be, can_be_inside, SpotIn, spots_in}
use Rattle.cycles.proofs.laws.Agreement.{StoresAgree, BothAgree, InputsAgree, binding_writes_agree}

-- candidates and bindings, where the set has every entity of the variables' interfaces
module _ (f : File) (S : ℕ → Type 0) (s t : Store) (g : StoresAgree S s t) where
  candidates_agree : (i : List ℕ) → ((e : ℕ) → T (is_of f i e) → S e) → candidates f s i ≡ candidates f t i
  unfolding candidates is_of
  candidates_agree i h =
      flatMap_same (λ e. number_if (s.present e.number && same_bytes e.item.interface.bytes i) e.number)
      (λ e. number_if (t.present e.number && same_bytes e.item.interface.bytes i) e.number) (numbered 0 f.entities)
      (λ e a. ap (λ b. number_if b e.number) (and_agree (s.present e.number) (t.present e.number) (same_bytes e.item.interface.bytes i)
      (λ p. g.presence e.number (h e.number (rw (numbered_at f.entities e a) p)))))
    where
      and_agree : (a b c : Bool) → (T c → a ≡ b) → (a && c) ≡ (b && c)
      and_agree a b true p = ap (λ x. x && true) (p tt)
      and_agree a b false p = and-false a ∙ sym (and-false b)

  bindings_agree : (vs : List Variable) → ((v : Variable) (e : ℕ) → Among v vs → T (is_of f v.interface.bytes e) → S e) → bindings f s vs ≡ bindings f t vs
  unfolding bindings
  bindings_agree [] h = refl
  bindings_agree (v ∷ vs) h =
      rw (candidates_agree v.interface.bytes (λ e. h v e here), bindings_agree vs (λ w e a. h w e (there a)))

-- a rule that reads inside the set
module _ (f : File) (S : ℕ → Type 0) (now previous now' previous' : Store) (g : StoresAgree S now now') (h : StoresAgree S previous previous') where
  rule_writes_agree : (r : Rule) → ReadsInside f S r → rule_writes f now previous r ≡ rule_writes f now' previous' r
  unfolding rule_writes
  rule_writes_agree r i =
      rw (bindings_agree f S now now' g (variables r) i.ranged)
      (flatMap_same (λ b. binding_writes (spots f (variables r) b) now previous r) (λ b. binding_writes (spots f (variables r) b) now' previous' r)
      (bindings f now' (variables r))
      (λ b a. binding_writes_agree S (spots f (variables r) b) now previous now' previous' g h r
      (λ n c m. spots_in f (variables r) b n.bytes m S
      (λ e q. can_be_inside f S r i n c e (meant_can_be f (variables r) b (bindings_bind f now' (variables r) b a) n.bytes e q)))))

-- no write of the list is to the entity
abbrev Misses : ℕ → List Write → Type 0
Misses e ws = AllIn ws (λ w. eqb w.entity e ≡ false)

-- so none stands in a cell of it
missed_none : (e m : ℕ) (ws : List Write) → Misses e ws → standing e m ws ≡ none
unfolding standing is_to
missed_none e m [] h = refl
missed_none e m (w ∷ ws) h = rw (h w here) (missed_none e m ws (λ x a. h x (there a)))

written_if_in : (P : ℕ → Type 0) (b : Bool) (o : Option Spot) (priority : ℕ) (v : Value) → SpotIn P o
    → AllIn (written_if b o priority v) (λ w. P w.entity)
unfolding written_if
written_if_in P false o priority v h = λ w a. elim a [ ]
written_if_in P true none priority v h = λ w a. elim a [ ]
written_if_in P true (some p) priority v h =
    all_in_cons (record { entity = p.entity; member = p.member; priority = priority; value = v }) [] (λ w. P w.entity) h (λ w a. elim a [ ])

writes_if_in : (P : Write → Type 0) (b : Bool) (ws : List Write) → AllIn ws P → AllIn (writes_if b ws) P
unfolding writes_if
writes_if_in P true ws h = h
writes_if_in P false ws h = λ w a. elim a [ ]

-- a call whose target cannot be the entity
call_misses : (f : File) (vs : List Variable) (b : List ℕ) → Binds f vs b → (now : Store) (e priority : ℕ) (c : Call)
    → can_be f vs c.target.name.bytes e ≡ false → Misses e (call_writes (spots f vs b) now priority c)
unfolding call_writes
call_misses f vs b binds now e priority c h =
    let sp = spots f vs b in
    let p = sp c.target.name.bytes c.action.bytes in
    let v = value sp now c.parameter in
    written_if_in (λ n. eqb n e ≡ false) (is_present_at now p && (filter_holds sp now c.target c.filter && is_set v)) p priority v
    (spots_in f vs b c.target.name.bytes c.action.bytes (λ n. eqb n e ≡ false)
    (λ n q. ne_eqb n e (λ same. rw h at (rw same at (meant_can_be f vs b binds c.target.name.bytes n q)))))

-- a rule with no call whose target can be the entity
rule_misses : (f : File) (now previous : Store) (r : Rule) (e : ℕ) → AllIn r.calls (λ c. can_be f (variables r) c.target.name.bytes e ≡ false)
    → Misses e (rule_writes f now previous r)
unfolding rule_writes binding_writes
rule_misses f now previous r e h =
    all_in_flatMap (λ b. binding_writes (spots f (variables r) b) now previous r) (bindings f now (variables r)) (λ w. eqb w.entity e ≡ false)
    (λ b i. writes_if_in (λ w. eqb w.entity e ≡ false) (holds (spots f (variables r) b) now previous r.condition)
    (flat_map (call_writes (spots f (variables r) b) now (priority_of r)) r.calls)
    (all_in_flatMap (call_writes (spots f (variables r) b) now (priority_of r)) r.calls (λ w. eqb w.entity e ≡ false)
    (λ c a. call_misses f (variables r) b (bindings_bind f now (variables r) b i) now e (priority_of r) c (h c a))))

-- lists of writes of which in each part the same write stands in a cell
standing_flatMap : {A : Type 0} (g h : A → List Write) (e m : ℕ) (xs : List A) → AllIn xs (λ x. standing e m (g x) ≡ standing e m (h x))
    → standing e m (flat_map g xs) ≡ standing e m (flat_map h xs)
unfolding flat_map
standing_flatMap g h e m [] p = refl
standing_flatMap g h e m (x ∷ xs) p =
    standing_append e m (g x) (flat_map g xs)
    ∙ ap₂ strongest (p x here) (standing_flatMap g h e m xs (λ y a. p y (there a)))
    ∙ sym (standing_append e m (h x) (flat_map h xs))

module _ (f : File) (S : ℕ → Type 0) (closed : Closed f S) where
  -- of the writes of all rules the same stand in the cells of the set's entities
  writes_agree : (now previous now' previous' : Store) → StoresAgree S now now' → StoresAgree S previous previous'
      → (e m : ℕ) → S e → standing e m (all_writes f now previous) ≡ standing e m (all_writes f now' previous')
  unfolding all_writes
  writes_agree now previous now' previous' g h e m i =
      standing_flatMap (rule_writes f now previous) (rule_writes f now' previous') e m f.rules
      (λ r a. one_rule r a (one_passes_or_none (λ c. can_be f (variables r) c.target.name.bytes e) r.calls))
    where
      one_rule : (r : Rule) → Among r f.rules
          → ((c : Call) × Among c r.calls × T (can_be f (variables r) c.target.name.bytes e))
          ⊎ AllIn r.calls (λ c. can_be f (variables r) c.target.name.bytes e ≡ false)
          → standing e m (rule_writes f now previous r) ≡ standing e m (rule_writes f now' previous' r)
      one_rule r a (inl (c, b, t)) =
          ap (standing e m) (rule_writes_agree f S now previous now' previous' g h r (closed.rules r c e a b i t))
      one_rule r a (inr p) =
          missed_none e m (rule_writes f now previous r) (rule_misses f now previous r e p)
          ∙ sym (missed_none e m (rule_writes f now' previous' r) (rule_misses f now' previous' r e p))

  seen_agree : (s t : Store) (i j : Inputs) → StoresAgree S s t → InputsAgree S i j → StoresAgree S (seen f s i) (seen f t j)
  unfolding seen
  seen_agree s t i j g h = record {
    presence = λ e p. rw (h.presence e p, g.presence e p);
    cells = λ e m p. rw (h.given e m p, h.presence e p, g.presence e p, g.cells e m p);
  }

  -- a cycle for each of two runs, of lines alike on the set
  pub cycle_apart : (s t : Stores) (i j : Inputs) → BothAgree S s t → InputsAgree S i j → BothAgree S (cycle f s i) (cycle f t j)
  unfolding cycle
  cycle_apart s t i j g h =
      let n = seen_agree s.now t.now i j g.now h in
      record {
        now = record {
          presence = n.presence;
          cells = λ e m p. rw (
            writes_agree (seen f s.now i) s.previous (seen f t.now j) t.previous n g.previous e m p,
            n.cells e m p,
          );
        };
        previous = n;
      }
