-- The bindings of a rule in worlds, each a checked bench with entities for the first of the rule's variables: what they write, entity by entity.
use Prim.Native.Nat.{ℕ, zero, suc, ◌+◌, ◌≤◌, ◌<◌}
use native.Mathlib.Numerals.{add-one}
use native.Mathlib.Omega.{arith}
use mathlib.Core.Path.{◌≡◌, refl, sym, ap, ◌∙◌}
use mathlib.Core.Bool.{Bool, true, false, ◌&&◌}
use mathlib.Core.List.{List, [], ◌∷◌, ◌++◌, map, flat_map, append-nil, append_assoc}
use mathlib.Core.Option.{some}
use lib.Dec.{T, eqb}
use lib.ListN.{length, get_or, get_elem?, drop, length-append, drop_of_length-le}
use Rattle.values.specs.definitions.Bytes.{same_bytes}
use Rattle.text.specs.definitions.Syntax.{Entity, Rule, File, priority_of}
use Rattle.text.proofs.laws.ListLaws.{none_some, flatMap_map, flatMap_flatMap}
use Rattle.text.proofs.laws.SpotLaws.{stands_below, stands_drop}
use Rattle.checking.specs.definitions.Scope.{Indexed, Variable, variables}
use Rattle.checking.specs.inner_contracts.Directory.{interface_number, rule_row, entity_interface_row}
use Rattle.checking.specs.inner_contracts.RuleParts.{RuleWorld}
use Rattle.checking.specs.inner_contracts.Resolution.{scope_row}
use Rattle.checking.proofs.laws.DirectoryLaws.{number_inside}
use Rattle.checking.proofs.laws.AcceptedLaws.{priorities_few}
use Rattle.checking.proofs.laws.VerdictLaws.{accepted_verdict}
use Rattle.writes.specs.definitions.Writes.{Write}
use Rattle.cycles.specs.declared.evaluate.Binding.{Binding}
use Rattle.cycles.specs.definitions.Store.{Store}
use Rattle.cycles.specs.definitions.Spots.{spots, numbered}
use Rattle.checking.specs.definitions.PriorityFaults.{MOST_PRIORITY}
use Rattle.cycles.specs.inner_contracts.TotalMachine.{writes_if, binding_writes}
use Rattle.cycles.specs.definitions.Bindings.{number_if, candidates, bindings}
use Rattle.cycles.specs.definitions.ClosedSet.{is_of}
use Rattle.cycles.specs.inner_contracts.AllRules.{RulesGiven, Binds, Gives, candidate, EntityAdded}
use Rattle.cycles.proofs.laws.AmongLaws.{flatMap_same}
use Rattle.checking.proofs.laws.InterfaceNumbers.{same_interface}
use Rattle.cycles.proofs.steps.CandidateLaws.{known_number, few_variables, variable_interface}

-- one more entity, of its variable's interface
binds_more : (f : File) (vs : List Variable) (es : List ℕ) (v : Variable) (e : ℕ) → Binds f vs es → get_elem? vs (length es) ≡ some v
    → T (is_of f v.interface.bytes e) → Binds f vs (es ++ e ∷ [])
binds_more f vs [] v e binds h t zero w x p q = let i : v ≡ w = cc in let j : e ≡ x = cc in rw (← i, ← j) t
binds_more f vs [] v e binds h t (suc k) w x p q = absurd (none_some q)
binds_more f [] (a ∷ es) v e binds h t k w x p q = absurd (none_some h)
binds_more f (u ∷ vs) (a ∷ es) v e binds h t zero w x p q = binds 0 w x p q
binds_more f (u ∷ vs) (a ∷ es) v e binds h t (suc k) w x p q = binds_more f vs es v e (λ k w x p q. binds (suc k) w x p q) h t k w x p q

-- ---- the bindings of the variables from one on, entity by entity

module _ (s : Store) (W : List ℕ → List Write) where
  -- what is written where an entity is chosen for a variable of this interface, and one of these for the further variables
  unfoldable pub chosen : List ℕ → List (List ℕ) → Indexed Entity → List Write
  unfolding writes_if flat_map same_bytes
  chosen i bs x = writes_if (s.present x.number && same_bytes x.item.interface.bytes i) (flat_map (λ b. W (x.number ∷ b)) bs)

  -- from entity number e on
  unfoldable pub chosen_from : File → List ℕ → List (List ℕ) → ℕ → List Write
  unfolding flat_map chosen numbered
  chosen_from f i bs e = flat_map (chosen i bs) (numbered e (drop e f.entities))

  chosen_all : (f : File) (v : Variable) (vs : List Variable)
      → flat_map W (bindings f s (v ∷ vs)) ≡ chosen_from f v.interface.bytes (bindings f s vs) 0
  unfolding bindings candidates chosen_from chosen
  chosen_all f v vs =
      flatMap_flatMap W (λ e. map (λ b. e ∷ b) (bindings f s vs)) further (λ e. flatMap_map W (λ b. e ∷ b) (bindings f s vs))
      (candidates f s v.interface.bytes)
      ∙ flatMap_flatMap further (λ x. number_if (s.present x.number && same_bytes x.item.interface.bytes v.interface.bytes) x.number)
      (chosen v.interface.bytes (bindings f s vs))
      (λ x. one (s.present x.number && same_bytes x.item.interface.bytes v.interface.bytes) x.number) (numbered 0 f.entities)
    where
      further : ℕ → List Write
      further e = flat_map (λ b. W (e ∷ b)) (bindings f s vs)

      one : (t : Bool) (n : ℕ) → flat_map further (number_if t n) ≡ writes_if t (further n)
      one true n = append-nil (further n)
      one false n = refl

  chosen_next : (f : File) (i : List ℕ) (bs : List (List ℕ)) (e : ℕ) {x : Entity} → get_elem? f.entities e ≡ some x
      → chosen_from f i bs e ≡ chosen i bs (record { number = e; item = x }) ++ chosen_from f i bs (suc e)
  unfolding chosen_from flat_map numbered
  chosen_next f i bs e h = rw (stands_drop f.entities e h)

  chosen_end : (f : File) (i : List ℕ) (bs : List (List ℕ)) (e : ℕ) → length f.entities ≤ e → chosen_from f i bs e ≡ []
  unfolding chosen_from flat_map numbered
  chosen_end f i bs e h = rw (drop_of_length-le f.entities h)

-- ---- worlds

-- a checked bench with its stores, a rule of it, and entities for the first of the rule's variables
pub record Chosen (classes values d refs scopes flags cells previous_flags previous_cells : List ℕ) (k level : ℕ) (b : Binding) : Type 0 where
  pub text : List ℕ
  pub offsets : List ℕ
  pub lengths : List ℕ
  pub given : RulesGiven text classes offsets lengths values d refs scopes flags cells previous_flags previous_cells
  pub rule : Rule
  pub stands : get_elem? given.checked.bench.file.rules k ≡ some rule
  pub entities : List ℕ
  pub size : length entities ≡ level
  pub most : level ≤ length (variables rule)
  pub gives : Gives b entities
  pub binds : Binds given.checked.bench.file (variables rule) entities

module _ {classes values d refs scopes flags cells previous_flags previous_cells : List ℕ} {k level : ℕ} {b : Binding}
    (c : Chosen classes values d refs scopes flags cells previous_flags previous_cells k level b) where
  abbrev pub file : File
  file = c.given.checked.bench.file

  -- the rule at the binding that has these further entities
  abbrev pub writes_with : List ℕ → List Write
  writes_with rest = binding_writes (spots file (variables c.rule) (c.entities ++ rest)) c.given.now c.given.previous c.rule

  abbrev pub writes_after : List Write
  writes_after = flat_map writes_with (bindings file c.given.now (drop level (variables c.rule)))

  -- where the next variable's entities come from number e on
  abbrev pub writes_from : Variable → ℕ → List Write
  writes_from v e =
      chosen_from c.given.now writes_with file v.interface.bytes (bindings file c.given.now (drop (suc level) (variables c.rule))) e

  pub few : length (variables c.rule) ≤ 3
  few = few_variables c.text file c.given.checked.accepts k c.rule c.stands

  pub prioritized : priority_of c.rule ≤ MOST_PRIORITY
  prioritized = priorities_few file (accepted_verdict c.text c.given.checked.accepts) c.rule k c.stands

  abbrev world : RuleWorld c.text classes c.offsets c.lengths d (get_or d (rule_row k) 0)
  world = record {
    bench = c.given.checked.bench;
    few = c.given.checked.few;
    rule = c.rule;
    begins = c.given.checked.bench.directory.rule k c.rule c.stands;
    high = 0;
  }

  rule_below : k < get_or d 2 0
  rule_below = omega (arith, c.given.checked.bench.directory.rules, stands_below file.rules k c.stands)

  rule_few : k < 64
  rule_few = omega (arith, c.given.checked.few_rules, stands_below file.rules k c.stands)

  pub variable_count : get_or scopes (scope_row k) 0 ≡ length (variables c.rule)
  variable_count = c.given.scopes_are.count k rule_below rule_few world few

  pub entity_count : get_or d 1 0 ≡ length file.entities
  entity_count = c.given.checked.bench.directory.entities

  face_is : {v : Variable} → get_elem? (variables c.rule) level ≡ some v
      → get_or scopes (scope_row k + 1 + level) 0 ≡ interface_number file v.interface.bytes
  face_is {v} h = c.given.scopes_are.interface k rule_below rule_few world few level v h

  -- a variable's interface has one of the 16 numbers
  pub face_below : {v : Variable} → get_elem? (variables c.rule) level ≡ some v → get_or scopes (scope_row k + 1 + level) 0 < 16
  face_below {v} h =
      let (i, p) = variable_interface c.text file c.given.checked.accepts k c.rule c.stands level v h in
      rw (face_is h) (known_number file c.given.checked.few.interfaces v.interface.bytes p)

  pub next_variable : (get_or scopes (scope_row k) 0 ≡ level → ⊥) → (v : Variable) × (get_elem? (variables c.rule) level ≡ some v)
  next_variable n = number_inside (variables c.rule) level (omega (arith, variable_count, c.most))

-- an entity is a candidate for the next variable if the flags and the numbers say so
module _ {classes values d refs scopes flags cells previous_flags previous_cells : List ℕ} {k level : ℕ} {b : Binding}
    (c : Chosen classes values d refs scopes flags cells previous_flags previous_cells k level b)
    {v : Variable} (declared : get_elem? (variables c.rule) level ≡ some v) (e : ℕ) {x : Entity} (found : get_elem? (file c).entities e ≡ some x) where
  is_present : c.given.now.present e ≡ eqb (get_or flags e 0) 1
  is_present = c.given.now_stored.present e (stands_below (file c).entities e found)

  is_of_face : same_bytes x.interface.bytes v.interface.bytes ≡ eqb (get_or d (entity_interface_row e) 0) (get_or scopes (scope_row k + 1 + level) 0)
  is_of_face =
      let (i, h) = variable_interface c.text (file c) c.given.checked.accepts k c.rule c.stands level v declared in
      rw (c.given.checked.bench.directory.entity_interface e x found, face_is c declared)
      (sym (same_interface (file c) c.given.checked.few.interfaces x.interface.bytes v.interface.bytes h))

  pub candidate_is : (c.given.now.present e && same_bytes x.interface.bytes v.interface.bytes)
      ≡ candidate d flags (get_or scopes (scope_row k + 1 + level) 0) e
  candidate_is = rw (is_present, is_of_face)

  pub still_binds : T (same_bytes x.interface.bytes v.interface.bytes) → Binds (file c) (variables c.rule) (c.entities ++ e ∷ [])
  unfolding is_of
  still_binds t =
      binds_more (file c) (variables c.rule) c.entities v e c.binds (ap (get_elem? (variables c.rule)) c.size ∙ declared) (rw found t)

  -- the world with the entity chosen
  abbrev pub with_entity : {r : Binding} → EntityAdded b level e r → level < 3 → T (same_bytes x.interface.bytes v.interface.bytes)
      → Chosen classes values d refs scopes flags cells previous_flags previous_cells k (level + 1) r
  with_entity a l t = record {
    text = c.text;
    offsets = c.offsets;
    lengths = c.lengths;
    given = c.given;
    rule = c.rule;
    stands = c.stands;
    entities = c.entities ++ e ∷ [];
    size = length-append c.entities (e ∷ []) ∙ ap (λ n. n + 1) c.size;
    most = omega (arith, stands_below (variables c.rule) level declared);
    gives = a.gives c.entities c.size l c.gives;
    binds = still_binds t;
  }

-- ---- the writes, entity by entity

module _ {classes values d refs scopes flags cells previous_flags previous_cells : List ℕ} {k level : ℕ} {b : Binding}
    (c : Chosen classes values d refs scopes flags cells previous_flags previous_cells k level b) where
  -- no variable is left
  pub complete_writes : length (variables c.rule) ≤ level
      → writes_after c ≡ binding_writes (spots (file c) (variables c.rule) c.entities) c.given.now c.given.previous c.rule
  unfolding bindings flat_map
  complete_writes h =
      rw (drop_of_length-le (variables c.rule) h)
      (append-nil (writes_with c [])
      ∙ ap (λ es. binding_writes (spots (file c) (variables c.rule) es) c.given.now c.given.previous c.rule) (append-nil c.entities))

  module _ {v : Variable} (declared : get_elem? (variables c.rule) level ≡ some v) where
    pub first_writes : writes_after c ≡ writes_from c v 0
    first_writes = rw (stands_drop (variables c.rule) level declared)
        (chosen_all c.given.now (writes_with c) (file c) v (drop (suc level) (variables c.rule)))

    pub last_writes : {e : ℕ} → get_or d 1 0 ≤ e → writes_from c v e ≡ []
    last_writes {e} h =
        chosen_end c.given.now (writes_with c) (file c) v.interface.bytes
        (bindings (file c) c.given.now (drop (suc level) (variables c.rule))) e (omega (arith, entity_count c))

    module _ (e : ℕ) {x : Entity} (found : get_elem? (file c).entities e ≡ some x) where
      pub skipped_writes : candidate d flags (get_or scopes (scope_row k + 1 + level) 0) e ≡ false
          → writes_from c v e ≡ writes_from c v (e + 1)
      unfolding chosen writes_if
      skipped_writes t =
          rw (
            add-one e,
            chosen_next c.given.now (writes_with c) (file c) v.interface.bytes
                (bindings (file c) c.given.now (drop (suc level) (variables c.rule))) e found,
            candidate_is c declared e found ∙ t,
          )

      pub taken_writes : candidate d flags (get_or scopes (scope_row k + 1 + level) 0) e ≡ true
          → (bs : List (List ℕ)) → bs ≡ bindings (file c) c.given.now (drop (suc level) (variables c.rule))
          → writes_from c v e
          ≡ flat_map (λ rest. binding_writes (spots (file c) (variables c.rule) (c.entities ++ e ∷ [] ++ rest)) c.given.now c.given.previous
          c.rule) bs
          ++ writes_from c v (e + 1)
      unfolding chosen writes_if
      taken_writes q bs h =
          rw (
            h,
            add-one e,
            chosen_next c.given.now (writes_with c) (file c) v.interface.bytes
                (bindings (file c) c.given.now (drop (suc level) (variables c.rule))) e found,
            candidate_is c declared e found ∙ q,
          )
          (ap (λ ws. ws ++ writes_from c v (suc e))
          (flatMap_same (λ rest. writes_with c (e ∷ rest))
          (λ rest. binding_writes (spots (file c) (variables c.rule) (c.entities ++ e ∷ [] ++ rest)) c.given.now c.given.previous c.rule)
          (bindings (file c) c.given.now (drop (suc level) (variables c.rule)))
          (λ rest m. ap (λ es. binding_writes (spots (file c) (variables c.rule) es) c.given.now c.given.previous c.rule)
          (sym (append_assoc c.entities (e ∷ []) rest)))))
