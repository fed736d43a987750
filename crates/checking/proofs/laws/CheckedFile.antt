-- What an accepted file has: each entity's and variable's interface is known, each attribute is assigned a literal of its kind, each member's name is
-- its own, and each clause and call is as in CheckedExpressions.
use Prim.Native.Nat.{ℕ, suc}
use mathlib.Core.Path.{◌≡◌, refl, sym, ◌∙◌}
use mathlib.Core.Bool.{Bool, true, false, not, ◌||◌}
use mathlib.Core.Logic.{◌⊎◌, inl, inr}
use mathlib.Core.List.{List, [], ◌∷◌, ◌++◌, map, flat_map}
use mathlib.Core.List.{
  Memᴰ,
}
use mathlib.Core.Option.{Option, none, some}
use lib.Dec.{T}
use Rattle.values.specs.definitions.Bytes.{same_bytes}
use Rattle.values.specs.definitions.Fitting.{kinds_fit}
use Rattle.text.specs.definitions.Syntax.{Name, Member, Interface, literal_kind, Assignment, Entity, Target, Clause, Call, Rule, File}
use Rattle.checking.specs.definitions.Faults.{fault_unless}
use Rattle.checking.specs.definitions.Scope.{
  Indexed,
  here_or_later,
  look_up,
  is_found,
  interface_named,
  entity_named,
  member_named,
  clauses,
  targets,
  Variable,
  declared_as,
  variables,
  variable_named,
  Scope,
  scope_of,
  entity_or_variable,
  is_known,
  interface_meant,
  interface_in,
  is_attribute,
  is_action,
  is_event,
}
use Rattle.checking.specs.definitions.NameFaults.{
  repeated_faults,
  again_faults,
  interface_faults,
  is_of_sort,
  member_faults,
  interface_name_faults,
  attribute_faults,
  unset_faults,
  entity_name_faults,
  declaration_faults,
  expression_name_faults,
  target_name_faults,
  filter_name_faults,
  test_name_faults,
  clause_name_faults,
  call_name_faults,
  rule_name_faults,
  name_faults,
}
use Rattle.checking.specs.definitions.KindFaults.{
  member_kind,
  assignment_kind_faults,
  entity_kind_faults,
  clause_kind_faults,
  call_kind_faults,
  rule_kind_faults,
  kind_faults,
}
use Rattle.checking.specs.definitions.Verdict.{accepted, file_verdict}
use Rattle.text.proofs.laws.ListLaws.{none_some, both_empty, three_empty, four_empty, five_empty, flatMap_empty, flatMap_member, member_flatMap}
use Rattle.checking.proofs.laws.LookUpLaws.{same_bytes_refl, found_some, found_member, member_found}
use Rattle.checking.specs.definitions.Admitted.{Faultless}
use Rattle.checking.proofs.laws.AcceptedLaws.{accepted_faultless}
use Rattle.checking.proofs.laws.CheckedExpressions.{no_fault, kinds_fit_eq, member_kind_found, KnownClause, KnownCall, clause_known, call_known}

-- ---- what is known

-- "No two members of one interface .. share a name": the first of a member's name is that member
abbrev pub OwnNames : Interface → Type 0
OwnNames i = (m : Member) → Memᴰ m i.members → (r : Indexed Member) × (member_named i m.name.bytes ≡ some r) × (r.item ≡ m)

pub record KnownAssignment (i : Interface) (a : Assignment) : Type 0 where
  pub found : Indexed Member
  pub named : member_named i a.name.bytes ≡ some found
  pub of_sort : T (is_attribute found.item.sort)
  pub kind : literal_kind a.literal ≡ found.item.kind

pub record KnownEntity (f : File) (e : Entity) : Type 0 where
  pub interface : Interface
  pub named : interface_named f e.interface.bytes ≡ some interface
  pub assignment : (a : Assignment) → Memᴰ a e.assignments → KnownAssignment interface a
  pub assigned : (m : Member) → Memᴰ m interface.members → T (is_attribute m.sort)
      → (r : Indexed Assignment) × (look_up (λ (a : Assignment). a.name) m.name.bytes e.assignments ≡ some r)

pub record KnownRule (f : File) (r : Rule) : Type 0 where
  pub variable : (v : Variable) → Memᴰ v (variables r) → (i : Interface) × (interface_named f v.interface.bytes ≡ some i)
  pub clause : (c : Clause) → Memᴰ c (clauses r.condition) → KnownClause (scope_of f r) c
  pub call : (c : Call) → Memᴰ c r.calls → KnownCall (scope_of f r) c

pub record KnownFile (f : File) : Type 0 where
  pub interface : (i : Interface) → Memᴰ i f.interfaces → OwnNames i
  pub entity : (e : Entity) → Memᴰ e f.entities → KnownEntity f e
  pub rule : (r : Rule) → Memᴰ r f.rules → KnownRule f r

-- ---- interfaces

not_found : {A : Type 0} (o : Option A) → T (not (is_found o)) → o ≡ none
unfolding is_found
not_found none h = refl
not_found {A = A} (some _) h = elim h [ ]

-- what is not among names and one more is not among them, and is not that one
absent_before : (n : List ℕ) (before : List Name) (m : Name) → look_up (λ (x : Name). x) n (before ++ m ∷ []) ≡ none
    → (look_up (λ (x : Name). x) n before ≡ none) × (same_bytes n m.bytes ≡ false)
unfolding look_up
absent_before n [] m h = go (same_bytes n m.bytes) h
  where
    go : (b : Bool) → here_or_later b m none ≡ none → (look_up (λ (x : Name). x) n [] ≡ none) × (b ≡ false)
    go true h = absurd (none_some (sym h))
    go false h = (refl, refl)
absent_before n (x ∷ before) m h =
    go (same_bytes n x.bytes) (look_up (λ (x : Name). x) n (before ++ m ∷ [])) (absent_before n before m) h
  where
    go : (b : Bool) (o : Option (Indexed Name)) → (o ≡ none → (look_up (λ (x : Name). x) n before ≡ none) × (same_bytes n m.bytes ≡ false))
        → here_or_later b x o ≡ none → (here_or_later b x (look_up (λ (x : Name). x) n before) ≡ none) × (same_bytes n m.bytes ≡ false)
    go true o k h = absurd (none_some (sym h))
    go false none k h = let (p, q) = k refl in (rw p, q)
    go false (some r) k h = absurd (none_some (sym h))

module _ {A : Type 0} (name_of : A → Name) where
  found_itself : (before : List Name) (xs : List A) → repeated_faults before (map name_of xs) ≡ [] → {x : A} → Memᴰ x xs
      → (look_up (λ (m : Name). m) (name_of x).bytes before ≡ none)
      × ((r : Indexed A) × (look_up name_of (name_of x).bytes xs ≡ some r) × (r.item ≡ x))
  unfolding repeated_faults
  found_itself before (y ∷ ys) h {x} (mathlib.Core.List.Memᴰ.head e) =
      let p : (fault_unless (not (is_found (look_up (λ (m : Name). m) (name_of y).bytes before))) 15 (name_of y).at ≡ [])
      × (repeated_faults (before ++ name_of y ∷ []) (map name_of ys) ≡ []) = both_empty h in
      let t = no_fault (not (is_found (look_up (λ (m : Name). m) (name_of y).bytes before))) 15 (name_of y).at p.0 in (
        rw e (not_found (look_up (λ (m : Name). m) (name_of y).bytes before) t),
        (
          record { number = 0; item = y },
          rw (e, same_bytes_refl (name_of y).bytes),
          sym e,
        ),
      )
  found_itself before (y ∷ ys) h {x} (mathlib.Core.List.Memᴰ.tail m) =
      let p : (fault_unless (not (is_found (look_up (λ (m : Name). m) (name_of y).bytes before))) 15 (name_of y).at ≡ [])
      × (repeated_faults (before ++ name_of y ∷ []) (map name_of ys) ≡ []) = both_empty h in
      let (a, (r, l, i)) = found_itself (before ++ name_of y ∷ []) ys p.1 m in
      let (b, d) = absent_before (name_of x).bytes before (name_of y) a in
      (b, (record { number = suc r.number; item = r.item }, rw (d, l), i))
  found_itself before [] h {x = x} x4 = elim x4 [ ]

own_names : (i : Interface) → interface_name_faults i ≡ [] → OwnNames i
unfolding interface_name_faults member_named
own_names i h m x = (found_itself (λ (m : Member). m.name) [] i.members h x).1

interface_known : (f : File) (n : Name) → interface_faults f n ≡ [] → (i : Interface) × (interface_named f n.bytes ≡ some i)
unfolding interface_faults
interface_known f n h = found_some (interface_named f n.bytes) (no_fault (is_found (interface_named f n.bytes)) 16 n.at h)

-- ---- entities

assignment_known : (i : Interface) (a : Assignment) → member_faults is_attribute (some i) a.name ≡ [] → assignment_kind_faults (some i) a ≡ []
    → KnownAssignment i a
unfolding member_faults assignment_kind_faults
assignment_known i a n k = go (member_named i a.name.bytes) refl (no_fault (is_of_sort is_attribute (member_named i a.name.bytes)) 16 a.name.at n)
  where
    fit : T (kinds_fit (member_kind (some i) a.name) (some (literal_kind a.literal)))
    fit = no_fault (kinds_fit (member_kind (some i) a.name) (some (literal_kind a.literal))) 18 a.equals_at k

    go : (o : Option (Indexed Member)) → member_named i a.name.bytes ≡ o → T (is_of_sort is_attribute o) → KnownAssignment i a
    go (some r) e t = record {
      found = r;
      named = e;
      of_sort = t;
      kind = sym (kinds_fit_eq r.item.kind (literal_kind a.literal) (rw (member_kind_found i a.name e) at fit));
    }
    go none e t = elim t [ ]

attribute_assigned : (e : Entity) (m : Member) → attribute_faults e m ≡ [] → T (is_attribute m.sort)
    → (r : Indexed Assignment) × (look_up (λ (a : Assignment). a.name) m.name.bytes e.assignments ≡ some r)
unfolding attribute_faults
attribute_assigned e m h t = go (is_attribute m.sort) (look_up (λ (a : Assignment). a.name) m.name.bytes e.assignments) t
    (no_fault (not (is_attribute m.sort) || is_found (look_up (λ (a : Assignment). a.name) m.name.bytes e.assignments)) 17 e.close_at h)
  where
    go : (b : Bool) (o : Option (Indexed Assignment)) → T b → T (not b || is_found o) → (r : Indexed Assignment) × (o ≡ some r)
    go true o t q = found_some o q
    go false o t q = elim t [ ]

entity_known : (f : File) (e : Entity) → entity_name_faults f e ≡ [] → entity_kind_faults f e ≡ [] → KnownEntity f e
unfolding entity_name_faults entity_kind_faults
entity_known f e h g =
    let p : (interface_faults f e.interface ≡ []) × (again_faults (map (λ (a : Assignment). a.name) e.assignments) ≡ [])
    × (flat_map (λ (a : Assignment). member_faults is_attribute (interface_named f e.interface.bytes) a.name) e.assignments ≡ [])
    × (unset_faults e (interface_named f e.interface.bytes) ≡ []) = four_empty h in
    go (interface_named f e.interface.bytes) refl (interface_known f e.interface p.0) p.2 p.3 g
  where
    go : (o : Option Interface) → interface_named f e.interface.bytes ≡ o → (i : Interface) × (interface_named f e.interface.bytes ≡ some i)
        → flat_map (λ (a : Assignment). member_faults is_attribute o a.name) e.assignments ≡ [] → unset_faults e o ≡ []
        → flat_map (assignment_kind_faults o) e.assignments ≡ [] → KnownEntity f e
    go none q (i, r) n u k = absurd (none_some (sym q ∙ r))
    go (some i) q _ n u k = record {
      interface = i;
      named = q;
      assignment = λ a m.
          assignment_known i a (flatMap_empty (λ (a : Assignment). member_faults is_attribute (some i) a.name) e.assignments n m)
          (flatMap_empty (assignment_kind_faults (some i)) e.assignments k m);
      assigned = λ m x. attribute_assigned e m (flatMap_empty (attribute_faults e) i.members u x);
    }

-- ---- rules

module _ (f : File) (entities : (e : Entity) → Memᴰ e f.entities → KnownEntity f e) (r : Rule) (names : rule_name_faults f r ≡ [])
    (kinds : rule_kind_faults f r ≡ []) where
  abbrev scope : Scope
  scope = scope_of f r

  names_parts : (again_faults (map (λ (v : Variable). v.name) (variables r)) ≡ []) × (flat_map (clause_name_faults scope) (clauses r.condition) ≡ [])
      × (flat_map (call_name_faults scope) r.calls ≡ [])
  unfolding rule_name_faults
  names_parts = three_empty names

  kinds_parts : (flat_map (clause_kind_faults scope) (clauses r.condition) ≡ []) × (flat_map (call_kind_faults scope) r.calls ≡ [])
  unfolding rule_kind_faults
  kinds_parts = both_empty kinds

  clause_target : (c : Clause) → Memᴰ c (clauses r.condition) → target_name_faults scope c.target ≡ []
  unfolding clause_name_faults
  clause_target c m =
      let p : (member_faults is_event (interface_in scope c.target.name.bytes) c.event ≡ []) × (target_name_faults scope c.target ≡ [])
      × (filter_name_faults scope c.target c.filter ≡ []) × (test_name_faults scope c.test ≡ []) =
      four_empty (flatMap_empty (clause_name_faults scope) (clauses r.condition) names_parts.1 m) in
      p.1

  call_target : (c : Call) → Memᴰ c r.calls → target_name_faults scope c.target ≡ []
  unfolding call_name_faults
  call_target c m =
      let p : (member_faults is_action (interface_in scope c.target.name.bytes) c.action ≡ []) × (expression_name_faults scope c.parameter ≡ [])
      × (target_name_faults scope c.target ≡ []) × (filter_name_faults scope c.target c.filter ≡ []) =
      four_empty (flatMap_empty (call_name_faults scope) r.calls names_parts.2 m) in
      p.2

  target_empty : (t : Target) → Memᴰ t (targets r) → target_name_faults scope t ≡ []
  unfolding targets
  target_empty t m = go (mathlib.Core.List.Memᴰ.append_cases (map (λ (c : Clause). c.target) (clauses r.condition)) m)
    where
      go : Memᴰ t (map (λ (c : Clause). c.target) (clauses r.condition)) ⊎ Memᴰ t (map (λ (c : Call). c.target) r.calls)
          → target_name_faults scope t ≡ []
      go (inl n) = let (c, p, e) = mathlib.Core.List.Memᴰ.of_map (λ (c : Clause). c.target) (clauses r.condition) n in rw e at (clause_target c p)
      go (inr n) = let (c, p, e) = mathlib.Core.List.Memᴰ.of_map (λ (c : Call). c.target) r.calls n in rw e at (call_target c p)

  variable_known : (v : Variable) → Memᴰ v (variables r) → (i : Interface) × (interface_named f v.interface.bytes ≡ some i)
  unfolding variables target_name_faults scope_of
  variable_known v m =
      let (t, n, d) = member_flatMap (λ (t : Target). declared_as t.name t.declares) (targets r) m in
      go t.name t.declares (target_empty t n) d
    where
      go : (n : Name) (o : Option Name) → declaration_faults scope n o ≡ [] → Memᴰ v (declared_as n o)
          → (i : Interface) × (interface_named f v.interface.bytes ≡ some i)
      go n none h d = absurd (mathlib.Core.List.Memᴰ.not-nil d)
      go n (some i) h d =
          let p : (fault_unless (not (is_found (entity_named scope.file n.bytes))) 15 n.at ≡ []) × (interface_faults scope.file i ≡ []) =
          both_empty h in
          rw (mathlib.Core.List.Memᴰ.eq_of_singleton d) (interface_known f i p.1)

  -- a target is an entity or a variable
  target_known : (t : Target) → Memᴰ t (targets r) → T (is_known scope t.name.bytes)
  unfolding is_known target_name_faults scope_of variables variable_named
  target_known t m = go t.declares refl (target_empty t m)
    where
      by_entity : (o : Option (Indexed Entity)) (v : Indexed Variable) → T (entity_or_variable o (some v))
      by_entity none v = tt
      by_entity (some e) v = tt

      go : (o : Option Name) → t.declares ≡ o → declaration_faults scope t.name o ≡ [] → T (is_known scope t.name.bytes)
      go none e h = no_fault (is_known scope t.name.bytes) 16 t.name.at h
      go (some i) e h =
          let v : Variable = record { name = t.name; interface = i } in
          let d : Memᴰ v (declared_as t.name t.declares) = rw e (mathlib.Core.List.Memᴰ.head refl) in
          let (x, q) = member_found (λ (v : Variable). v.name) (variables r)
          (flatMap_member (λ (t : Target). declared_as t.name t.declares) (targets r) m d) in
          rw q (by_entity (entity_named f t.name.bytes) x)

  known_interface : (n : List ℕ) → T (is_known scope n) → (i : Interface) × (interface_in scope n ≡ some i)
  unfolding is_known interface_in scope_of
  known_interface n h = go (entity_named f n) refl (variable_named (variables r) n) refl h
    where
      go : (e : Option (Indexed Entity)) → entity_named f n ≡ e → (v : Option (Indexed Variable)) → variable_named (variables r) n ≡ v
          → T (entity_or_variable e v) → (i : Interface) × (interface_meant f e v ≡ some i)
      go none p (some v) q h = variable_known v.item (found_member (λ (v : Variable). v.name) n (variables r) q)
      go (some e) p v q h = let k = entities e.item (found_member (λ (e : Entity). e.name) n f.entities p) in (k.interface, k.named)
      go none p none q h = elim h [ ]

  clause_in_targets : (c : Clause) → Memᴰ c (clauses r.condition) → Memᴰ c.target (targets r)
  unfolding targets
  clause_in_targets c m = mathlib.Core.List.Memᴰ.append_left (map (λ (c : Call). c.target) r.calls) (mathlib.Core.List.Memᴰ.map (λ (c : Clause). c.target) m)

  call_in_targets : (c : Call) → Memᴰ c r.calls → Memᴰ c.target (targets r)
  unfolding targets
  call_in_targets c m = mathlib.Core.List.Memᴰ.append_right (map (λ (c : Clause). c.target) (clauses r.condition)) (mathlib.Core.List.Memᴰ.map (λ (c : Call). c.target) m)

  rule_known : KnownRule f r
  rule_known = record {
    variable = variable_known;
    clause = λ c m.
        clause_known scope known_interface c (target_known c.target (clause_in_targets c m))
        (flatMap_empty (clause_name_faults scope) (clauses r.condition) names_parts.1 m)
        (flatMap_empty (clause_kind_faults scope) (clauses r.condition) kinds_parts.0 m);
    call = λ c m.
        call_known scope known_interface c (target_known c.target (call_in_targets c m))
        (flatMap_empty (call_name_faults scope) r.calls names_parts.2 m)
        (flatMap_empty (call_kind_faults scope) r.calls kinds_parts.1 m);
  }

-- ---- the file

faultless_known : (f : File) → Faultless f → KnownFile f
unfolding name_faults kind_faults
faultless_known f h =
    let p : (again_faults (map (λ (i : Interface). i.name) f.interfaces) ≡ []) × (flat_map interface_name_faults f.interfaces ≡ [])
    × (again_faults (map (λ (e : Entity). e.name) f.entities) ≡ []) × (flat_map (entity_name_faults f) f.entities ≡ [])
    × (flat_map (rule_name_faults f) f.rules ≡ []) = five_empty h.names in
    let q : (flat_map (entity_kind_faults f) f.entities ≡ []) × (flat_map (rule_kind_faults f) f.rules ≡ []) = both_empty h.kinds in
    let e : (e : Entity) → Memᴰ e f.entities → KnownEntity f e =
    λ e m. entity_known f e (flatMap_empty (entity_name_faults f) f.entities p.3 m) (flatMap_empty (entity_kind_faults f) f.entities q.0 m) in
    record {
      interface = λ i m. own_names i (flatMap_empty interface_name_faults f.interfaces p.1 m);
      entity = e;
      rule = λ r m. rule_known f e r (flatMap_empty (rule_name_faults f) f.rules p.4 m) (flatMap_empty (rule_kind_faults f) f.rules q.1 m);
    }

pub accepted_known : (f : File) → file_verdict f ≡ accepted f → KnownFile f
accepted_known f h = faultless_known f (accepted_faultless f h)
