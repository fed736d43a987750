-- A rule in columns whose names are resolved: at a binding the names mean what the columns say, so what is put there is what the rule writes.
use Prim.Native.Nat.{ℕ, ◌+◌, ◌%◌, ◌<◌, ◌≤◌}
use mathlib.Core.Path.{◌≡◌, refl, ap, ◌∙◌}
use mathlib.Core.List.{List}
use mathlib.Core.Option.{Option, none, some}
use mathlib.Core.Logic.{◌⊎◌, inl, inr}
use native.Mathlib.Omega.{arith}
use lib.Dec.{T}
use lib.ListN.{length, get_or, get_elem?}
use Rattle.text.specs.definitions.Tokens.{NAME, FROM, WITH, ON, WHEN}
use Rattle.text.specs.definitions.Syntax.{Member, Interface, Entity, Rule, File, priority_of}
use Rattle.text.specs.definitions.Grammar.{rule_after}
use Rattle.text.specs.inner_contracts.Walks.{no_token, nth_token, Rows, Stands}
use Rattle.text.proofs.laws.ListLaws.{none_some}
use Rattle.text.proofs.laws.WalkLaws.{getElem?_inside}
use Rattle.checking.specs.definitions.Scope.{
  Indexed,
  look_up,
  item_of,
  interface_named,
  entity_named,
  interface_of_entity,
  interface_of,
  Variable,
  variables,
  variable_named,
  scope_of,
  interface_meant,
}
use Rattle.checking.specs.inner_contracts.Directory.{name_in, Begins, number_or, member_number, Bench}
use Rattle.checking.specs.inner_contracts.DirectoryReads.{Few}
use Rattle.checking.specs.inner_contracts.CheckedBench.{ValuesOf}
use Rattle.checking.specs.inner_contracts.RuleParts.{RuleWorld}
use Rattle.checking.specs.inner_contracts.Resolution.{
  reference_by,
  reference,
  member_meant,
  Within,
  Owned,
  dotted,
  sourced,
  called,
  filtered,
  declared,
  References,
}
use Rattle.checking.proofs.laws.LookUpLaws.{same_bytes_eq, found_at, entity_found}
use Rattle.checking.proofs.laws.DirectoryLaws.{number_below, number_inside}
use Rattle.cycles.specs.declared.evaluate.Binding.{Binding}
use Rattle.cycles.specs.definitions.Store.{Store}
use Rattle.cycles.specs.definitions.Spots.{spot_at, spot_among, spot_of, meant_by, spot_if_meant, spots}
use Rattle.checking.specs.definitions.PriorityFaults.{MOST_PRIORITY}
use Rattle.cycles.specs.inner_contracts.TotalMachine.{binding_writes}
use Rattle.cycles.specs.definitions.ClosedSet.{entity_is_of, is_of}
use Rattle.cycles.specs.inner_contracts.Evaluation.{
  bound,
  Locates,
  located,
  missing,
  Targeted,
  bare,
  declares,
  Refers,
  Resolved,
  Stored,
  puts,
  RulePuts,
}
use Rattle.cycles.specs.inner_contracts.AllRules.{Binds, Gives}
use Rattle.cycles.specs.inner_contracts.GuardKinds.{Names, source, attribute}
use Rattle.cycles.proofs.steps.EvaluationLaws.{bound_entity, target_named}

-- ---- members

-- an interface that is found by its name has at most 12 members
few_named : {f : File} → Few f → (n : List ℕ) {i : Interface} → interface_named f n ≡ some i → length i.members ≤ 12
unfolding interface_named
few_named {f} few n {i} h = go (look_up (λ (i : Interface). i.name) n f.interfaces) refl h
  where
    go : (o : Option (Indexed Interface)) → look_up (λ (i : Interface). i.name) n f.interfaces ≡ o → item_of o ≡ some i → length i.members ≤ 12
    go none e h = absurd (none_some h)
    go (some x) e h = few.members x.number i (found_at (λ (i : Interface). i.name) n f.interfaces e ∙ h)

among_located : (count e : ℕ) → e < count → (m : List ℕ) (o : Option Interface) → ((i : Interface) → o ≡ some i → length i.members ≤ 12)
    → Locates count (spot_among e o m) e (member_number o m)
unfolding spot_among member_number
among_located count e inside m none few = missing refl (omega arith)
among_located count e inside m (some i) few = go (look_up (λ (m : Member). m.name) m i.members) refl
  where
    go : (o : Option (Indexed Member)) → look_up (λ (m : Member). m.name) m i.members ≡ o → Locates count (spot_at e o) e (number_or 12 o)
    go none q = missing refl (omega arith)
    go (some x) q =
        let k = number_below i.members x.number (found_at (λ (m : Member). m.name) m i.members q) in
        let l = few i refl in
        located x.item refl inside (omega arith)

-- ---- entities and variables

-- an entity of an interface by its name
entity_of : (f : File) (i : List ℕ) (e : ℕ) → T (is_of f i e) → (e < length f.entities) × (interface_of f e ≡ interface_named f i)
unfolding is_of interface_of
entity_of f i e t = go (get_elem? f.entities e) refl t
  where
    go : (o : Option Entity) → get_elem? f.entities e ≡ o → T (entity_is_of i o) → (e < length f.entities) × (interface_of_entity f o ≡ interface_named f i)
    go (some x) q t = (number_below f.entities e q, ap (interface_named f) (same_bytes_eq x.interface.bytes i t))
    go none q t = elim t [ ]

module _ {f : File} (few : Few f) (vs : List Variable) (bs : List ℕ) (binds : Binds f vs bs) (all : length bs ≡ length vs) (b : Binding) where
  -- the members of entity e, which reference r means
  entity_located : (e r : ℕ) (n m : List ℕ) → e ≡ bound b r → e < length f.entities → interface_of f e ≡ interface_named f n
      → Locates (length f.entities) (spot_of f e m) (bound b r) (member_number (interface_named f n) m)
  unfolding spot_of
  entity_located e r n m q h i = rw (← q, i) (among_located (length f.entities) e h m (interface_named f n) (λ i p. few_named few n p))

  variable_bound : (v : Indexed Variable) → get_elem? vs v.number ≡ some v.item
      → (e : ℕ) × (get_elem? bs v.number ≡ some e) × (e < length f.entities) × (interface_of f e ≡ interface_named f v.item.interface.bytes)
  variable_bound v h =
      let k = number_below vs v.number h in
      let (e, p) = number_inside bs v.number (omega (arith, all)) in
      let x = entity_of f v.item.interface.bytes e (binds v.number v.item e h p) in
      (e, p, x.0, x.1)

  -- a name of an entity or a variable, and one of a member; of a variable, the binding in memory has its entity
  pub spot_located : (n m : List ℕ)
      → ((v e : ℕ) → reference (record { file = f; variables = vs }) n ≡ 32 + v → get_elem? bs v ≡ some e → e ≡ bound b (32 + v))
      → Locates (length f.entities) (spots f vs bs n m) (bound b (reference (record { file = f; variables = vs }) n))
      (member_meant (record { file = f; variables = vs }) n m)
  unfolding spots reference member_meant
  spot_located n m gives = go (entity_named f n) refl (variable_named vs n) refl gives
    where
      go : (d : Option (Indexed Entity)) → entity_named f n ≡ d → (v : Option (Indexed Variable)) → variable_named vs n ≡ v
          → ((u e : ℕ) → reference_by d v ≡ 32 + u → get_elem? bs u ≡ some e → e ≡ bound b (32 + u))
          → Locates (length f.entities) (spot_if_meant f (meant_by d v bs) m) (bound b (reference_by d v)) (member_number (interface_meant f d v) m)
      go none p none q gives = missing refl (omega arith)
      go none p (some v) q gives =
          let (e, u, h, i) = variable_bound v (found_at (λ (v : Variable). v.name) n vs q) in
          rw u (entity_located e (32 + v.number) v.item.interface.bytes m (gives v.number e refl u) h i)
      go (some d) p v q gives =
          let a = entity_found f n p in
          let h = number_below f.entities d.number a in
          entity_located d.number d.number d.item.interface.bytes m (bound_entity b d.number (omega (arith, few.entities))) h (entity_face a)
        where
          entity_face : get_elem? f.entities d.number ≡ some d.item → interface_of f d.number ≡ interface_named f d.item.interface.bytes
          entity_face a = rw a

-- ---- a rule in columns, and parts of its tokens

module _ {text classes offsets lengths d : List ℕ} (w : Bench text classes offsets lengths d) where
  -- what stands from number `low` up to `high`
  abbrev pub part_rows : ℕ → ℕ → Rows classes
  part_rows low high = record { tokens = w.tokens; count = w.columns.count; class = w.columns.class; low = low; high = high }

  row_bytes : (i : ℕ) → i < length classes → (nth_token w.tokens i).bytes ≡ name_in text offsets lengths i
  row_bytes i h = w.columns.bytes i (nth_token w.tokens i) (getElem?_inside w.tokens i no_token (rw w.columns.count h))

  module _ {start : ℕ} {r : Rule} (begins : Begins w.tokens start WHEN rule_after r) where
    -- what stands after the rule's `when`
    abbrev pub rule_rows : Rows classes
    rule_rows = part_rows (start + 1) (start + 1 + begins.used)

    -- a part of that
    module _ {low high : ℕ} (from : start + 1 ≤ low) (to : high ≤ start + 1 + begins.used) where
      pub within : {i k : ℕ} → Stands (part_rows low high) i k → Within classes start begins.used i k
      within p = record { after = omega (arith, p.from); before = omega (arith, p.before); inside = p.inside; class = p.class }

      within_either : {k : ℕ} → Stands (part_rows low high) k FROM ⊎ Stands (part_rows low high) k ON
          → Within classes start begins.used k FROM ⊎ Within classes start begins.used k ON
      within_either (inl p) = inl (within p)
      within_either (inr p) = inr (within p)

      pub attribute_owned : {k i : ℕ} → Stands (part_rows low high) k FROM ⊎ Stands (part_rows low high) k ON → Targeted (part_rows low high) (k + 1) i
          → Stands (part_rows low high) i WITH → Stands (part_rows low high) (i + 1) NAME → Owned classes start begins.used (k + 1) (i + 1)
      attribute_owned s (bare p) q n = filtered (within_either s) (within p) (within q) (within n)
      attribute_owned s (declares p c f) q n = declared (within_either s) (within p) (within c) (within f) (within q) (within n)

-- the binding in memory has the entity of the variable that token number i refers to, if it refers to one
abbrev pub GivesAt : List ℕ → Binding → List ℕ → ℕ → Type 0
GivesAt refs b bs i = (v e : ℕ) → get_or refs i 0 % 256 ≡ 32 + v → get_elem? bs v ≡ some e → e ≡ bound b (32 + v)

module _ {text classes offsets lengths d refs : List ℕ} (values : List ℕ) (w : Bench text classes offsets lengths d) (few : Few w.file)
    (valued : ValuesOf values w.tokens) (references : References text classes offsets lengths d refs)
    {start : ℕ} {r : Rule} (begins : Begins w.tokens start WHEN rule_after r)
    (bs : List ℕ) (binds : Binds w.file (variables r) bs) (all : length bs ≡ length (variables r))
    (short : length (variables r) ≤ 3) (b : Binding) where
  abbrev rule_world : RuleWorld text classes offsets lengths d start
  rule_world = record { bench = w; few = few; rule = r; begins = begins; high = start + 1 + begins.used }

  pub refers : {n m : ℕ} → Within classes start begins.used n NAME → Within classes start begins.used m NAME
      → Owned classes start begins.used n m → GivesAt refs b bs n
      → Refers (rule_rows w begins) refs b (spots w.file (variables r) bs) (length w.file.entities) n m
  unfolding scope_of
  refers {n} {m} p q o gives =
      let owner = references.owner start rule_world short n p in
      rw (row_bytes w n p.inside, row_bytes w m q.inside, owner, references.member start rule_world n m o)
      (spot_located few (variables r) bs binds all b (name_in text offsets lengths n) (name_in text offsets lengths m)
      (λ v e h u. gives v e (owner ∙ h) u))

  module _ {low high : ℕ} (from : start + 1 ≤ low) (to : high ≤ start + 1 + begins.used) where
    -- an entity or a variable and a member, as a part of the rule names them
    pub named_refers : {n m : ℕ} → Names (part_rows w low high) n m → GivesAt refs b bs n
        → Refers (rule_rows w begins) refs b (spots w.file (variables r) bs) (length w.file.entities) n m
    named_refers (source p q s t) =
        let o = sourced (within w begins from to p) (within w begins from to q) (within w begins from to s) (within w begins from to t) in
        refers (within w begins from to t) (within w begins from to q) o
    named_refers (attribute s t p q) =
        refers (within w begins from to (target_named t)) (within w begins from to q) (attribute_owned w begins from to s t p q)

    -- the part's tokens and what its names mean at the binding
    abbrev pub resolved : ((i : ℕ) → low ≤ i → i < high → GivesAt refs b bs i) → Resolved classes values refs b
    resolved gives = record {
      rows = part_rows w low high;
      value = valued;
      spots = spots w.file (variables r) bs;
      count = length w.file.entities;
      few = few.entities;
      dotted = λ i p q s.
          refers (within w begins from to p) (within w begins from to s)
          (dotted (within w begins from to p) (within w begins from to q) (within w begins from to s)) (gives i p.from p.before);
      sourced = λ i p q s t. named_refers (source p q s t) (gives (i + 1 + 1 + 1) t.from t.before);
      called = λ i k p q s t h f.
          refers (within w begins from to t) (within w begins from to q)
          (called (within w begins from to p) (within w begins from to q) (within w begins from to s) (within w begins from to t) h f)
          (gives (k + 1) t.from t.before);
      filtered = λ k i s t p q. named_refers (attribute s t p q) (gives (k + 1) (target_named t).from (target_named t).before);
    }

  -- the area after the rule has those writes that it makes at the binding
  pub rule_puts_binding : Gives b bs → {flags cells previous_flags previous_cells area after : List ℕ} {now previous : Store}
      → Stored (length w.file.entities) flags cells now → Stored (length w.file.entities) previous_flags previous_cells previous
      → RulePuts classes values refs b flags cells previous_flags previous_cells (start + 1) area after → priority_of r ≤ MOST_PRIORITY
      → after ≡ puts area (binding_writes (spots w.file (variables r) bs) now previous r)
  rule_puts_binding gives {now = now} {previous = previous} h k p prioritized =
      let whole = resolved {low = start + 1} {high = start + 1 + begins.used} (omega arith) (omega arith) (λ i l m v e q u. gives v e u) in
      p.writes (record { rule = whole; now = now; previous = previous; now_stored = h; previous_stored = k }) (omega arith)
      begins.token r begins.used begins.reads (omega arith) prioritized
