-- The guards of a rule at bindings: one that fails in memory with an entity for the next variable fails at every binding that begins so, and none
-- of those writes anything. So the entity needs no mark.
use Prim.Native.Nat.{ℕ, zero, suc, ◌+◌, ◌/◌, ◌%◌, ◌≤◌, ◌<◌}
use native.Mathlib.Omega.{arith}
use mathlib.Core.Path.{◌≡◌, refl, sym, ap, ap₂, ◌∙◌, subst}
use mathlib.Core.Bool.{Bool, true, false}
use Rattle.std.specs.Bool.{beq}
use mathlib.Core.List.{List, [], ◌∷◌, ◌++◌, map}
use mathlib.Core.Logic.{◌⊎◌, inl, inr}
use lib.Dec.{ltb}
use lib.ListN.{length, get_or, drop, length-append, length-drop}
use borrow.Author.Tests.{ltb-true, ltb-false}
use Rattle.values.specs.declared.Value.{Value}
use Rattle.values.specs.definitions.Value.{equal, differ}
use Rattle.text.specs.definitions.Syntax.{Expression, Condition, File}
use Rattle.text.specs.definitions.Readers.{Parser}
use Rattle.text.specs.definitions.Syntax.{OPENERS}
use Rattle.text.specs.definitions.Grammar.{expression_reader, atom_reader}
use Rattle.text.specs.inner_contracts.Walks.{Rows}
use Rattle.text.proofs.laws.ListLaws.{none_some, some_injective, flatMap_none}
use Rattle.text.proofs.laws.SpotLaws.{stands_below}
use Rattle.text.proofs.laws.WalkLaws.{walk_yields}
use Rattle.checking.specs.definitions.Scope.{Variable, variables}
use Rattle.checking.specs.inner_contracts.Directory.{rule_row}
use Rattle.cycles.specs.declared.evaluate.Binding.{Binding}
use Rattle.cycles.specs.declared.guards.Guard.{Guard}
use Rattle.cycles.specs.declared.guards.GuardKind.{GuardKind}
use Rattle.cycles.specs.declared.guards.GuardKind.TheVariants.{EqualNow, UnequalBefore, Changes, Holds}
use Rattle.std.proofs.lemmas.List.Elements.{All-get_or}
use Rattle.cycles.specs.definitions.Store.{Store}
use Rattle.cycles.specs.definitions.Spots.{Spots, spots}
use Rattle.cycles.specs.inner_contracts.TotalMachine.{value_at, value, holds, binding_writes}
use Rattle.cycles.specs.definitions.Bindings.{candidates, bindings}
use Rattle.cycles.specs.definitions.ClosedSet.{Among}
use Rattle.cycles.specs.inner_contracts.Evaluation.{bound, Locates, Resolved, Stored, CellRead, ExpressionWalk, ConditionWalk, puts}
use Rattle.cycles.specs.inner_contracts.AllRules.{Binds, Gives, candidate, EntityAdded}
use Rattle.cycles.specs.inner_contracts.GuardKinds.{
  Covered,
  Names,
  spot_named,
  Part,
  Silences,
  equals_now,
  differs_before,
  changes,
  group,
  GuardsFound,
  Needless,
  silent,
  Marked,
  Narrowed,
}
use Rattle.cycles.specs.inner_contracts.Failing.{MarksTaken, FailsWith, ValueFails, Unchanged, GroupFails, GuardFails, unequal_now, equal_before, unchanged, group_false}
use Rattle.cycles.proofs.laws.AmongLaws.{AllIn, all_in_cons, all_in_map, all_in_flatMap, flatMap_same}
use Rattle.cycles.proofs.laws.BindingLaws.{bindings_bind}
use Rattle.cycles.proofs.steps.ResolvedLaws.{rule_rows, GivesAt, named_refers, resolved}
use Rattle.cycles.proofs.steps.BindingWrites.{Chosen, file, writes_with, writes_after, few}
use Rattle.cycles.proofs.steps.BindingPuts.{front_at, in_each}

-- ---- bindings that begin with given entities

-- a binding has an entity for each variable
bindings_full : (f : File) (s : Store) (vs : List Variable) → AllIn (bindings f s vs) (λ b. length b ≡ length vs)
unfolding bindings
bindings_full f s [] = all_in_cons [] [] (λ b. length b ≡ 0) refl (λ x a. elim a [ ])
bindings_full f s (v ∷ vs) =
    all_in_flatMap (λ e. map (λ b. e ∷ b) (bindings f s vs)) (candidates f s v.interface.bytes) (λ b. length b ≡ length (v ∷ vs))
    (λ e a. all_in_map (λ b. e ∷ b) (bindings f s vs) (λ b. length b ≡ length (v ∷ vs)) (λ b c. ap suc (bindings_full f s vs b c)))

-- entities for the first variables, and for the others
binds_append : (f : File) (vs : List Variable) (es rest : List ℕ) → Binds f vs es → Binds f (drop (length es) vs) rest → Binds f vs (es ++ rest)
binds_append f vs [] rest p q k v x h g = q k v x h g
binds_append f [] (e ∷ es) rest p q k v x h g = absurd (none_some h)
binds_append f (v ∷ vs) (e ∷ es) rest p q zero w x h g = p 0 w x h g
binds_append f (v ∷ vs) (e ∷ es) rest p q (suc k) w x h g = binds_append f vs es rest (λ k. p (suc k)) q k w x h g

-- two bindings in memory have the same entities for the first variables
abbrev Agree : Binding → Binding → ℕ → Type 0
Agree b q inner = (v : ℕ) → v < inner → bound b (32 + v) ≡ bound q (32 + v)

-- one that has the first entities serves tokens which refer to no other variable
covered_gives : {refs : List ℕ} {inner low high : ℕ} (b q : Binding) (es rest : List ℕ) → inner ≤ length es → length (es ++ rest) ≤ 3 → Gives b es
    → Agree b q inner → Covered refs inner low high → (i : ℕ) → low ≤ i → i < high → GivesAt refs q (es ++ rest) i
covered_gives b q es rest most short gives agree covered i l h v e r u =
    let k = stands_below (es ++ rest) v u in
    let below = covered.covers i v l h r (omega arith) in
    gives v e (sym (front_at es rest v (omega arith)) ∙ u) ∙ agree v below

-- the entity that was added is there
added_last : {b r : Binding} (level : ℕ) {e : ℕ} → EntityAdded b level e r → level < 3 → e ≡ bound r (32 + level)
added_last {b} zero {e} a h = a.gives [] refl h (λ v x q. absurd (none_some q)) 0 e refl
added_last {b} (suc zero) {e} a h = a.gives (bound b 32 ∷ []) refl h has 1 e refl
  where
    has : Gives b (bound b 32 ∷ [])
    has zero x q = sym (some_injective q)
    has (suc v) x q = absurd (none_some q)
added_last {b} (suc (suc zero)) {e} a h = a.gives (bound b 32 ∷ bound b 33 ∷ []) refl h has 2 e refl
  where
    has : Gives b (bound b 32 ∷ bound b 33 ∷ [])
    has zero x q = sym (some_injective q)
    has (suc zero) x q = sym (some_injective q)
    has (suc (suc v)) x q = absurd (none_some q)
added_last (suc (suc (suc level))) a h = absurd (omega arith)

-- so two bindings with the same entity added agree on it and on the earlier ones
added_agree : {b r q : Binding} {level e : ℕ} → EntityAdded b level e r → EntityAdded b level e q → level < 3 → Agree r q (level + 1)
added_agree {b} {r} {q} {level} {e} a p h v l = go (ltb v level) refl
  where
    go : (t : Bool) → ltb v level ≡ t → bound r (32 + v) ≡ bound q (32 + v)
    go true y = let m = ltb-true v level y in a.keeps v m h ∙ sym (p.keeps v m h)
    go false y =
        let m : level ≡ v = omega (arith, ltb-false v level y) in
        ap (λ v. bound r (32 + v)) (sym m) ∙ sym (added_last level a h) ∙ added_last level p h ∙ ap (λ v. bound q (32 + v)) m

-- ---- a full binding in a world

module _ {classes values d refs scopes flags cells previous_flags previous_cells : List ℕ} {k level : ℕ} {b : Binding}
    (c : Chosen classes values d refs scopes flags cells previous_flags previous_cells k level b)
    (rest : List ℕ) (among : Among rest (bindings (file c) c.given.now (drop level (variables c.rule)))) where
  abbrev world_rows : Rows classes
  world_rows = rule_rows c.given.checked.bench (c.given.checked.bench.directory.rule k c.rule c.stands)

  abbrev world_spots : Spots
  world_spots = spots (file c) (variables c.rule) (c.entities ++ rest)

  all_bound : length (c.entities ++ rest) ≡ length (variables c.rule)
  all_bound =
      let r = bindings_full (file c) c.given.now (drop level (variables c.rule)) rest among in
      let s = length-append c.entities rest in
      let t = length-drop level (variables c.rule) in
      omega (arith, c.size, c.most)

  all_binds : Binds (file c) (variables c.rule) (c.entities ++ rest)
  all_binds =
      binds_append (file c) (variables c.rule) c.entities rest c.binds
      (rw c.size (bindings_bind (file c) c.given.now (drop level (variables c.rule)) rest among))

  -- for a binding in memory that has the entities of the first variables
  module _ (q : Binding) {inner : ℕ} (most : inner ≤ level) (agree : Agree b q inner) where
    part_gives : {low high : ℕ} → Covered refs inner low high → (i : ℕ) → low ≤ i → i < high → GivesAt refs q (c.entities ++ rest) i
    part_gives = covered_gives b q c.entities rest (omega (arith, c.size)) (omega (arith, all_bound, few c)) c.gives agree

    abbrev part_world : {A : Type 0} {reader : Parser A} {at : ℕ} {a : A} → Part reader world_rows refs inner at a → Resolved classes values refs q
    part_world {at = at} p =
        resolved values c.given.checked.bench c.given.checked.few c.given.checked.valued c.given.references
        (c.given.checked.bench.directory.rule k c.rule c.stands) (c.entities ++ rest) all_binds all_bound (few c) q
        {low = at} {high = at + p.used} p.from p.before (part_gives p.covered)

    named_located : {n m : ℕ} → Names world_rows n m → Covered refs inner n (n + 1)
        → Locates (length (file c).entities) (spot_named world_rows world_spots n m) (bound q (get_or refs n 0 % 256)) (get_or refs m 0 / 256)
    named_located {n} names covered =
        let begins = c.given.checked.bench.directory.rule k c.rule c.stands in
        named_refers values c.given.checked.bench c.given.checked.few c.given.checked.valued c.given.references
        begins (c.entities ++ rest) all_binds all_bound (few c) q
        {low = get_or d (rule_row k) 0 + 1} {high = get_or d (rule_row k) 0 + 1 + begins.used} (omega arith) (omega arith) names
        (part_gives covered n (omega arith) (omega arith))

    -- what a guard reads in one of the stores is what its tokens mean there
    module _ {f v : List ℕ} {s : Store} (stored : Stored (length (file c).entities) f v s) where
      cell_is : {n m : ℕ} → Names world_rows n m → Covered refs inner n (n + 1)
          → {x : Value} → CellRead f v (bound q (get_or refs n 0 % 256)) (get_or refs m 0 / 256) x → x ≡ value_at s (spot_named world_rows world_spots n m)
      cell_is {n} {m} names covered h =
          h.reads (length (file c).entities) s (spot_named world_rows world_spots n m) stored (named_located names covered)

      value_is : {at : ℕ} {x : Expression} → Part (expression_reader OPENERS) world_rows refs inner at x
          → {y : Value} {next : ℕ} → ExpressionWalk classes values refs q f v (expression_reader OPENERS) at y next → y ≡ value world_spots s x
      value_is p h =
          let y = walk_yields h (record { rule = part_world p; store = s; stored = stored }) (omega arith) p.reads in
          y.0 (omega (arith, y.1))

    group_is : {at : ℕ} {a : Condition} → Part (atom_reader OPENERS) world_rows refs inner at a → {r : Bool} {next : ℕ}
        → ConditionWalk classes values refs q flags cells previous_flags previous_cells (atom_reader OPENERS) at r next
        → r ≡ holds world_spots c.given.now c.given.previous a
    group_is p h =
        let y = walk_yields h (record {
          rule = part_world p;
          now = c.given.now;
          previous = c.given.previous;
          now_stored = c.given.now_stored;
          previous_stored = c.given.previous_stored;
        }) (omega arith) p.reads in
        y.0 (omega (arith, y.1))

-- ---- a guard that fails with an entity for the next variable

not_true : (t : Bool) → beq t true ≡ false → t ≡ false
not_true true h = h
not_true false h = refl

not_false : (t : Bool) → beq t false ≡ false → t ≡ true
not_false true h = refl
not_false false h = sym h

module _ {classes values d refs scopes flags cells previous_flags previous_cells : List ℕ} {k level e : ℕ} {b r : Binding} (added : EntityAdded b level e r)
    (c : Chosen classes values d refs scopes flags cells previous_flags previous_cells k (level + 1) r)
    (rest : List ℕ) (among : Among rest (bindings (file c) c.given.now (drop (level + 1) (variables c.rule)))) where
  below_three : level < 3
  below_three = omega (arith, c.most, few c)

  value_fails : {f v : List ℕ} {s : Store} → Stored (length (file c).entities) f v s → {n m : ℕ} → Names (world_rows c rest among) n m
      → Covered refs (level + 1) n (n + 1) → {inner : ℕ} → inner ≤ level + 1
      → {at : ℕ} {x : Expression} → Part (expression_reader OPENERS) (world_rows c rest among) refs inner at x
      → {wanted : Bool} (with : FailsWith b level (ValueFails classes values refs f v level inner (get_or refs n 0 % 256) (get_or refs m 0 / 256) at wanted) e)
      → beq (equal (value_at s (spot_named (world_rows c rest among) (world_spots c rest among) n m)) (value (world_spots c rest among) s x)) wanted ≡ false
  value_fails stored names covered {inner} most p {wanted} with =
      let h = with.fails in
      let same = added_agree added with.added below_three in
      let agree : Agree r h.with_binding inner = λ v l. same v (omega arith) ∙ h.agrees below_three v l (omega arith) in
      ap₂ (λ x y. beq (equal x y) wanted) (sym (cell_is c rest among with.binding (omega arith) same stored names covered h.cell.reads))
      (sym (value_is c rest among h.with_binding most agree stored p h.walk))
      ∙ h.cell.fails

  -- where it fails, there is silence
  abbrev Silent : (Spots → Store → Store → Type 0) → Type 0
  Silent silence = silence (world_spots c rest among) c.given.now c.given.previous

  abbrev Fails : Guard → GuardKind → Type 0
  Fails g kind = GuardFails classes values refs b level flags cells previous_flags previous_cells g e kind

  fails_silent : (silence : Spots → Store → Store → Type 0) {g : Guard} → Silences (world_rows c rest among) refs silence g → g.level ≡ level + 1
      → Fails g g.kind → Silent silence
  fails_silent silence {g} (equals_now k names covered most p quiet) l f = go (subst (Fails g) k f)
    where
      go : Fails g EqualNow → Silent silence
      go (unequal_now h) =
          quiet (world_spots c rest among) c.given.now c.given.previous
          (not_true _ (value_fails c.given.now_stored names (rw l at covered) (rw l at most) p h))
  fails_silent silence {g} (differs_before k names covered most p quiet) l f = go (subst (Fails g) k f)
    where
      go : Fails g UnequalBefore → Silent silence
      go (equal_before h) =
          quiet (world_spots c rest among) c.given.now c.given.previous
          (not_false _ (value_fails c.given.previous_stored names (rw l at covered) (rw l at most) p h))
  fails_silent silence {g} (changes k names covered quiet) l f = go (subst (Fails g) k f)
    where
      go : Fails g Changes → Silent silence
      go (unchanged with) =
          let same = added_agree added with.added below_three in
          let own = rw l at covered in
          quiet (world_spots c rest among) c.given.now c.given.previous
          (ap₂ differ (sym (cell_is c rest among with.binding (omega arith) same c.given.now_stored names own with.fails.reads))
          (sym (cell_is c rest among with.binding (omega arith) same c.given.previous_stored names own with.fails.reads_earlier))
          ∙ with.fails.same)
  fails_silent silence {g} (group k p quiet) l f = go (subst (Fails g) k f)
    where
      go : Fails g Holds → Silent silence
      go (group_false with) =
          quiet (world_spots c rest among) c.given.now c.given.previous
          (sym (group_is c rest among with.binding (omega arith) (added_agree added with.added below_three) (rw l at p) with.fails.walk))

-- ---- marks

module _ {Failing : ℕ → Type 0} where
  pub taken_for : {Other : ℕ → Type 0} → ((e : ℕ) → Failing e → Other e) → {before after : List ℕ} → MarksTaken Failing before after
      → MarksTaken Other before after
  taken_for {Other} f {before} {after} t = record { takes = λ e. go e (t.takes e) }
    where
      go : (e : ℕ) → (get_or after e 0 ≡ get_or before e 0) ⊎ ((get_or after e 0 ≡ 0) × Failing e)
          → (get_or after e 0 ≡ get_or before e 0) ⊎ ((get_or after e 0 ≡ 0) × Other e)
      go e (inl q) = inl q
      go e (inr (z, h)) = inr (z, f e h)

-- marks of entities that need no turn may go
still_marked : {classes values d refs scopes flags cells previous_flags previous_cells : List ℕ} {k level : ℕ} {b : Binding} {face first end : ℕ}
    {Failing : ℕ → Type 0}
    → ((e : ℕ) → Failing e → Needless classes values d refs scopes flags cells previous_flags previous_cells k level b face e)
    → {before after : List ℕ} → MarksTaken Failing before after
    → Marked classes values d refs scopes flags cells previous_flags previous_cells k level b face first end before
    → Marked classes values d refs scopes flags cells previous_flags previous_cells k level b face first end after
still_marked {classes} {values} {d} {refs} {scopes} {flags} {cells} {previous_flags} {previous_cells} {k} {level} {b} {face} {first} {end} {Failing} needless
    {before} {after} taken m = record { unmarked = λ e f l z. without e f l z (taken.takes e); marked = λ e f l n. within e f l n (taken.takes e) }
  where
    without : (e : ℕ) → first ≤ e → e < end → get_or after e 0 ≡ 0 → (get_or after e 0 ≡ get_or before e 0) ⊎ ((get_or after e 0 ≡ 0) × Failing e)
        → Needless classes values d refs scopes flags cells previous_flags previous_cells k level b face e
    without e f l z (inl q) = m.unmarked e f l (sym q ∙ z)
    without e f l z (inr (y, h)) = needless e h

    within : (e : ℕ) → first ≤ e → e < end → (get_or after e 0 ≡ 0 → ⊥) → (get_or after e 0 ≡ get_or before e 0) ⊎ ((get_or after e 0 ≡ 0) × Failing e)
        → candidate d flags face e ≡ true
    within e f l n (inl q) = m.marked e f l (λ z. n (q ∙ z))
    within e f l n (inr (y, h)) = absurd (n y)

module _ {classes values refs flags cells previous_flags previous_cells : List ℕ} {b : Binding} {guards : List Guard} {level first end : ℕ} where
  -- one guard more
  pub narrowed : {items : List Guard} → items ≡ guards → {j : ℕ} (other : Guard) → j < length items → (get_or items j other).level ≡ level + 1
      → {before marks after : List ℕ}
      → Narrowed classes values refs flags cells previous_flags previous_cells b guards level first end before marks
      → MarksTaken (λ e. GuardFails classes values refs b level flags cells previous_flags previous_cells (get_or items j other) e (get_or items j other).kind)
      marks after
      → Narrowed classes values refs flags cells previous_flags previous_cells b guards level first end before after
  unfolding puts
  narrowed {items} are {j} other below at_level so taken = record {
    narrows = λ d scopes k face found marked.
        still_marked (λ e f. silent (λ r added area. in_each (λ c. sym (ap (puts area) (no_writes d scopes k found e f r added c)))))
        taken (so.narrows d scopes k face found marked);
  }
    where
      g : Guard
      g = get_or items j other

      no_writes : (d scopes : List ℕ) (k : ℕ) → GuardsFound classes refs (get_or d (rule_row k) 0 + 1) guards
          → (e : ℕ) → GuardFails classes values refs b level flags cells previous_flags previous_cells g e g.kind
          → (r : Binding) → EntityAdded b level e r
          → (c : Chosen classes values d refs scopes flags cells previous_flags previous_cells k (level + 1) r) → writes_after c ≡ []
      no_writes d scopes k found e f r added c =
          let begins = c.given.checked.bench.directory.rule k c.rule c.stands in
          let rows = rule_rows c.given.checked.bench begins in
          let all = found.found rows (omega arith) begins.token c.rule begins.used begins.reads (omega arith) in
          let bs = bindings (file c) c.given.now (drop (level + 1) (variables c.rule)) in
          flatMap_same (writes_with c) (λ rest. []) bs
          (λ rest among. fails_silent added c rest among (λ sp now previous. binding_writes sp now previous c.rule ≡ [])
          (All-get_or (Silences rows refs (λ sp now previous. binding_writes sp now previous c.rule ≡ [])) items j other below (rw are all)) at_level f)
          ∙ flatMap_none bs

-- ---- how guards fail

-- by the kind
module _ {classes values refs : List ℕ} {b : Binding} {level : ℕ} {flags cells previous_flags previous_cells : List ℕ} {g : Guard} {e : ℕ} {kind : GuardKind} where
  pub by_value_now : kind ≡ EqualNow
      → FailsWith b level
      (ValueFails classes values refs flags cells level g.inner (get_or refs g.name 0 % 256) (get_or refs g.member 0 / 256) g.at true) e
      → GuardFails classes values refs b level flags cells previous_flags previous_cells g e kind
  by_value_now k f = rw k (unequal_now f)

  pub by_value_before : kind ≡ UnequalBefore
      → FailsWith b level
      (ValueFails classes values refs previous_flags previous_cells level g.inner (get_or refs g.name 0 % 256) (get_or refs g.member 0 / 256) g.at false) e
      → GuardFails classes values refs b level flags cells previous_flags previous_cells g e kind
  by_value_before k f = rw k (equal_before f)

  pub by_change : kind ≡ Changes
      → FailsWith b level (Unchanged flags cells previous_flags previous_cells (get_or refs g.name 0 % 256) (get_or refs g.member 0 / 256)) e
      → GuardFails classes values refs b level flags cells previous_flags previous_cells g e kind
  by_change k f = rw k (unchanged f)

  pub by_group : kind ≡ Holds → FailsWith b level (GroupFails classes values refs flags cells previous_flags previous_cells g.at) e
      → GuardFails classes values refs b level flags cells previous_flags previous_cells g e kind
  by_group k f = rw k (group_false f)
