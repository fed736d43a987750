-- What the walks over a rule's parts give where they return, from what the calls on the way gave.
use Prim.Native.Nat.{ℕ, ◌+◌, ◌<◌}
use native.Mathlib.Omega.{arith}
use mathlib.Core.Path.{◌≡◌, refl, sym, ap, ◌∙◌, fun_ext}
use mathlib.Core.List.{List, [], ◌∷◌, ◌++◌, map, flat_map, append_assoc, append-nil}
use mathlib.Core.Option.{Option, none, some}
use Rattle.std.specs.Prelude as code
use Rattle.std.specs.Prelude.{Bool, is_some, unwrap_or}
use Rattle.values.specs.declared.Kind.{Kind}
use lib.ListN.{length, get_or, get_elem?, drop}
use Rattle.text.specs.definitions.Tokens.{Token, NAME, ATTRIBUTE, EVENT, ACTION, WHEN, COMMA}
use Rattle.text.specs.definitions.Syntax.{
  Sort,
  attribute,
  event,
  action,
  Expression,
  member,
  to_real,
  negate,
  Target,
  Filter,
  Test,
  changed,
  equals,
  Condition,
  clause,
  Call,
  Rule,
}
use Rattle.text.specs.definitions.Readers.{read, many}
use Rattle.text.specs.definitions.Grammar.{name_of, operator_of, apply_at, both_at, either_at, condition_reader, call_reader, call_after, priority_reader, rule_after}
use Rattle.text.specs.definitions.Syntax.{OPENERS}
use Rattle.text.specs.inner_contracts.Walks.{no_token, nth_token, Steps, Walks, Ends}
use Rattle.text.proofs.laws.ListLaws.{flatMap_append}
use Rattle.text.proofs.laws.WalkLaws.{next_steps, getElem?_inside, walk_yields, walk_in}
use Rattle.text.proofs.laws.ConditionWalks.{rule_walk}
use Rattle.checking.specs.inner_contracts.DirectoryReads.{Few}
use Rattle.std.specs.Prelude.{Some, None}
use Rattle.checking.specs.declared.meanings.Cell.{Cell}
use Rattle.checking.specs.declared.expressions.Kinded.{Kinded}
use Rattle.checking.specs.declared.conditions.Part.{Part}
use Rattle.checking.specs.declared.conditions.Place.{Place}
use Rattle.checking.specs.definitions.Faults.{Fault, fault_unless, earliest}
use Rattle.checking.specs.inner_contracts.FoundFaults.{Found, found_as, merged}
use Rattle.checking.specs.definitions.Scope.{clauses, variables, scope_of, interface_in, is_attribute, is_action, is_event, is_member}
use Rattle.checking.specs.definitions.NameFaults.{
  member_faults,
  unknown_name_faults,
  expression_name_faults,
  variable_faults,
  declaration_faults,
  target_name_faults,
  filter_name_faults,
  test_name_faults,
  clause_name_faults,
  call_name_faults,
  again_faults,
  rule_name_faults,
}
use Rattle.checking.specs.definitions.KindFaults.{
  member_kind,
  kind_in,
  kind_of,
  expression_kind_faults,
  matched_kind_faults,
  filter_kind_faults,
  test_kind_faults,
  clause_kind_faults,
  call_kind_faults,
  rule_kind_faults,
}
use Rattle.checking.specs.inner_contracts.Directory.{name_in, Begins, Bench}
use Rattle.checking.specs.inner_contracts.RuleWalk.{RuleFaults}
use Rattle.checking.specs.inner_contracts.RuleParts.{
  name_row,
  Repeated,
  RuleWorld,
  world_scope,
  world_rows,
  Meant,
  sort_wanted,
  CellOf,
  ExpressionChecked,
  RealChecked,
  NegatedChecked,
  AppliedChecked,
  PartOf,
  NothingFound,
  Matched,
  After,
  Joined,
  Declared,
  PlaceChecked,
  FilterChecked,
  TestChecked,
  ConditionYields,
  ConditionWalk,
  CallYields,
  CallWalk,
  CallsYields,
  CallsWalk,
}
use Rattle.checking.proofs.steps.CheckedParts.{found_both, found_nothing}
use Rattle.checking.proofs.laws.DirectoryLaws.{number_below}
use Rattle.checking.proofs.steps.MeaningLaws.{name_stands, repeated_found}

-- ---- the sorts that are wanted

wanted_member : sort_wanted NAME ≡ is_member
unfolding sort_wanted is_member
wanted_member = fun_ext λ s. refl

wanted_attribute : sort_wanted ATTRIBUTE ≡ is_attribute
unfolding sort_wanted is_attribute
wanted_attribute = fun_ext go
  where
    go : (s : Sort) → sort_wanted ATTRIBUTE s ≡ is_attribute s
    go attribute = refl
    go event = refl
    go action = refl

wanted_event : sort_wanted EVENT ≡ is_event
unfolding sort_wanted is_event
wanted_event = fun_ext go
  where
    go : (s : Sort) → sort_wanted EVENT s ≡ is_event s
    go attribute = refl
    go event = refl
    go action = refl

wanted_action : sort_wanted ACTION ≡ is_action
unfolding sort_wanted is_action
wanted_action = fun_ext go
  where
    go : (s : Sort) → sort_wanted ACTION s ≡ is_action s
    go attribute = refl
    go event = refl
    go action = refl

-- ---- a part, of other lists that are the same

part_same : {names names' kinds kinds' : List Fault} {r : Part} → names ≡ names' → kinds ≡ kinds' → PartOf names kinds r → PartOf names' kinds' r
part_same p q h = record { names_found = h.names_found ∙ ap earliest p; kinds_found = h.kinds_found ∙ ap earliest q }

module _ {text classes offsets lengths d : List ℕ} where
  pub offset_stands : (w : Bench text classes offsets lengths d) (i : ℕ) → i < length classes → (nth_token w.tokens i).at ≡ get_or offsets i 0
  offset_stands w i h =
      let k : i < length w.tokens = rw w.columns.count h in
      w.columns.offset i (nth_token w.tokens i) (getElem?_inside w.tokens i no_token k)

  module _ {start : ℕ} where
    -- a name's fault
    unknown_name : {i : ℕ} {owner : code.Option ℕ} → Meant text classes offsets lengths d start i owner → {at : ℕ} {a : Option Fault} {known : Bool} → at ≡ get_or offsets i 0
        → known ≡ is_some owner
        → a ≡ earliest (fault_unless known 16 at) → (c : RuleWorld text classes offsets lengths d start)
        → a ≡ earliest (unknown_name_faults (world_scope c) (name_row text offsets lengths i))
    unfolding unknown_name_faults
    unknown_name m e k u c = u ∙ rw (e, k, m.known c)

    face_meant : {i : ℕ} {owner : code.Option ℕ} {face : ℕ} → face ≡ unwrap_or owner 16 → Meant text classes offsets lengths d start i owner
        → (c : RuleWorld text classes offsets lengths d start)
        → get_elem? c.bench.file.interfaces face ≡ interface_in (world_scope c) (name_in text offsets lengths i)
    face_meant f m c = ap (get_elem? c.bench.file.interfaces) f ∙ m.face c

    pub member_checked : (at i : ℕ) {owner : code.Option ℕ} {found : Cell} {next offset : ℕ} {a : Option Fault} {known : Bool} {names : Found}
        → Meant text classes offsets lengths d start at owner → {face : ℕ} → face ≡ unwrap_or owner 16
        → CellOf text classes offsets lengths d face NAME i found
        → offset ≡ get_or offsets at 0 → known ≡ is_some owner → a ≡ earliest (fault_unless known 16 offset) → found_as names ≡ merged a (found_as found.fault)
        → (c : RuleWorld text classes offsets lengths d start) → at < length classes → i < length classes
        → ExpressionChecked (world_scope c) (member (name_of (nth_token c.bench.tokens at)) (name_of (nth_token c.bench.tokens i)))
        (record { next = next; kind = found.kind; faults = record { names = names; kinds = None } })
    unfolding kind_of kind_in expression_name_faults expression_kind_faults
    member_checked at i {owner} {found} m f g e q u n c h k = rw (name_stands c.bench at h, name_stands c.bench i k) (record {
      kind = g.kind c.bench c.few ∙ rw (face_meant f m c);
      names = found_both (unknown_name_faults (world_scope c) (name_row text offsets lengths at))
          (member_faults is_member (interface_in (world_scope c) (name_in text offsets lengths at)) (name_row text offsets lengths i)) n (unknown_name m e q u c)
          (g.names c.bench c.few ∙ rw (face_meant f m c, wanted_member));
      kinds = found_nothing;
    })

    module _ (i : ℕ) {offset : ℕ} {x : Kinded} (o : offset ≡ get_or offsets i 0) (c : RuleWorld text classes offsets lengths d start)
        (h : i < length classes) where
      pub real_checked : {next : ℕ} {r : Kinded} → RealChecked offset x next r → (a : Expression) → ExpressionChecked (world_scope c) a x
          → ExpressionChecked (world_scope c) (to_real (nth_token c.bench.tokens i).at a) r
      real_checked f a e = rw (offset_stands c.bench i h, ← o) (f.checked (world_scope c) a e)

      pub negated_checked : {r : Kinded} → NegatedChecked offset x r → (a : Expression) → ExpressionChecked (world_scope c) a x
          → ExpressionChecked (world_scope c) (negate (nth_token c.bench.tokens i).at a) r
      negated_checked f a e = rw (offset_stands c.bench i h, ← o) (f.checked (world_scope c) a e)

      pub applied_checked : {y r : Kinded} → AppliedChecked offset x y r → (a b : Expression) → ExpressionChecked (world_scope c) a x
          → ExpressionChecked (world_scope c) b y → ExpressionChecked (world_scope c) (apply_at (nth_token c.bench.tokens i) a b) r
      unfolding apply_at
      applied_checked f a b e g =
          rw (offset_stands c.bench i h, ← o) (f.checked (world_scope c) (operator_of (nth_token c.bench.tokens i).class) a b e g)

    -- ---- targets

    module _ (at : ℕ) {owner : code.Option ℕ} (m : Meant text classes offsets lengths d start at owner) {face : ℕ} (f : face ≡ unwrap_or owner 16) where
      pub bare_checked : {next offset : ℕ} {names : Found} {known : Bool} → offset ≡ get_or offsets at 0 → known ≡ is_some owner
          → found_as names ≡ earliest (fault_unless known 16 offset)
          → (c : RuleWorld text classes offsets lengths d start) → at < length classes
          → PlaceChecked text classes offsets lengths d start c (record { name = name_of (nth_token c.bench.tokens at); declares = none })
          (record { next = next; face = face; fault = names })
      unfolding target_name_faults declaration_faults
      bare_checked e k u c h = rw (name_stands c.bench at h) (record { face_is = face_meant f m c; names_found = unknown_name m e k u c })

      pub declaring_checked : (i : ℕ) {next : ℕ} {names : Found} → Declared text offsets lengths d at i names
          → (c : RuleWorld text classes offsets lengths d start) → at < length classes → i < length classes
          → PlaceChecked text classes offsets lengths d start c
          (record { name = name_of (nth_token c.bench.tokens at); declares = some (name_of (nth_token c.bench.tokens i)) })
          (record { next = next; face = face; fault = names })
      unfolding target_name_faults declaration_faults variable_faults scope_of
      declaring_checked i g c h k =
          rw (name_stands c.bench at h, name_stands c.bench i k) (record { face_is = face_meant f m c; names_found = g.faults classes c.bench c.few })

    -- ---- filters and tests

    pub no_filter_checked : (face : ℕ) {next : ℕ} {r : Part} → NothingFound next r → (c : RuleWorld text classes offsets lengths d start)
        → FilterChecked text classes offsets lengths d start face c none r
    unfolding filter_name_faults filter_kind_faults
    no_filter_checked face h c = record { part = λ t e. h.part }

    pub filter_checked : (i j : ℕ) {face : ℕ} {found : Cell} {e : Kinded} {offset : ℕ} {p r : Part}
        → CellOf text classes offsets lengths d face ATTRIBUTE i found
        → offset ≡ get_or offsets j 0 → Matched found.kind offset e p → After found.fault p r → (c : RuleWorld text classes offsets lengths d start)
        → i < length classes → j < length classes → (a : Expression) → ExpressionChecked (world_scope c) a e
        → FilterChecked text classes offsets lengths d start face c
        (some (record { attribute = name_of (nth_token c.bench.tokens i); equals_at = (nth_token c.bench.tokens j).at; expression = a })) r
    unfolding filter_name_faults filter_kind_faults kind_in
    filter_checked i j {face} g o m f c h k a x = rw (name_stands c.bench i h, offset_stands c.bench j k, ← o) (record {
      part = λ t e. f.part (member_faults is_attribute (interface_in (world_scope c) t.name.bytes) (name_row text offsets lengths i))
          (expression_name_faults (world_scope c) a)
          (matched_kind_faults (world_scope c) (member_kind (interface_in (world_scope c) t.name.bytes) (name_row text offsets lengths i)) _ a)
          (g.names c.bench c.few ∙ rw (e, wanted_attribute))
          (m.part (world_scope c) (member_kind (interface_in (world_scope c) t.name.bytes) (name_row text offsets lengths i)) a
          (g.kind c.bench c.few ∙ rw e) x);
    })

    pub changed_checked : (kind : code.Option Kind) {next : ℕ} {r : Part} → NothingFound next r → (c : RuleWorld text classes offsets lengths d start)
        → TestChecked text classes offsets lengths d start kind c changed r
    unfolding test_name_faults test_kind_faults
    changed_checked kind h c = record { part = λ k e. h.part }

    pub equals_checked : (at : ℕ) {kind : code.Option Kind} {offset : ℕ} {e : Kinded} {r : Part} → offset ≡ get_or offsets at 0 → Matched kind offset e r
        → (c : RuleWorld text classes offsets lengths d start) → at < length classes → (a : Expression) → ExpressionChecked (world_scope c) a e
        → TestChecked text classes offsets lengths d start kind c (equals (nth_token c.bench.tokens at).at a) r
    unfolding test_name_faults test_kind_faults
    equals_checked at o m c h a x = rw (offset_stands c.bench at h, ← o) (record { part = λ k q. m.part (world_scope c) k a q x })

    -- ---- conditions

    pub clause_checked : (at i : ℕ) {target : Place} {found : Cell} {f t p q r : Part} → CellOf text classes offsets lengths d target.face EVENT i found
        → Joined f t p → After target.fault p q → After found.fault q r → (c : RuleWorld text classes offsets lengths d start) → i < length classes
        → (x : Target) (y : Option Filter) (z : Test) → PlaceChecked text classes offsets lengths d start c x target
        → FilterChecked text classes offsets lengths d start target.face c y f → TestChecked text classes offsets lengths d start found.kind c z t
        → ConditionYields text classes offsets lengths d start c
        (clause (record { at = at; event = name_of (nth_token c.bench.tokens i); target = x; filter = y; test = z })) r
    unfolding clauses flat_map clause_name_faults clause_kind_faults kind_in
    clause_checked at i {target} g j m n c h x y z u v w =
        let s = world_scope c in
        let o = interface_in s x.name.bytes in
        let e = name_row text offsets lengths i in
        let k = g.kind c.bench c.few ∙ ap (λ o. member_kind o e) u.face_is in
        let mf = member_faults is_event o e in
        let tn = target_name_faults s x in
        let fn = filter_name_faults s x y in
        let xn = test_name_faults s z in
        let fk = filter_kind_faults s x y in
        let xk = test_kind_faults s (member_kind o e) z in
        rw (name_stands c.bench i h)
        (part_same (sym (append-nil _ ∙ append_assoc (mf ++ tn) fn xn ∙ append_assoc mf tn (fn ++ xn))) (sym (append-nil (fk ++ xk)))
        (n.part mf (tn ++ (fn ++ xn)) (fk ++ xk) (g.names c.bench c.few ∙ rw (u.face_is, wanted_event))
        (m.part tn (fn ++ xn) (fk ++ xk) u.names_found (j.part fn fk xn xk (v.part x u.face_is) (w.part (member_kind o e) k)))))

    pub closed_condition : {p : Part} {next : ℕ} (c : RuleWorld text classes offsets lengths d start) (a : Condition)
        → ConditionYields text classes offsets lengths d start c a p
        → ConditionYields text classes offsets lengths d start c a (record { next = next; faults = p.faults })
    closed_condition c a h = record { names_found = h.names_found; kinds_found = h.kinds_found }

    module _ {p q r : Part} (j : Joined p q r) (c : RuleWorld text classes offsets lengths d start) where
      joined_checked : (a b : Condition) → ConditionYields text classes offsets lengths d start c a p
          → ConditionYields text classes offsets lengths d start c b q
          → PartOf (flat_map (clause_name_faults (world_scope c)) (clauses a ++ clauses b)) (flat_map (clause_kind_faults (world_scope c)) (clauses a ++ clauses b)) r
      joined_checked a b g h =
          part_same (sym (flatMap_append (clause_name_faults (world_scope c)) (clauses a) (clauses b)))
          (sym (flatMap_append (clause_kind_faults (world_scope c)) (clauses a) (clauses b)))
          (j.part _ _ _ _ g h)

      pub both_checked : (t : Token) (a b : Condition) → ConditionYields text classes offsets lengths d start c a p
          → ConditionYields text classes offsets lengths d start c b q → ConditionYields text classes offsets lengths d start c (both_at t a b) r
      unfolding both_at clauses
      both_checked t a b g h = joined_checked a b g h

      pub either_checked : (t : Token) (a b : Condition) → ConditionYields text classes offsets lengths d start c a p
          → ConditionYields text classes offsets lengths d start c b q → ConditionYields text classes offsets lengths d start c (either_at t a b) r
      unfolding either_at clauses
      either_checked t a b g h = joined_checked a b g h

      -- ---- calls

      pub further_checked : (xs : List Call) (x : Call) → CallsYields text classes offsets lengths d start c xs p
          → CallYields text classes offsets lengths d start c x q → CallsYields text classes offsets lengths d start c (xs ++ x ∷ []) r
      unfolding flat_map
      further_checked xs x g h =
          part_same (sym (flatMap_append (call_name_faults (world_scope c)) xs (x ∷ []) ∙ ap (λ l. flat_map (call_name_faults (world_scope c)) xs ++ l) (append-nil _)))
          (sym (flatMap_append (call_kind_faults (world_scope c)) xs (x ∷ []) ∙ ap (λ l. flat_map (call_kind_faults (world_scope c)) xs ++ l) (append-nil _)))
          (j.part _ _ _ _ g h)

    pub no_call_checked : {next : ℕ} {r : Part} → NothingFound next r → (c : RuleWorld text classes offsets lengths d start)
        → CallsYields text classes offsets lengths d start c [] r
    unfolding flat_map
    no_call_checked h c = h.part

    pub call_checked : (at i j : ℕ) {e : Kinded} {target : Place} {found : Cell} {offset : ℕ} {f p q s r : Part}
        → CellOf text classes offsets lengths d target.face ACTION i found → offset ≡ get_or offsets j 0 → Matched found.kind offset e p
        → After target.fault f q → Joined p q s → After found.fault s r → (c : RuleWorld text classes offsets lengths d start)
        → i < length classes → j < length classes → (a : Expression) (x : Target) (y : Option Filter) → ExpressionChecked (world_scope c) a e
        → PlaceChecked text classes offsets lengths d start c x target → FilterChecked text classes offsets lengths d start target.face c y f
        → CallYields text classes offsets lengths d start c (record {
          at = at;
          action = name_of (nth_token c.bench.tokens i);
          open_at = (nth_token c.bench.tokens j).at;
          parameter = a;
          target = x;
          filter = y;
        }) r
    unfolding call_name_faults call_kind_faults kind_in
    call_checked at i j g b m n k l c h h' a x y u v w =
        let s = world_scope c in
        let o = interface_in s x.name.bytes in
        let e = name_row text offsets lengths i in
        let z = g.kind c.bench c.few ∙ ap (λ o. member_kind o e) v.face_is in
        let mf = member_faults is_action o e in
        let en = expression_name_faults s a in
        let tn = target_name_faults s x in
        let fn = filter_name_faults s x y in
        let fk = filter_kind_faults s x y in
        let ek = matched_kind_faults s (member_kind o e) _ a in
        rw (name_stands c.bench i h, offset_stands c.bench j h', ← b)
        (part_same (sym (append_assoc (mf ++ en) tn fn ∙ append_assoc mf en (tn ++ fn))) refl
        (l.part mf (en ++ (tn ++ fn)) (ek ++ fk) (g.names c.bench c.few ∙ rw (v.face_is, wanted_action))
        (k.part en ek (tn ++ fn) fk (m.part s (member_kind o e) a z u) (n.part tn fn fk v.names_found (w.part x v.face_is)))))

-- ---- a rule

module _ {text classes offsets lengths d : List ℕ} {at : ℕ} where
  RuleYields : RuleWorld text classes offsets lengths d at → Rule → Part → Type 0
  RuleYields c x r =
      PartOf (flat_map (clause_name_faults (world_scope c)) (clauses x.condition) ++ flat_map (call_name_faults (world_scope c)) x.calls)
      (flat_map (clause_kind_faults (world_scope c)) (clauses x.condition) ++ flat_map (call_kind_faults (world_scope c)) x.calls) r

  module _ {i o m : ℕ} {x y z p q : Part} (s : Steps (length classes) at i) (b : Ends classes priority_reader i o)
      (f : ConditionWalk text classes offsets lengths d at (condition_reader OPENERS) o x)
      (t : Steps (length classes) x.next m) (g : CallWalk text classes offsets lengths d at call_reader m y)
      (h : CallsWalk text classes offsets lengths d at (many COMMA call_after) y.next z) (j : Joined y z p) (k : Joined x p q) where
    rule_walked : (start : Token) → Walks world_rows RuleYields (rule_after start) i q (z.next + 1)
    unfolding RuleYields flat_map
    rule_walked start = rule_walk start (walk_in world_rows b) f t g h (next_steps z.next) λ c n a b bs l u v w. k.part _ _ _ _ u (j.part _ _ _ _ v w)

    rule_part : (w : Bench text classes offsets lengths d) → Few w.file → (r : Rule) → Begins w.tokens at WHEN rule_after r
        → PartOf (flat_map (clause_name_faults (scope_of w.file r)) (clauses r.condition) ++ flat_map (call_name_faults (scope_of w.file r)) r.calls)
        (flat_map (clause_kind_faults (scope_of w.file r)) (clauses r.condition) ++ flat_map (call_kind_faults (scope_of w.file r)) r.calls) q
    unfolding RuleYields
    rule_part w few r b =
        let c : RuleWorld text classes offsets lengths d at = record { bench = w; few = few; rule = r; begins = b; high = z.next + 1 } in
        let inside : at < length classes = rw (← w.columns.count) (number_below w.tokens at b.stands) in
        let reads : rule_after b.token (drop i w.tokens) ≡ read r b.used = rw (s.steps inside) b.reads in
        (walk_yields (rule_walked b.token) c (omega arith) reads).0 (omega arith)

    pub rule_found : {again names : Found} → Repeated text classes offsets lengths at again → found_as names ≡ merged (found_as again) (found_as q.faults.names)
        → RuleFaults text classes offsets lengths d at (record { names = names; kinds = q.faults.kinds })
    unfolding rule_name_faults rule_kind_faults
    rule_found {again} {names} e n = record { names = names_are; kinds = λ w few r b. (rule_part w few r b).kinds_found }
      where
        names_are : (w : Bench text classes offsets lengths d) → Few w.file → (r : Rule) → Begins w.tokens at WHEN rule_after r
            → found_as names ≡ earliest (rule_name_faults w.file r)
        names_are w few r b =
            let c : RuleWorld text classes offsets lengths d at = record { bench = w; few = few; rule = r; begins = b; high = 0 } in
            let again_faults_of = again_faults (map (λ v. v.name) (variables r)) in
            let cn = flat_map (clause_name_faults (scope_of w.file r)) (clauses r.condition) in
            let an = flat_map (call_name_faults (scope_of w.file r)) r.calls in
            found_both again_faults_of (cn ++ an) n (repeated_found e c) (rule_part w few r b).names_found
            ∙ ap earliest (sym (append_assoc again_faults_of cn an))
