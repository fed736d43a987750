-- What the walks over the parts of a rule promise, and what they ask of the names in it.
use Rattle.std.specs.Prelude.{ℕ, ◌+◌, ◌≡◌, Bool, true, false, not, ◌&&◌, ◌||◌, eqb, length, get_or, drop}
use mathlib.Core.List.{List, [], ◌∷◌, ◌++◌, map, flat_map}
use Rattle.std.specs.Prelude as code
use Rattle.std.specs.Prelude.{is_some, unwrap_or}
use Rattle.std.proofs.Math.Option.{Option, none, some}
use Rattle.std.proofs.Math.ListN.{get_elem?}
use Rattle.values.specs.definitions.Bytes.{same_bytes}
use Rattle.values.specs.declared.Kind.{Kind}
use Rattle.text.specs.definitions.Tokens.{NAME, EVENT, ACTION, WHEN, END, COLON}
use Rattle.text.specs.definitions.Syntax.{
  Name,
  Sort,
  Literal,
  literal_kind,
  Expression,
  literal,
  to_real,
  negate,
  apply,
  Target,
  Filter,
  Test,
  Condition,
  Call,
  Rule,
}
use Rattle.values.specs.declared.Operator.{Operator}
use Rattle.text.specs.definitions.Readers.{Parser}
use Rattle.text.specs.definitions.Grammar.{rule_after}
use Rattle.text.specs.inner_contracts.Walks.{Rows, Walks}
use Rattle.checking.specs.inner_contracts.DirectoryReads.{Few}
use Rattle.checking.specs.declared.meanings.Cell.{Cell}
use Rattle.checking.specs.declared.expressions.Kinded.{Kinded}
use Rattle.checking.specs.declared.conditions.Part.{Part}
use Rattle.checking.specs.declared.conditions.Place.{Place}
use Rattle.checking.specs.definitions.Faults.{Fault, fault_unless, earliest}
use Rattle.checking.specs.inner_contracts.FoundFaults.{Found, found_as}
use Rattle.checking.specs.inner_contracts.Kinds.{kind_as}
use Rattle.checking.specs.definitions.Scope.{is_found, entity_named, clauses, Scope, scope_of, is_known, interface_in}
use Rattle.checking.specs.definitions.NameFaults.{
  again_faults,
  interface_faults,
  member_faults,
  expression_name_faults,
  target_name_faults,
  filter_name_faults,
  test_name_faults,
  clause_name_faults,
  call_name_faults,
}
use Rattle.checking.specs.definitions.KindFaults.{
  member_kind,
  kind_of,
  expression_kind_faults,
  matched_kind_faults,
  filter_kind_faults,
  test_kind_faults,
  clause_kind_faults,
  call_kind_faults,
}
use Rattle.checking.specs.inner_contracts.Directory.{name_in, NO_INTERFACE, Begins, sort_class, Bench}

-- ---- names

-- row i as a name
abbrev pub name_row : List ℕ → List ℕ → List ℕ → ℕ → Name
name_row text offsets lengths i = record { bytes = name_in text offsets lengths i; at = get_or offsets i 0 }

-- a token: is it `end`, is it `:`? Then the one before it, number n, is a variable's name
unfoldable pub name_before : Bool → Bool → ℕ → List ℕ → List ℕ
name_before true colon n others = []
name_before false true n others = n ∷ others
name_before false false n others = others

-- the numbers of the tokens that a rule declares as variables, from number n on: "name `:` interface"; by the classes after number n
unfoldable pub declared_names : ℕ → List ℕ → List ℕ
unfolding name_before
declared_names n [] = []
declared_names n (c ∷ cs) = name_before (eqb c END) (eqb c COLON) n (declared_names (n + 1) cs)

-- the first of some tokens that has the bytes of token number i, or a number for none
unfoldable pub first_alike : List ℕ → List ℕ → List ℕ → ℕ → ℕ → List ℕ → ℕ
first_alike text offsets lengths other i [] = other
first_alike text offsets lengths other i (n ∷ ns) = elim (same_bytes (name_in text offsets lengths i) (name_in text offsets lengths n)) [
  | true ↦ n
  | false ↦ first_alike text offsets lengths other i ns
]

-- the first declaration, in the rule that begins with token number `start`, of a variable named as token number i; all tokens' count for none
pub record Declaration (text classes offsets lengths : List ℕ) (start i r : ℕ) : Type 0 where
  pub first : r ≡ first_alike text offsets lengths (length classes) i (declared_names start (drop (start + 1) classes))

-- token number n before one of some class, in that rule: a fault if it declares what was declared before
pub record RepeatedAt (text classes offsets lengths : List ℕ) (start class n : ℕ) (r : Found) : Type 0 where
  pub other : (class ≡ COLON → ⊥) → found_as r ≡ none
  pub faults : class ≡ COLON → found_as r
      ≡ earliest (fault_unless (eqb (first_alike text offsets lengths (length classes) n (declared_names start (drop (start + 1) classes))) n) 15
      (get_or offsets n 0))

-- "no two variables of a rule share a name"
pub record Repeated (text classes offsets lengths : List ℕ) (start : ℕ) (r : Found) : Type 0 where
  pub faults : found_as r ≡ earliest (again_faults (map (name_row text offsets lengths) (declared_names start (drop (start + 1) classes))))

-- a bench, and a rule of it that begins with token number `start`; what stands before token number `high`
pub record RuleWorld (text classes offsets lengths d : List ℕ) (start : ℕ) : Type 0 where
  pub bench : Bench text classes offsets lengths d
  pub few : Few bench.file
  pub rule : Rule
  pub begins : Begins bench.tokens start WHEN rule_after rule
  pub high : ℕ

module _ {text classes offsets lengths d : List ℕ} {start : ℕ} where
  abbrev pub world_scope : RuleWorld text classes offsets lengths d start → Scope
  world_scope c = scope_of c.bench.file c.rule

  abbrev pub world_rows : RuleWorld text classes offsets lengths d start → Rows classes
  world_rows c = record {
    tokens = c.bench.tokens;
    count = c.bench.columns.count;
    class = c.bench.columns.class;
    low = 0;
    high = c.high;
  }

-- what the name of token number i means in a rule: is it known, and the number of its interface
pub record Meant (text classes offsets lengths d : List ℕ) (start i : ℕ) (r : code.Option ℕ) : Type 0 where
  pub known : (c : RuleWorld text classes offsets lengths d start) → is_some r ≡ is_known (world_scope c) (name_in text offsets lengths i)
  pub face : (c : RuleWorld text classes offsets lengths d start)
      → get_elem? c.bench.file.interfaces (unwrap_or r NO_INTERFACE) ≡ interface_in (world_scope c) (name_in text offsets lengths i)

-- members that may stand where an attribute, an event, an action or, by the class of names, any member is wanted
unfoldable pub sort_wanted : ℕ → Sort → Bool
unfolding sort_class
sort_wanted want s = eqb want NAME || (eqb (sort_class s) want || (eqb want EVENT && eqb (sort_class s) ACTION))

pub record SortFits (want sort : ℕ) (r : Bool) : Type 0 where
  pub fits : (s : Sort) → sort ≡ sort_class s → r ≡ sort_wanted want s

-- the member of interface number `face` that token number i names: its kind, and a fault where there is none of a wanted sort
pub record CellOf (text classes offsets lengths d : List ℕ) (face want i : ℕ) (r : Cell) : Type 0 where
  pub kind : (w : Bench text classes offsets lengths d) → Few w.file
      → kind_as r.kind ≡ member_kind (get_elem? w.file.interfaces face) (name_row text offsets lengths i)
  pub names : (w : Bench text classes offsets lengths d) → Few w.file
      → found_as r.fault ≡ earliest (member_faults (sort_wanted want) (get_elem? w.file.interfaces face) (name_row text offsets lengths i))

-- ---- expressions

-- what the check of an expression gives
pub record ExpressionChecked (s : Scope) (a : Expression) (r : Kinded) : Type 0 where
  pub kind : kind_as r.kind ≡ kind_of s a
  pub names : found_as r.faults.names ≡ earliest (expression_name_faults s a)
  pub kinds : found_as r.faults.kinds ≡ earliest (expression_kind_faults s a)

pub record LiteralChecked (next : ℕ) (kind : code.Option Kind) (r : Kinded) : Type 0 where
  pub next_is : r.next ≡ next
  pub checked : (s : Scope) (l : Literal) → kind_as kind ≡ some (literal_kind l) → ExpressionChecked s (literal l) r

pub record ClosedChecked (x : Kinded) (next : ℕ) (r : Kinded) : Type 0 where
  pub next_is : r.next ≡ next
  pub checked : (s : Scope) (a : Expression) → ExpressionChecked s a x → ExpressionChecked s a r

pub record RealChecked (offset : ℕ) (x : Kinded) (next : ℕ) (r : Kinded) : Type 0 where
  pub next_is : r.next ≡ next
  pub checked : (s : Scope) (a : Expression) → ExpressionChecked s a x → ExpressionChecked s (to_real offset a) r

pub record NegatedChecked (offset : ℕ) (x r : Kinded) : Type 0 where
  pub next_is : r.next ≡ x.next
  pub checked : (s : Scope) (a : Expression) → ExpressionChecked s a x → ExpressionChecked s (negate offset a) r

pub record AppliedChecked (offset : ℕ) (x y r : Kinded) : Type 0 where
  pub next_is : r.next ≡ y.next
  pub checked : (s : Scope) (o : Operator) (a b : Expression) → ExpressionChecked s a x → ExpressionChecked s b y
      → ExpressionChecked s (apply o offset a b) r

module _ (text classes offsets lengths d : List ℕ) (start : ℕ) where
  abbrev pub ExpressionYields : RuleWorld text classes offsets lengths d start → Expression → Kinded → Type 0
  ExpressionYields c a r = ExpressionChecked (world_scope c) a r

  abbrev pub ExpressionWalk : Parser Expression → ℕ → Kinded → Type 0
  ExpressionWalk r at v = Walks world_rows ExpressionYields r at v v.next

-- ---- conditions and calls

-- the earliest of some faults of names, and of some of kinds
pub record PartOf (names kinds : List Fault) (r : Part) : Type 0 where
  pub names_found : found_as r.faults.names ≡ earliest names
  pub kinds_found : found_as r.faults.kinds ≡ earliest kinds

pub record NothingFound (next : ℕ) (r : Part) : Type 0 where
  pub next_is : r.next ≡ next
  pub part : PartOf [] [] r

pub record Matched (kind : code.Option Kind) (offset : ℕ) (e : Kinded) (r : Part) : Type 0 where
  pub next_is : r.next ≡ e.next
  pub part : (s : Scope) (k : Option Kind) (a : Expression) → kind_as kind ≡ k → ExpressionChecked s a e
      → PartOf (expression_name_faults s a) (matched_kind_faults s k offset a) r

pub record After (first : Found) (p r : Part) : Type 0 where
  pub next_is : r.next ≡ p.next
  pub part : (zs names kinds : List Fault) → found_as first ≡ earliest zs → PartOf names kinds p → PartOf (zs ++ names) kinds r

pub record Joined (p q r : Part) : Type 0 where
  pub next_is : r.next ≡ q.next
  pub part : (names kinds names' kinds' : List Fault) → PartOf names kinds p → PartOf names' kinds' q → PartOf (names ++ names') (kinds ++ kinds') r

-- "no variable bears an entity's name", and its interface is known: token number n declared with the interface at number i
pub record Declared (text offsets lengths d : List ℕ) (n i : ℕ) (r : Found) : Type 0 where
  pub faults : (classes : List ℕ) (w : Bench text classes offsets lengths d) → Few w.file
      → found_as r ≡ earliest (fault_unless (not (is_found (entity_named w.file (name_in text offsets lengths n)))) 15 (get_or offsets n 0)
      ++ interface_faults w.file (name_row text offsets lengths i))

module _ (text classes offsets lengths d : List ℕ) (start : ℕ) where
  -- interface number `face` is that of a target
  abbrev pub FaceOf : RuleWorld text classes offsets lengths d start → ℕ → Target → Type 0
  FaceOf c face t = get_elem? c.bench.file.interfaces face ≡ interface_in (world_scope c) t.name.bytes

  pub record PlaceChecked (c : RuleWorld text classes offsets lengths d start) (t : Target) (r : Place) : Type 0 where
    pub face_is : FaceOf c r.face t
    pub names_found : found_as r.fault ≡ earliest (target_name_faults (world_scope c) t)

  abbrev pub PlaceWalk : Parser Target → ℕ → Place → Type 0
  PlaceWalk r at v = Walks world_rows PlaceChecked r at v v.next

  -- where the filter's target has interface number `face`
  pub record FilterChecked (face : ℕ) (c : RuleWorld text classes offsets lengths d start) (f : Option Filter) (r : Part) : Type 0 where
    pub part : (t : Target) → FaceOf c face t → PartOf (filter_name_faults (world_scope c) t f) (filter_kind_faults (world_scope c) t f) r

  abbrev pub FilterWalk : ℕ → Parser (Option Filter) → ℕ → Part → Type 0
  FilterWalk face r at v = Walks world_rows (FilterChecked face) r at v v.next

  -- where the test's event has this kind
  pub record TestChecked (kind : code.Option Kind) (c : RuleWorld text classes offsets lengths d start) (e : Test) (r : Part) : Type 0 where
    pub part : (k : Option Kind) → kind_as kind ≡ k → PartOf (test_name_faults (world_scope c) e) (test_kind_faults (world_scope c) k e) r

  abbrev pub TestWalk : code.Option Kind → Parser Test → ℕ → Part → Type 0
  TestWalk kind r at v = Walks world_rows (TestChecked kind) r at v v.next

  abbrev pub ConditionYields : RuleWorld text classes offsets lengths d start → Condition → Part → Type 0
  ConditionYields c a r = PartOf (flat_map (clause_name_faults (world_scope c)) (clauses a)) (flat_map (clause_kind_faults (world_scope c)) (clauses a)) r

  abbrev pub ConditionWalk : Parser Condition → ℕ → Part → Type 0
  ConditionWalk r at v = Walks world_rows ConditionYields r at v v.next

  abbrev pub CallYields : RuleWorld text classes offsets lengths d start → Call → Part → Type 0
  CallYields c a r = PartOf (call_name_faults (world_scope c) a) (call_kind_faults (world_scope c) a) r

  abbrev pub CallWalk : Parser Call → ℕ → Part → Type 0
  CallWalk r at v = Walks world_rows CallYields r at v v.next

  abbrev pub CallsYields : RuleWorld text classes offsets lengths d start → List Call → Part → Type 0
  CallsYields c xs r = PartOf (flat_map (call_name_faults (world_scope c)) xs) (flat_map (call_kind_faults (world_scope c)) xs) r

  abbrev pub CallsWalk : Parser (List Call) → ℕ → Part → Type 0
  CallsWalk r at v = Walks world_rows CallsYields r at v v.next
