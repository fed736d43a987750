-- What the names in a rule mean, from what is found of them by the token table and the directory.
use Prim.Native.Nat.{ℕ, zero, suc, ◌+◌, ◌-◌, ◌≤◌, ◌<◌}
use native.Mathlib.Omega.{arith}
use mathlib.Core.Path.{◌≡◌, refl, sym, ap, ap₂, ◌∙◌}
use mathlib.Core.Bool.{Bool, true, false, not, ◌||◌}
use mathlib.Core.List.{List, [], ◌∷◌, ◌++◌, map}
use mathlib.Core.Option.{Option, none, some}
use lib.Dec.{eqb, leb, ltb}
use lib.ListN.{length, get_or, get_elem?}
use borrow.Author.Tests.{eq-eqb, ne_eqb, le-leb, lt-leb, lt-ltb, le-ltb}
use Rattle.values.specs.declared.Kind.{Kind}
use Rattle.std.specs.Prelude as code
use Rattle.std.specs.Prelude.{Some, None, IfSome, unwrap_or, is_some, is_none}
use Rattle.values.specs.definitions.Bytes.{same_bytes}
use Rattle.text.specs.definitions.Tokens.{NAME, EVENT, ACTION}
use Rattle.text.specs.definitions.Syntax.{Name, Member, Interface, Entity, File}
use Rattle.text.specs.definitions.Grammar.{name_of}
use Rattle.text.specs.inner_contracts.Walks.{no_token, nth_token, Steps}
use Rattle.text.proofs.laws.ListLaws.{none_some}
use Rattle.text.proofs.laws.WalkLaws.{getElem?_inside}
use Rattle.checking.specs.definitions.Faults.{Fault, fault_unless, earliest}
use Rattle.checking.specs.inner_contracts.FoundFaults.{Found, found_as, merged}
use Rattle.checking.specs.definitions.Scope.{
  Indexed,
  here_or_later,
  look_up,
  item_of,
  is_found,
  interface_named,
  entity_named,
  member_named,
  Variable,
  variables,
  variable_named,
  Scope,
  scope_of,
  entity_or_variable,
  is_known,
  interface_meant,
  interface_in,
}
use Rattle.checking.specs.definitions.NameFaults.{again_faults, interface_faults, is_of_sort, member_faults}
use Rattle.checking.specs.definitions.KindFaults.{kind_if_found, member_kind}
use Rattle.checking.specs.inner_contracts.Directory.{
  name_in,
  sort_class,
  number_or,
  interface_number,
  entity_number,
  member_number,
  Bench,
}
use Rattle.checking.specs.inner_contracts.DirectoryReads.{Few, NumberOf, Numbered, FewMembers, MemberPart}
use Rattle.checking.specs.inner_contracts.RuleParts.{
  name_row,
  first_alike,
  Declaration,
  Repeated,
  RuleWorld,
  world_scope,
  world_rows,
  Meant,
  sort_wanted,
  SortFits,
  CellOf,
  Declared,
}
use Rattle.checking.proofs.laws.LookUpLaws.{found_at, entity_found}
use Rattle.checking.proofs.laws.DirectoryLaws.{number_below, number_beyond}
use Rattle.checking.proofs.steps.CheckedParts.{found_both}
use Rattle.checking.proofs.steps.RuleNames.{names_from, Between, no_number, number}
use Rattle.checking.proofs.steps.RuleVariables.{variable_at, variables_declared, variables_inside}

-- ---- items by their names

number_missing : {A : Type 0} (xs : List A) (k : ℕ) → get_elem? xs k ≡ none → length xs ≤ k
number_missing [] k h = omega arith
number_missing (x ∷ xs) zero h = absurd (none_some (sym h))
number_missing (x ∷ xs) (suc k) h = let z = number_missing xs k h in omega arith

module _ {A : Type 0} (name : A → Name) (n : List ℕ) (xs : List A) (most : ℕ) (few : length xs ≤ most) where
  pub number_none : most ≤ number_or most (look_up name n xs) → look_up name n xs ≡ none
  unfolding number_or
  number_none h = go (look_up name n xs) refl h
    where
      go : (o : Option (Indexed A)) → look_up name n xs ≡ o → most ≤ number_or most o → look_up name n xs ≡ none
      go none e h = e
      go (some f) e h = let b = number_below xs f.number (found_at name n xs e) in absurd (omega arith)

  pub number_some : number_or most (look_up name n xs) < most
      → (f : Indexed A) × (look_up name n xs ≡ some f) × (f.number ≡ number_or most (look_up name n xs))
  unfolding number_or
  number_some h = go (look_up name n xs) refl h
    where
      go : (o : Option (Indexed A)) → look_up name n xs ≡ o → number_or most o < most
          → (f : Indexed A) × (look_up name n xs ≡ some f) × (f.number ≡ number_or most o)
      go none e h = absurd (omega arith)
      go (some f) e h = (f, e, refl)

  -- the item of that number, or none
  pub number_item : get_elem? xs (number_or most (look_up name n xs)) ≡ item_of (look_up name n xs)
  unfolding number_or item_of
  number_item = go (look_up name n xs) refl
    where
      go : (o : Option (Indexed A)) → look_up name n xs ≡ o → get_elem? xs (number_or most o) ≡ item_of o
      go none e = number_beyond xs most few
      go (some f) e = found_at name n xs e

  -- is there one?
  pub number_is_found : ltb (number_or most (look_up name n xs)) most ≡ is_found (look_up name n xs)
  unfolding number_or is_found
  number_is_found = go (look_up name n xs) refl
    where
      go : (o : Option (Indexed A)) → look_up name n xs ≡ o → ltb (number_or most o) most ≡ is_found o
      go none e = le-ltb most most (omega arith)
      go (some f) e =
          let b = number_below xs f.number (found_at name n xs e) in
          let k : f.number < most = omega arith in
          lt-ltb f.number most k

  pub number_not_found : leb most (number_or most (look_up name n xs)) ≡ not (is_found (look_up name n xs))
  unfolding number_or is_found
  number_not_found = go (look_up name n xs) refl
    where
      go : (o : Option (Indexed A)) → look_up name n xs ≡ o → leb most (number_or most o) ≡ not (is_found o)
      go none e = le-leb most most (omega arith)
      go (some f) e =
          let b = number_below xs f.number (found_at name n xs e) in
          let k : f.number < most = omega arith in
          lt-leb most f.number k

-- ---- the variables of a rule

-- row n as a variable's name, and the second one after it as its interface's
abbrev pub variable_row : List ℕ → List ℕ → List ℕ → ℕ → Variable
variable_row text offsets lengths n = record { name = name_row text offsets lengths n; interface = name_row text offsets lengths (n + 1 + 1) }

map_between : {A : Type 0} {low high : ℕ} {ns : List ℕ} (f g : ℕ → A) → ((n : ℕ) → n < high → f n ≡ g n) → Between low high ns → map f ns ≡ map g ns
map_between f g e no_number = refl
map_between f g e (number {n = n} l h b) = ap₂ ◌∷◌ (e n h) (map_between f g e b)

module _ {text classes offsets lengths d : List ℕ} where
  pub name_stands : (w : Bench text classes offsets lengths d) (i : ℕ) → i < length classes
      → name_of (nth_token w.tokens i) ≡ name_row text offsets lengths i
  unfolding name_of
  name_stands w i h =
      let k : i < length w.tokens = rw w.columns.count h in
      let s = getElem?_inside w.tokens i no_token k in
      let b = w.columns.bytes i (nth_token w.tokens i) s in
      let o = w.columns.offset i (nth_token w.tokens i) s in
      ap₂ (λ bytes at. record { bytes = bytes; at = at }) b o

  module _ {start : ℕ} (c : RuleWorld text classes offsets lengths d start) where
    pub world_inside : Between 0 (length classes - 2) (names_from classes start)
    world_inside = variables_inside (world_rows c) c.begins.token start c.rule c.begins.used c.begins.reads

    pub world_variables : variables c.rule ≡ map (variable_row text offsets lengths) (names_from classes start)
    world_variables =
        variables_declared (world_rows c) c.begins.token start c.rule c.begins.used c.begins.reads
        ∙ map_between (variable_at (world_rows c)) (variable_row text offsets lengths) same world_inside
      where
        same : (n : ℕ) → n < length classes - 2 → variable_at (world_rows c) n ≡ variable_row text offsets lengths n
        same n h = ap₂ (λ name interface. record { name = name; interface = interface }) (name_stands c.bench n (omega arith))
            (name_stands c.bench (n + 1 + 1) (omega arith))

-- the first declaration of a name, as a number and as a variable
module _ (text offsets lengths : List ℕ) (size bound i : ℕ) where
  look : List ℕ → Option (Indexed Variable)
  look ns = variable_named (map (variable_row text offsets lengths) ns) (name_in text offsets lengths i)

  data Alike (o : Option (Indexed Variable)) (r : ℕ) : Type 0 where
    missing : o ≡ none → r ≡ size → Alike o r
    present : (f : Indexed Variable) → o ≡ some f → f.item ≡ variable_row text offsets lengths r → r < bound → Alike o r

  alike : {ns : List ℕ} → Between 0 bound ns → Alike (look ns) (first_alike text offsets lengths size i ns)
  unfolding look variable_named look_up first_alike here_or_later
  alike no_number = missing refl refl
  alike (number {n = n} {ns = ns} l k b) = go (same_bytes (name_in text offsets lengths i) (name_in text offsets lengths n)) (alike b)
    where
      go : (t : Bool) → Alike (look ns) (first_alike text offsets lengths size i ns)
          → Alike (here_or_later t (variable_row text offsets lengths n) (look ns)) (elim t [ true ↦ n | false ↦ first_alike text offsets lengths size i ns ])
      go true r = present (record { number = 0; item = variable_row text offsets lengths n }) refl refl k
      go false (missing e q) = missing (rw e) q
      go false (present f e p h) = present (record { number = suc f.number; item = f.item }) (rw e) p h

-- ---- what a name means

face_named : (f : File) (n : List ℕ) → length f.interfaces ≤ 16 → get_elem? f.interfaces (interface_number f n) ≡ interface_named f n
unfolding interface_number interface_named
face_named f n few = number_item (λ (i : Interface). i.name) n f.interfaces 16 few

module _ (s : Scope) (n : List ℕ) {o : Option (Indexed Entity)} {v : Option (Indexed Variable)} (p : entity_named s.file n ≡ o)
    (q : variable_named s.variables n ≡ v) where
  known_by : is_known s n ≡ entity_or_variable o v
  unfolding is_known
  known_by = ap₂ entity_or_variable p q

  meant_by : interface_in s n ≡ interface_meant s.file o v
  unfolding interface_in
  meant_by = ap₂ (interface_meant s.file) p q

module _ {text classes offsets lengths d : List ℕ} {start : ℕ} (i : ℕ) {e : ℕ}
    (g : NumberOf text offsets lengths d 32 (λ f. length f.entities ≤ 32) (λ f. entity_number f (name_in text offsets lengths i)) e) where
  module _ (c : RuleWorld text classes offsets lengths d start) where
    entity_number_is : e ≡ number_or 32 (entity_named c.bench.file (name_in text offsets lengths i))
    unfolding entity_number entity_named
    entity_number_is = g.is classes c.bench c.few.entities

    pub entity_here : e < 32 → (f : Indexed Entity) × (entity_named c.bench.file (name_in text offsets lengths i) ≡ some f) × (f.number ≡ e)
    unfolding entity_named
    entity_here h =
        let (f, p, q) = number_some (λ (x : Entity). x.name) (name_in text offsets lengths i) c.bench.file.entities 32 c.few.entities
        (rw entity_number_is at h) in
        (f, p, q ∙ sym entity_number_is)

    pub entity_missing : 32 ≤ e → entity_named c.bench.file (name_in text offsets lengths i) ≡ none
    unfolding entity_named
    entity_missing h =
        number_none (λ (x : Entity). x.name) (name_in text offsets lengths i) c.bench.file.entities 32 c.few.entities (rw entity_number_is at h)

  pub entity_meant : e < 32 → {face : ℕ} → face ≡ get_or d (323 + e) 0 → Meant text classes offsets lengths d start i (Some face)
  unfolding scope_of entity_or_variable interface_meant
  entity_meant h {face} q = record { known = λ c. known c (entity_here c h); face = λ c. meant c (entity_here c h) }
    where
      known : (c : RuleWorld text classes offsets lengths d start)
          → (f : Indexed Entity) × (entity_named c.bench.file (name_in text offsets lengths i) ≡ some f) × (f.number ≡ e)
          → true ≡ is_known (world_scope c) (name_in text offsets lengths i)
      known c (f, p, k) = sym (known_by (world_scope c) (name_in text offsets lengths i) p refl)

      meant : (c : RuleWorld text classes offsets lengths d start)
          → (f : Indexed Entity) × (entity_named c.bench.file (name_in text offsets lengths i) ≡ some f) × (f.number ≡ e)
          → get_elem? c.bench.file.interfaces face ≡ interface_in (world_scope c) (name_in text offsets lengths i)
      meant c (f, p, k) =
          let here = ap (get_elem? c.bench.file.entities) (sym k) ∙ entity_found c.bench.file (name_in text offsets lengths i) p in
          let number = q ∙ c.bench.directory.entity_interface e f.item here in
          ap (get_elem? c.bench.file.interfaces) number ∙ face_named c.bench.file f.item.interface.bytes c.few.interfaces
          ∙ sym (meant_by (world_scope c) (name_in text offsets lengths i) p refl)

  module _ (h : 32 ≤ e) {n : ℕ} (r : Declaration text classes offsets lengths start i n) where
    variable_looked : (c : RuleWorld text classes offsets lengths d start)
        → Alike text offsets lengths (length classes) (length classes - 2) i (variable_named (variables c.rule) (name_in text offsets lengths i)) n
    unfolding look
    variable_looked c =
        rw (world_variables c, r.first) (alike text offsets lengths (length classes) (length classes - 2) i (world_inside c))

    pub unknown_meant : length classes ≤ n → Meant text classes offsets lengths d start i None
    unfolding scope_of entity_or_variable interface_meant
    unknown_meant l = record { known = λ c. known c (variable_looked c); face = λ c. meant c (variable_looked c) }
      where
        known : (c : RuleWorld text classes offsets lengths d start)
            → Alike text offsets lengths (length classes) (length classes - 2) i (variable_named (variables c.rule) (name_in text offsets lengths i)) n
            → false ≡ is_known (world_scope c) (name_in text offsets lengths i)
        known c (missing p q) = sym (known_by (world_scope c) (name_in text offsets lengths i) (entity_missing c h) p)
        known c (present f p q k) = absurd (omega arith)

        meant : (c : RuleWorld text classes offsets lengths d start)
            → Alike text offsets lengths (length classes) (length classes - 2) i (variable_named (variables c.rule) (name_in text offsets lengths i)) n
            → get_elem? c.bench.file.interfaces 16 ≡ interface_in (world_scope c) (name_in text offsets lengths i)
        meant c (missing p q) =
            number_beyond c.bench.file.interfaces 16 c.few.interfaces
            ∙ sym (meant_by (world_scope c) (name_in text offsets lengths i) (entity_missing c h) p)
        meant c (present f p q k) = absurd (omega arith)

    pub variable_meant : n < length classes → {colon j face : ℕ} → Steps (length classes) n colon → Steps (length classes) colon j
        → NumberOf text offsets lengths d 16 (λ f. length f.interfaces ≤ 16) (λ f. interface_number f (name_in text offsets lengths j)) face
        → Meant text classes offsets lengths d start i (Some face)
    unfolding scope_of entity_or_variable interface_meant
    variable_meant l {colon} {j} {face} s t m = record { known = λ c. known c (variable_looked c); face = λ c. meant c (variable_looked c) }
      where
        known : (c : RuleWorld text classes offsets lengths d start)
            → Alike text offsets lengths (length classes) (length classes - 2) i (variable_named (variables c.rule) (name_in text offsets lengths i)) n
            → true ≡ is_known (world_scope c) (name_in text offsets lengths i)
        known c (missing p q) = absurd (omega arith)
        known c (present f p q k) = sym (known_by (world_scope c) (name_in text offsets lengths i) (entity_missing c h) p)

        meant : (c : RuleWorld text classes offsets lengths d start)
            → Alike text offsets lengths (length classes) (length classes - 2) i (variable_named (variables c.rule) (name_in text offsets lengths i)) n
            → get_elem? c.bench.file.interfaces face ≡ interface_in (world_scope c) (name_in text offsets lengths i)
        meant c (missing p q) = absurd (omega arith)
        meant c (present f p q k) =
            let x = s.steps (omega arith) in
            let y = t.steps (omega arith) in
            let z : n + 1 + 1 ≡ j = omega arith in
            let number = m.is classes c.bench c.few.interfaces in
            ap (get_elem? c.bench.file.interfaces) number ∙ face_named c.bench.file (name_in text offsets lengths j) c.few.interfaces
            ∙ sym (meant_by (world_scope c) (name_in text offsets lengths i) (entity_missing c h) p ∙ rw (q, z))

-- ---- members of a wanted sort

or_true : (b : Bool) → true ≡ b || true
or_true true = refl
or_true false = refl

module _ {want sort : ℕ} where
  pub any_sort : want ≡ NAME → SortFits want sort true
  unfolding sort_wanted
  any_sort e = record { fits = λ s p. rw (eq-eqb want NAME e) }

  pub same_sort : sort ≡ want → SortFits want sort true
  unfolding sort_wanted
  same_sort e = record { fits = λ s p. rw (eq-eqb (sort_class s) want (sym p ∙ e)) (or_true (eqb want NAME)) }

  module _ (h : want ≡ NAME → ⊥) (g : sort ≡ want → ⊥) where
    pub other_sort : (want ≡ EVENT → ⊥) → SortFits want sort false
    unfolding sort_wanted
    other_sort k = record { fits = λ s p. rw (ne_eqb want NAME h, ne_eqb (sort_class s) want (λ z. g (p ∙ z)), ne_eqb want EVENT k) }

    pub event_sort : want ≡ EVENT → SortFits want sort (eqb sort ACTION)
    unfolding sort_wanted
    event_sort k = record { fits = λ s p. rw (ne_eqb want NAME h, ne_eqb (sort_class s) want (λ z. g (p ∙ z)), eq-eqb want EVENT k, p) }

module _ {text classes offsets lengths d : List ℕ} {want : ℕ} (face i : ℕ) {m : ℕ}
    (g : NumberOf text offsets lengths d 12 (FewMembers face) (λ f. member_number (get_elem? f.interfaces face) (name_in text offsets lengths i)) m) where
  pub no_cell : 12 ≤ m → {count : ℕ} → count ≡ get_or d 0 0 → {at : ℕ} → at ≡ get_or offsets i 0 → {names : Found}
      → found_as names ≡ earliest (fault_unless (leb count face) 16 at)
      → CellOf text classes offsets lengths d face want i (record { kind = None; fault = names })
  unfolding member_kind member_faults member_number kind_if_found is_of_sort member_named fault_unless earliest
  no_cell h {count} p {at} q {names} u = record {
    kind = λ w few. kind w few (get_elem? w.file.interfaces face) refl;
    names = λ w few. (rw q at u) ∙ faults w few (get_elem? w.file.interfaces face) refl;
  }
    where
      missing_in : (w : Bench text classes offsets lengths d) → Few w.file → (x : Interface) → get_elem? w.file.interfaces face ≡ some x
          → member_named x (name_in text offsets lengths i) ≡ none
      missing_in w few x e =
          let k = g.is classes w (few.members face) ∙ ap (λ o. member_number o (name_in text offsets lengths i)) e in
          number_none (λ (y : Member). y.name) (name_in text offsets lengths i) x.members 12 (few.members face x e) (omega arith)

      kind : (w : Bench text classes offsets lengths d) → Few w.file → (o : Option Interface) → get_elem? w.file.interfaces face ≡ o
          → none ≡ member_kind o (name_row text offsets lengths i)
      kind w few none e = refl
      kind w few (some x) e = rw (missing_in w few x e)

      faults : (w : Bench text classes offsets lengths d) → Few w.file → (o : Option Interface) → get_elem? w.file.interfaces face ≡ o
          → earliest (fault_unless (leb count face) 16 (get_or offsets i 0)) ≡ earliest (member_faults (sort_wanted want) o (name_row text offsets lengths i))
      faults w few none e =
          let a = number_missing w.file.interfaces face e in
          let b = w.directory.interfaces in
          let k : count ≤ face = omega arith in
          rw (le-leb count face k)
      faults w few (some x) e =
          let a = number_below w.file.interfaces face e in
          let b = w.directory.interfaces in
          let k : face < count = omega arith in
          rw (lt-leb count face k, missing_in w few x e)

  pub a_cell : m < 12 → {kind : Kind} {sort at : ℕ} {fits : Bool} {names : Found} → MemberPart classes d face m (λ x. sort_class x.sort) sort
      → SortFits want sort fits → at ≡ get_or offsets i 0 → found_as names ≡ earliest (fault_unless fits 16 at)
      → MemberPart classes d face m (λ x. x.kind) kind
      → CellOf text classes offsets lengths d face want i (record { kind = Some kind; fault = names })
  unfolding member_kind member_faults member_number kind_if_found is_of_sort member_named
  a_cell h {kind} {sort} {at} {fits} {names} x y q u z = record {
    kind = λ w few. kind_is w few (get_elem? w.file.interfaces face) refl;
    names = λ w few. (rw q at u) ∙ faults w few (get_elem? w.file.interfaces face) refl;
  }
    where
      none_there : (w : Bench text classes offsets lengths d) → Few w.file → get_elem? w.file.interfaces face ≡ none → ⊥
      none_there w few e = let k = g.is classes w (few.members face) ∙ ap (λ o. member_number o (name_in text offsets lengths i)) e in omega arith

      found_in : (w : Bench text classes offsets lengths d) → Few w.file → (j : Interface) → get_elem? w.file.interfaces face ≡ some j
          → (f : Indexed Member) × (member_named j (name_in text offsets lengths i) ≡ some f) × (get_elem? j.members m ≡ some f.item)
      found_in w few j e =
          let k = g.is classes w (few.members face) ∙ ap (λ o. member_number o (name_in text offsets lengths i)) e in
          let (f, p, r) = number_some (λ (v : Member). v.name) (name_in text offsets lengths i) j.members 12 (few.members face j e) (rw k at h) in
          (f, p, ap (get_elem? j.members) (k ∙ sym r) ∙ found_at (λ (v : Member). v.name) (name_in text offsets lengths i) j.members p)

      kind_is : (w : Bench text classes offsets lengths d) → Few w.file → (o : Option Interface) → get_elem? w.file.interfaces face ≡ o
          → some kind ≡ member_kind o (name_row text offsets lengths i)
      kind_is w few none e = absurd (none_there w few e)
      kind_is w few (some j) e = on (found_in w few j e)
        where
          on : (f : Indexed Member) × (member_named j (name_in text offsets lengths i) ≡ some f) × (get_elem? j.members m ≡ some f.item)
              → some kind ≡ kind_if_found (member_named j (name_in text offsets lengths i))
          on (f, p, r) = rw p (ap some (z.is text offsets lengths w j f.item e r))

      faults : (w : Bench text classes offsets lengths d) → Few w.file → (o : Option Interface) → get_elem? w.file.interfaces face ≡ o
          → earliest (fault_unless fits 16 (get_or offsets i 0)) ≡ earliest (member_faults (sort_wanted want) o (name_row text offsets lengths i))
      faults w few none e = absurd (none_there w few e)
      faults w few (some j) e = on (found_in w few j e)
        where
          on : (f : Indexed Member) × (member_named j (name_in text offsets lengths i) ≡ some f) × (get_elem? j.members m ≡ some f.item)
              → earliest (fault_unless fits 16 (get_or offsets i 0))
              ≡ earliest (fault_unless (is_of_sort (sort_wanted want) (member_named j (name_in text offsets lengths i))) 16 (get_or offsets i 0))
          on (f, p, r) = rw p (ap (λ b. earliest (fault_unless b 16 (get_or offsets i 0)))
              (y.fits f.item.sort (x.is text offsets lengths w j f.item e r)))

-- ---- a variable's declaration

entity_free : (f : File) (n : List ℕ) → length f.entities ≤ 32 → leb 32 (entity_number f n) ≡ not (is_found (entity_named f n))
unfolding entity_number entity_named
entity_free f n few = number_not_found (λ (e : Entity). e.name) n f.entities 32 few

item_found : {A : Type 0} (o : Option (Indexed A)) → is_found o ≡ is_found (item_of o)
unfolding is_found item_of
item_found none = refl
item_found (some f) = refl

interface_known : (f : File) (n : List ℕ) → length f.interfaces ≤ 16 → ltb (interface_number f n) 16 ≡ is_found (interface_named f n)
unfolding interface_number interface_named
interface_known f n few =
    number_is_found (λ (i : Interface). i.name) n f.interfaces 16 few ∙ item_found (look_up (λ (i : Interface). i.name) n f.interfaces)

-- a number for none, where there is none
none_told : (most : ℕ) (o : code.Option ℕ) → IfSome o (λ k. k < most) → is_none o ≡ leb most (unwrap_or o most)
none_told most None b = sym (le-leb most most (omega arith))
none_told most (Some k) b = sym (lt-leb most k b)

some_told : (most : ℕ) (o : code.Option ℕ) → IfSome o (λ k. k < most) → is_some o ≡ ltb (unwrap_or o most) most
some_told most None b = sym (le-ltb most most (omega arith))
some_told most (Some k) b = sym (lt-ltb k most b)

pub declared_found : {text offsets lengths d : List ℕ} (n i : ℕ) {name face : List ℕ} {e k : code.Option ℕ} → name ≡ name_in text offsets lengths n
    → face ≡ name_in text offsets lengths i
    → Numbered text offsets lengths d 32 (λ f. length f.entities ≤ 32) (λ f. entity_number f name) e
    → Numbered text offsets lengths d 16 (λ f. length f.interfaces ≤ 16) (λ f. interface_number f face) k
    → {p q : ℕ} {a b : Option Fault} {r : Found} → p ≡ get_or offsets n 0 → {s : Bool} → s ≡ is_none e → a ≡ earliest (fault_unless s 15 p) → q ≡ get_or offsets i 0
    → {t : Bool} → t ≡ is_some k → b ≡ earliest (fault_unless t 16 q) → found_as r ≡ merged a b → Declared text offsets lengths d n i r
unfolding interface_faults
declared_found {text} {offsets} {lengths} {d} n i {e = e} {k = k} j l g h {r = r} x z u y o v m = record { faults = λ classes w few. go classes w few }
  where
    go : (classes : List ℕ) (w : Bench text classes offsets lengths d) → Few w.file
        → found_as r ≡ earliest (fault_unless (not (is_found (entity_named w.file (name_in text offsets lengths n)))) 15 (get_or offsets n 0)
        ++ fault_unless (is_found (interface_named w.file (name_in text offsets lengths i))) 16 (get_or offsets i 0))
    go classes w few =
        let s = z ∙ none_told 32 e g.below ∙ ap (leb 32) (g.is classes w few.entities ∙ ap (entity_number w.file) j) ∙ entity_free w.file (name_in text offsets lengths n) few.entities in
        let t = o ∙ some_told 16 k h.below ∙ ap (λ z. ltb z 16) (h.is classes w few.interfaces ∙ ap (interface_number w.file) l) ∙ interface_known w.file (name_in text offsets lengths i) few.interfaces in
        found_both (fault_unless (not (is_found (entity_named w.file (name_in text offsets lengths n)))) 15 (get_or offsets n 0))
        (fault_unless (is_found (interface_named w.file (name_in text offsets lengths i))) 16 (get_or offsets i 0)) m (u ∙ rw (s, x)) (v ∙ rw (t, y))

-- ---- names declared again

map_map : {A B C : Type 0} (f : B → C) (g : A → B) (xs : List A) → map f (map g xs) ≡ map (λ x. f (g x)) xs
map_map f g [] = refl
map_map f g (x ∷ xs) = ap (λ ys. f (g x) ∷ ys) (map_map f g xs)

pub repeated_found : {text classes offsets lengths d : List ℕ} {start : ℕ} {r : Found} → Repeated text classes offsets lengths start r
    → (c : RuleWorld text classes offsets lengths d start) → found_as r ≡ earliest (again_faults (map (λ v. v.name) (variables c.rule)))
repeated_found {text} {classes} {offsets} {lengths} {d} {start} h c =
    h.faults
    ∙ ap (λ ns. earliest (again_faults ns)) (sym (ap (map (λ (v : Variable). v.name)) (world_variables c)
    ∙ map_map (λ (v : Variable). v.name) (variable_row text offsets lengths) (names_from classes start)))

-- which sorts are wanted
pub ruleset sorts_wanted = (any_sort, same_sort, other_sort, event_sort)
