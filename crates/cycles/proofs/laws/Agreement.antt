-- Stores, states and lines that agree on a set of entities; one rule at one binding reads the same in stores that agree on all that its names lead to.
use Prim.Native.Nat.{ℕ}
use mathlib.Core.Path.{◌≡◌, refl, ap, ap₂}
use mathlib.Core.Bool.{◌&&◌, ◌||◌}
use mathlib.Core.List.{List, flat_map}
use mathlib.Core.Option.{Option, none, some}
use Rattle.values.specs.definitions.Value.{operated, negated, as_real}
use Rattle.text.specs.definitions.Syntax.{
  Name,
  Expression,
  literal,
  member,
  to_real,
  negate,
  apply,
  Target,
  Filter,
  Test,
  changed,
  equals,
  Clause,
  Condition,
  clause,
  both,
  either,
  Call,
  Rule,
  priority_of,
}
use Rattle.checking.specs.definitions.Scope.{clauses}
use Rattle.cycles.specs.definitions.Store.{Store, Inputs, Stores}
use Rattle.cycles.specs.definitions.Spots.{Spot, Spots}
use Rattle.cycles.specs.inner_contracts.TotalMachine.{
  value_at,
  is_present_at,
  value,
  filter_holds,
  test_holds,
  clause_holds,
  holds,
  call_writes,
  writes_if,
  binding_writes,
}
use Rattle.cycles.specs.definitions.ClosedSet.{
  here,
  there,
  names_in,
  names_in_filter,
  names_in_test,
  names_in_clause,
  names_in_call,
  names_in_rule,
}
use Rattle.cycles.proofs.laws.AmongLaws.{AllIn, among_left, among_right, among_flatMap, flatMap_same}
use Rattle.cycles.proofs.laws.BindingLaws.{SpotIn}

-- the same presence and cells for the entities of a set
pub record StoresAgree (S : ℕ → Type 0) (s t : Store) : Type 0 where
  pub presence : (e : ℕ) → S e → s.present e ≡ t.present e
  pub cells : (e m : ℕ) → S e → s.cell e m ≡ t.cell e m

-- the same now and previous
pub record BothAgree (S : ℕ → Type 0) (s t : Stores) : Type 0 where
  pub now : StoresAgree S s.now t.now
  pub previous : StoresAgree S s.previous t.previous

pub same_stores : (S : ℕ → Type 0) (s : Stores) → BothAgree S s s
same_stores S s = record {
  now = record { presence = λ e i. refl; cells = λ e m i. refl };
  previous = record { presence = λ e i. refl; cells = λ e m i. refl };
}

-- the same readings for the entities of a set
pub record InputsAgree (S : ℕ → Type 0) (i j : Inputs) : Type 0 where
  pub presence : (e : ℕ) → S e → i.presence e ≡ j.presence e
  pub given : (e m : ℕ) → S e → i.given e m ≡ j.given e m

module _ (S : ℕ → Type 0) (s t : Store) (g : StoresAgree S s t) where
  value_at_agree : (o : Option Spot) → SpotIn S o → value_at s o ≡ value_at t o
  unfolding value_at
  value_at_agree none h = refl
  value_at_agree (some p) h = rw (g.presence p.entity h, g.cells p.entity p.member h)

  is_present_at_agree : (o : Option Spot) → SpotIn S o → is_present_at s o ≡ is_present_at t o
  unfolding is_present_at
  is_present_at_agree none h = refl
  is_present_at_agree (some p) h = g.presence p.entity h

-- the names of a list lead only to spots in the set
abbrev pub NamesIn : (ℕ → Type 0) → Spots → List Name → Type 0
NamesIn S sp ns = AllIn ns (λ n. (m : List ℕ) → SpotIn S (sp n.bytes m))

-- expressions, conditions and calls whose names lead into the set, in stores that agree on it
module _ (S : ℕ → Type 0) (sp : Spots) where
  module _ (s t : Store) (g : StoresAgree S s t) where
    value_agree : (a : Expression) → NamesIn S sp (names_in a) → value sp s a ≡ value sp t a
    unfolding value names_in
    value_agree (literal l) h = refl
    value_agree (member n m) h = value_at_agree S s t g (sp n.bytes m.bytes) (h n here m.bytes)
    value_agree (to_real at a) h = ap as_real (value_agree a h)
    value_agree (negate at a) h = ap negated (value_agree a h)
    value_agree (apply o at a b) h =
        ap₂ (operated o) (value_agree a (λ n i. h n (among_left i (names_in b)))) (value_agree b (λ n i. h n (among_right (names_in a) i)))

    filter_agree : (p : Target) (o : Option Filter) → ((m : List ℕ) → SpotIn S (sp p.name.bytes m)) → NamesIn S sp (names_in_filter o)
        → filter_holds sp s p o ≡ filter_holds sp t p o
    unfolding filter_holds names_in_filter
    filter_agree p none i j = refl
    filter_agree p (some o) i j =
        rw (value_at_agree S s t g (sp p.name.bytes o.attribute.bytes) (i o.attribute.bytes), value_agree o.expression j)

  module _ (now previous now' previous' : Store) (g : StoresAgree S now now') (h : StoresAgree S previous previous') where
    test_agree : (o : Option Spot) (x : Test) → SpotIn S o → NamesIn S sp (names_in_test x)
        → test_holds sp now previous o x ≡ test_holds sp now' previous' o x
    unfolding test_holds names_in_test
    test_agree o changed i j = rw (value_at_agree S now now' g o i, value_at_agree S previous previous' h o i)
    test_agree o (equals at a) i j =
        rw (value_at_agree S now now' g o i, value_at_agree S previous previous' h o i, value_agree now now' g a j, value_agree previous previous' h a j)

    clause_agree : (c : Clause) → NamesIn S sp (names_in_clause c) → clause_holds sp now previous c ≡ clause_holds sp now' previous' c
    unfolding clause_holds names_in_clause
    clause_agree c i =
        let p = sp c.target.name.bytes c.event.bytes in
        let j : (m : List ℕ) → SpotIn S (sp c.target.name.bytes m) = i c.target.name here in
        rw (
          is_present_at_agree S now now' g p (j c.event.bytes),
          filter_agree now now' g c.target c.filter j (λ n a. i n (there (among_left a (names_in_test c.test)))),
          test_agree p c.test (j c.event.bytes) (λ n a. i n (there (among_right (names_in_filter c.filter) a))),
        )

    holds_agree : (c : Condition) → AllIn (clauses c) (λ d. NamesIn S sp (names_in_clause d)) → holds sp now previous c ≡ holds sp now' previous' c
    unfolding holds clauses
    holds_agree (clause c) i = clause_agree c (i c here)
    holds_agree (both a b) i =
        ap₂ ◌&&◌ (holds_agree a (λ c j. i c (among_left j (clauses b)))) (holds_agree b (λ c j. i c (among_right (clauses a) j)))
    holds_agree (either a b) i =
        ap₂ ◌||◌ (holds_agree a (λ c j. i c (among_left j (clauses b)))) (holds_agree b (λ c j. i c (among_right (clauses a) j)))

    call_agree : (priority : ℕ) (c : Call) → NamesIn S sp (names_in_call c) → call_writes sp now priority c ≡ call_writes sp now' priority c
    unfolding call_writes names_in_call
    call_agree priority c i =
        let p = sp c.target.name.bytes c.action.bytes in
        let j : (m : List ℕ) → SpotIn S (sp c.target.name.bytes m) = i c.target.name here in
        rw (
          is_present_at_agree S now now' g p (j c.action.bytes),
          filter_agree now now' g c.target c.filter j (λ n a. i n (there (among_right (names_in c.parameter) a))),
          value_agree now now' g c.parameter (λ n a. i n (there (among_left a (names_in_filter c.filter)))),
        )

    pub binding_writes_agree : (r : Rule) → NamesIn S sp (names_in_rule r) → binding_writes sp now previous r ≡ binding_writes sp now' previous' r
    unfolding binding_writes names_in_rule
    binding_writes_agree r i =
        ap₂ writes_if
        (holds_agree r.condition (λ c a n b. i n (among_left (among_flatMap names_in_clause a n b) (flat_map names_in_call r.calls))))
        (flatMap_same (call_writes sp now (priority_of r)) (call_writes sp now' (priority_of r)) r.calls
        (λ c a. call_agree (priority_of r) c (λ n b. i n (among_right (flat_map names_in_clause (clauses r.condition)) (among_flatMap names_in_call a n b)))))
