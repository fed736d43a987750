-- Closed sets of entities (document 01, "A set of entities is closed if ..").
use Rattle.std.specs.Prelude.{ℕ, ◌≡◌, Bool, false, T, eqb}
use mathlib.Core.List.{List, [], ◌∷◌, ◌++◌, flat_map}
use Rattle.std.proofs.Math.Option.{Option, none, some}
use Rattle.std.proofs.Math.ListN.{get_elem?}
use Rattle.values.specs.definitions.Bytes.{same_bytes}
use Rattle.text.specs.definitions.Syntax.{
  Name,
  Entity,
  Expression,
  literal,
  member,
  to_real,
  negate,
  apply,
  Filter,
  Test,
  changed,
  equals,
  Clause,
  Call,
  Rule,
  File,
}
use Rattle.checking.specs.definitions.Scope.{Indexed, is_found, entity_named, clauses, Variable, variables, variable_named}

module _ {A : Type 0} where
  pub data Among (x : A) : List A → Type 0 where
    here : {xs : List A} → Among x (x ∷ xs)
    there : {y : A} {xs : List A} → Among x xs → Among x (y ∷ xs)

unfoldable pub entity_is_of : List ℕ → Option Entity → Bool
unfolding same_bytes
entity_is_of i none = false
entity_is_of i (some e) = same_bytes e.interface.bytes i

-- is entity number e of the interface of that name?
unfoldable pub is_of : File → List ℕ → ℕ → Bool
unfolding entity_is_of
is_of f i e = entity_is_of i (get_elem? f.entities e)

unfoldable pub can_mean : File → Option (Indexed Entity) → Option (Indexed Variable) → ℕ → Bool
unfolding is_of
can_mean f none none e = false
can_mean f none (some v) e = is_of f v.item.interface.bytes e
can_mean f (some d) v e = eqb d.number e

-- a call's target "can be one of them (named, or by its variable's interface)"
unfoldable pub can_be : File → List Variable → List ℕ → ℕ → Bool
unfolding can_mean entity_named variable_named
can_be f vs n e = can_mean f (entity_named f n) (variable_named vs n) e

unfoldable pub names_in : Expression → List Name
names_in (literal l) = []
names_in (member n m) = n ∷ []
names_in (to_real at a) = names_in a
names_in (negate at a) = names_in a
names_in (apply o at a b) = names_in a ++ names_in b

unfoldable pub names_in_filter : Option Filter → List Name
unfolding names_in
names_in_filter none = []
names_in_filter (some g) = names_in g.expression

unfoldable pub names_in_test : Test → List Name
unfolding names_in
names_in_test changed = []
names_in_test (equals at a) = names_in a

unfoldable pub names_in_clause : Clause → List Name
unfolding names_in_filter names_in_test
names_in_clause c = c.target.name ∷ names_in_filter c.filter ++ names_in_test c.test

unfoldable pub names_in_call : Call → List Name
unfolding names_in names_in_filter
names_in_call c = c.target.name ∷ names_in c.parameter ++ names_in_filter c.filter

-- the names of entities and variables that a rule has anywhere
unfoldable pub names_in_rule : Rule → List Name
unfolding flat_map clauses names_in_clause names_in_call
names_in_rule r = flat_map names_in_clause (clauses r.condition) ++ flat_map names_in_call r.calls

-- "every entity that the rule names and every entity of each of its variables' interfaces is in the set"
pub record ReadsInside (f : File) (S : ℕ → Type 0) (r : Rule) : Type 0 where
  pub named : (n : Name) (d : Indexed Entity) → Among n (names_in_rule r) → entity_named f n.bytes ≡ some d → S d.number
  pub ranged : (v : Variable) (e : ℕ) → Among v (variables r) → T (is_of f v.interface.bytes e) → S e

-- "A set of entities is closed if, for each rule with a call whose place can be one of them .."
pub record Closed (f : File) (S : ℕ → Type 0) : Type 0 where
  pub entities : (e : ℕ) → S e → T (is_found (get_elem? f.entities e))
  pub rules : (r : Rule) (c : Call) (e : ℕ) → Among r f.rules → Among c r.calls → S e
      → T (can_be f (variables r) c.target.name.bytes e) → ReadsInside f S r
