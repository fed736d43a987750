-- What a name means (document 01, "Names and kinds").
use Rattle.std.specs.Prelude.{ℕ, suc, Bool, true, false}
use mathlib.Core.List.{List, [], ◌∷◌, ◌++◌, map, flat_map}
use Rattle.std.proofs.Math.Option.{Option, none, some}
use Rattle.std.proofs.Math.ListN.{get_elem?}
use Rattle.values.specs.definitions.Bytes.{same_bytes}
use Rattle.text.specs.definitions.Syntax.{Name, Sort, attribute, event, action, Member, Interface, Entity, Target, Clause, Condition, clause, both, either, Rule, File}

-- an item of a list, and its number in the list
pub record Indexed (A : Type 0) : Type 0 where
  pub number : ℕ
  pub item : A

module _ {A : Type 0} where
  unfoldable pub here_or_later : Bool → A → Option (Indexed A) → Option (Indexed A)
  here_or_later true x later = some (record { number = 0; item = x })
  here_or_later false x none = none
  here_or_later false x (some f) = some (record { number = suc f.number; item = f.item })

  -- "a name means its first declaration": the first item of that name
  unfoldable pub look_up : (A → Name) → List ℕ → List A → Option (Indexed A)
  unfolding here_or_later same_bytes
  look_up name_of n [] = none
  look_up name_of n (x ∷ xs) = here_or_later (same_bytes n (name_of x).bytes) x (look_up name_of n xs)

  unfoldable pub item_of : Option (Indexed A) → Option A
  item_of none = none
  item_of (some f) = some f.item

  unfoldable pub is_found : Option A → Bool
  is_found none = false
  is_found (some a) = true

unfoldable pub interface_named : File → List ℕ → Option Interface
unfolding look_up item_of
interface_named f n = item_of (look_up (λ i. i.name) n f.interfaces)

unfoldable pub entity_named : File → List ℕ → Option (Indexed Entity)
unfolding look_up
entity_named f n = look_up (λ e. e.name) n f.entities

unfoldable pub member_named : Interface → List ℕ → Option (Indexed Member)
unfolding look_up
member_named i n = look_up (λ m. m.name) n i.members

unfoldable pub interface_of_entity : File → Option Entity → Option Interface
unfolding interface_named
interface_of_entity f none = none
interface_of_entity f (some e) = interface_named f e.interface.bytes

-- the interface of entity number e
unfoldable pub interface_of : File → ℕ → Option Interface
unfolding interface_of_entity
interface_of f e = interface_of_entity f (get_elem? f.entities e)

unfoldable pub nth_member : Option Interface → ℕ → Option Member
nth_member none m = none
nth_member (some i) m = get_elem? i.members m

-- member number m of entity number e
unfoldable pub member_of : File → ℕ → ℕ → Option Member
unfolding interface_of nth_member
member_of f e m = nth_member (interface_of f e) m

-- the clauses of a condition, in the order of the text
unfoldable pub clauses : Condition → List Clause
clauses (clause c) = c ∷ []
clauses (both a b) = clauses a ++ clauses b
clauses (either a b) = clauses a ++ clauses b

-- the targets of a rule, in the order of the text
unfoldable pub targets : Rule → List Target
unfolding clauses
targets r = map (λ c. c.target) (clauses r.condition) ++ map (λ c. c.target) r.calls

-- "name `:` interface declares a variable"
pub record Variable : Type 0 where
  pub name : Name
  pub interface : Name

unfoldable pub declared_as : Name → Option Name → List Variable
declared_as n none = []
declared_as n (some i) = record { name = n; interface = i } ∷ []

-- every declaration of a variable in a rule
unfoldable pub variables : Rule → List Variable
unfolding flat_map declared_as targets
variables r = flat_map (λ t. declared_as t.name t.declares) (targets r)

unfoldable pub variable_named : List Variable → List ℕ → Option (Indexed Variable)
unfolding look_up
variable_named vs n = look_up (λ v. v.name) n vs

-- where a rule's names are looked up: "A variable may be used anywhere in its rule"
pub record Scope : Type 0 where
  pub file : File
  pub variables : List Variable

unfoldable pub scope_of : File → Rule → Scope
unfolding variables
scope_of f r = record { file = f; variables = variables r }

unfoldable pub entity_or_variable : Option (Indexed Entity) → Option (Indexed Variable) → Bool
entity_or_variable none none = false
entity_or_variable none (some v) = true
entity_or_variable (some e) v = true

-- "a bare name is an entity or a variable of the rule"
unfoldable pub is_known : Scope → List ℕ → Bool
unfolding entity_or_variable entity_named variable_named
is_known s n = entity_or_variable (entity_named s.file n) (variable_named s.variables n)

unfoldable pub interface_meant : File → Option (Indexed Entity) → Option (Indexed Variable) → Option Interface
unfolding interface_named
interface_meant f none none = none
interface_meant f none (some v) = interface_named f v.item.interface.bytes
interface_meant f (some e) v = interface_named f e.item.interface.bytes

-- the interface of what a name means, if both are known: an entity comes before a variable of its name
unfoldable pub interface_in : Scope → List ℕ → Option Interface
unfolding interface_meant entity_named variable_named
interface_in s n = interface_meant s.file (entity_named s.file n) (variable_named s.variables n)

unfoldable pub is_attribute : Sort → Bool
is_attribute attribute = true
is_attribute event = false
is_attribute action = false

unfoldable pub is_action : Sort → Bool
is_action attribute = false
is_action event = false
is_action action = true

-- "An action's name is also readable as an event"
unfoldable pub is_event : Sort → Bool
is_event attribute = false
is_event event = true
is_event action = true

unfoldable pub is_member : Sort → Bool
is_member s = true
