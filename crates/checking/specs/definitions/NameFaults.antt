-- Names declared again, unknown or of the wrong sort, and attributes not set: 15, 16 and 17 of document 01's table.
use Rattle.std.specs.Prelude.{Bool, false, not, ◌||◌}
use mathlib.Core.List.{List, [], ◌∷◌, ◌++◌, map, flat_map}
use Rattle.std.proofs.Math.Option.{Option, none, some}
use Rattle.text.specs.definitions.Syntax.{
  Name,
  Sort,
  Member,
  Interface,
  Entity,
  Expression,
  literal,
  member,
  to_real,
  negate,
  apply,
  Target,
  Filter,
  Test,
  changed,
  equals,
  Clause,
  Call,
  Rule,
  File,
}
use Rattle.checking.specs.definitions.Faults.{Fault, fault_unless}
use Rattle.checking.specs.definitions.Scope.{
  Indexed,
  look_up,
  is_found,
  interface_named,
  entity_named,
  member_named,
  clauses,
  Scope,
  variables,
  scope_of,
  is_known,
  interface_in,
  is_attribute,
  is_action,
  is_event,
  is_member,
}

unfoldable pub repeated_faults : List Name → List Name → List Fault
unfolding fault_unless is_found look_up
repeated_faults before [] = []
repeated_faults before (n ∷ ns) =
    fault_unless (not (is_found (look_up (λ m. m) n.bytes before))) 15 n.at ++ repeated_faults (before ++ n ∷ []) ns

-- 15: "name declared or attribute set again": a name of the list that stands among those before it
unfoldable pub again_faults : List Name → List Fault
unfolding repeated_faults
again_faults ns = repeated_faults [] ns

-- 16: "name .. unknown": of an interface
unfoldable pub interface_faults : File → Name → List Fault
unfolding fault_unless is_found interface_named
interface_faults f n = fault_unless (is_found (interface_named f n.bytes)) 16 n.at

unfoldable pub is_of_sort : (Sort → Bool) → Option (Indexed Member) → Bool
is_of_sort sort none = false
is_of_sort sort (some m) = sort m.item.sort

-- 16: ".. member unknown, or of the wrong sort there"; "A member is looked up only where its interface is known"
unfoldable pub member_faults : (Sort → Bool) → Option Interface → Name → List Fault
unfolding fault_unless is_of_sort member_named
member_faults sort none n = []
member_faults sort (some i) n = fault_unless (is_of_sort sort (member_named i n.bytes)) 16 n.at

-- "no two members of one interface (of any sort) .. share a name"
unfoldable pub interface_name_faults : Interface → List Fault
unfolding again_faults
interface_name_faults i = again_faults (map (λ m. m.name) i.members)

-- 17, place of `}`: "attribute not set"
unfoldable pub attribute_faults : Entity → Member → List Fault
unfolding fault_unless is_attribute is_found look_up
attribute_faults e m =
    fault_unless (not (is_attribute m.sort) || is_found (look_up (λ a. a.name) m.name.bytes e.assignments)) 17 e.close_at

unfoldable pub unset_faults : Entity → Option Interface → List Fault
unfolding flat_map attribute_faults
unset_faults e none = []
unset_faults e (some i) = flat_map (attribute_faults e) i.members

-- "An entity sets each attribute of its interface just once"
unfoldable pub entity_name_faults : File → Entity → List Fault
unfolding interface_faults again_faults flat_map member_faults is_attribute interface_named unset_faults
entity_name_faults f e =
    interface_faults f e.interface
    ++ again_faults (map (λ a. a.name) e.assignments)
    ++ flat_map (λ a. member_faults is_attribute (interface_named f e.interface.bytes) a.name) e.assignments
    ++ unset_faults e (interface_named f e.interface.bytes)

-- 16: "name .. unknown": neither an entity nor a variable of the rule
unfoldable pub unknown_name_faults : Scope → Name → List Fault
unfolding fault_unless is_known
unknown_name_faults s n = fault_unless (is_known s n.bytes) 16 n.at

unfoldable pub expression_name_faults : Scope → Expression → List Fault
unfolding unknown_name_faults member_faults is_member interface_in
expression_name_faults s (literal l) = []
expression_name_faults s (member n m) = unknown_name_faults s n ++ member_faults is_member (interface_in s n.bytes) m
expression_name_faults s (to_real at a) = expression_name_faults s a
expression_name_faults s (negate at a) = expression_name_faults s a
expression_name_faults s (apply o at a b) = expression_name_faults s a ++ expression_name_faults s b

-- "no variable bears an entity's name"
unfoldable pub variable_faults : Scope → Name → Name → List Fault
unfolding fault_unless is_found entity_named interface_faults
variable_faults s n i = fault_unless (not (is_found (entity_named s.file n.bytes))) 15 n.at ++ interface_faults s.file i

unfoldable pub declaration_faults : Scope → Name → Option Name → List Fault
unfolding unknown_name_faults variable_faults
declaration_faults s n none = unknown_name_faults s n
declaration_faults s n (some i) = variable_faults s n i

unfoldable pub target_name_faults : Scope → Target → List Fault
unfolding declaration_faults
target_name_faults s t = declaration_faults s t.name t.declares

unfoldable pub filter_name_faults : Scope → Target → Option Filter → List Fault
unfolding member_faults is_attribute interface_in expression_name_faults
filter_name_faults s t none = []
filter_name_faults s t (some g) = member_faults is_attribute (interface_in s t.name.bytes) g.attribute ++ expression_name_faults s g.expression

unfoldable pub test_name_faults : Scope → Test → List Fault
unfolding expression_name_faults
test_name_faults s changed = []
test_name_faults s (equals at a) = expression_name_faults s a

unfoldable pub clause_name_faults : Scope → Clause → List Fault
unfolding member_faults is_event interface_in target_name_faults filter_name_faults test_name_faults
clause_name_faults s c =
    member_faults is_event (interface_in s c.target.name.bytes) c.event
    ++ target_name_faults s c.target
    ++ filter_name_faults s c.target c.filter
    ++ test_name_faults s c.test

unfoldable pub call_name_faults : Scope → Call → List Fault
unfolding member_faults is_action interface_in expression_name_faults target_name_faults filter_name_faults
call_name_faults s c =
    member_faults is_action (interface_in s c.target.name.bytes) c.action
    ++ expression_name_faults s c.parameter
    ++ target_name_faults s c.target
    ++ filter_name_faults s c.target c.filter

-- "no two variables of a rule share a name"
unfoldable pub rule_name_faults : File → Rule → List Fault
unfolding again_faults variables flat_map clause_name_faults scope_of clauses call_name_faults
rule_name_faults f r =
    again_faults (map (λ v. v.name) (variables r))
    ++ flat_map (clause_name_faults (scope_of f r)) (clauses r.condition)
    ++ flat_map (call_name_faults (scope_of f r)) r.calls

-- "15 to 17 are one pass"; "No two interfaces, no two entities .. share a name"
unfoldable pub name_faults : File → List Fault
unfolding again_faults flat_map interface_name_faults entity_name_faults rule_name_faults
name_faults f =
    again_faults (map (λ i. i.name) f.interfaces)
    ++ flat_map interface_name_faults f.interfaces
    ++ again_faults (map (λ e. e.name) f.entities)
    ++ flat_map (entity_name_faults f) f.entities
    ++ flat_map (rule_name_faults f) f.rules
