-- Kinds that do not fit: 18 of document 01's table ("Names and kinds").
use Rattle.std.specs.Prelude.{ℕ}
use mathlib.Core.List.{List, [], ◌++◌, flat_map}
use Rattle.std.proofs.Math.Option.{Option, none, some, bind}
use Rattle.values.specs.declared.Kind.{Kind}
use Rattle.values.specs.definitions.Fitting.{number_kind, operated_kind, real_kind, operand_fits, operands_fit, kinds_fit}
use Rattle.text.specs.definitions.Syntax.{
  Name,
  Member,
  Interface,
  literal_kind,
  Assignment,
  Entity,
  Expression,
  literal,
  member,
  to_real,
  negate,
  apply,
  Target,
  Filter,
  Test,
  changed,
  equals,
  Clause,
  Call,
  Rule,
  File,
}
use Rattle.checking.specs.definitions.Faults.{Fault, fault_unless}
use Rattle.checking.specs.definitions.Scope.{Indexed, interface_named, member_named, clauses, Scope, scope_of, interface_in}

unfoldable pub kind_if_found : Option (Indexed Member) → Option Kind
kind_if_found none = none
kind_if_found (some m) = some m.item.kind

unfoldable pub member_kind : Option Interface → Name → Option Kind
unfolding kind_if_found member_named
member_kind none n = none
member_kind (some i) n = kind_if_found (member_named i n.bytes)

unfoldable pub kind_in : Scope → Name → Name → Option Kind
unfolding member_kind interface_in
kind_in s n m = member_kind (interface_in s n.bytes) m

-- "A sum with a fault inside has no kind": a name or member that is not found gives none, and so does the table for what does not fit
unfoldable pub kind_of : Scope → Expression → Option Kind
unfolding literal_kind kind_in bind real_kind number_kind operated_kind
kind_of s (literal l) = some (literal_kind l)
kind_of s (member n m) = kind_in s n m
kind_of s (to_real at a) = bind (kind_of s a) real_kind
kind_of s (negate at a) = bind (kind_of s a) number_kind
kind_of s (apply o at a b) = bind (kind_of s a) λ j. bind (kind_of s b) λ k. operated_kind j k

-- 18, place: "first .. operator, `real` .. of unfitting kinds"
unfoldable pub expression_kind_faults : Scope → Expression → List Fault
unfolding fault_unless operand_fits real_kind number_kind operands_fit kind_of
expression_kind_faults s (literal l) = []
expression_kind_faults s (member n m) = []
expression_kind_faults s (to_real at a) = fault_unless (operand_fits real_kind (kind_of s a)) 18 at ++ expression_kind_faults s a
expression_kind_faults s (negate at a) = fault_unless (operand_fits number_kind (kind_of s a)) 18 at ++ expression_kind_faults s a
expression_kind_faults s (apply o at a b) =
    fault_unless (operands_fit (kind_of s a) (kind_of s b)) 18 at ++ expression_kind_faults s a ++ expression_kind_faults s b

-- "Both sides of `=` have one kind; so have a parameter and its action": a cell's kind, the offset of `=` or `(`, an expression
unfoldable pub matched_kind_faults : Scope → Option Kind → ℕ → Expression → List Fault
unfolding fault_unless kinds_fit kind_of expression_kind_faults
matched_kind_faults s k at a = fault_unless (kinds_fit k (kind_of s a)) 18 at ++ expression_kind_faults s a

unfoldable pub assignment_kind_faults : Option Interface → Assignment → List Fault
unfolding fault_unless kinds_fit member_kind literal_kind
assignment_kind_faults i a = fault_unless (kinds_fit (member_kind i a.name) (some (literal_kind a.literal))) 18 a.equals_at

unfoldable pub entity_kind_faults : File → Entity → List Fault
unfolding flat_map assignment_kind_faults interface_named
entity_kind_faults f e = flat_map (assignment_kind_faults (interface_named f e.interface.bytes)) e.assignments

unfoldable pub filter_kind_faults : Scope → Target → Option Filter → List Fault
unfolding matched_kind_faults kind_in
filter_kind_faults s t none = []
filter_kind_faults s t (some g) = matched_kind_faults s (kind_in s t.name g.attribute) g.equals_at g.expression

unfoldable pub test_kind_faults : Scope → Option Kind → Test → List Fault
unfolding matched_kind_faults
test_kind_faults s k changed = []
test_kind_faults s k (equals at a) = matched_kind_faults s k at a

unfoldable pub clause_kind_faults : Scope → Clause → List Fault
unfolding filter_kind_faults test_kind_faults kind_in
clause_kind_faults s c = filter_kind_faults s c.target c.filter ++ test_kind_faults s (kind_in s c.target.name c.event) c.test

unfoldable pub call_kind_faults : Scope → Call → List Fault
unfolding matched_kind_faults filter_kind_faults kind_in
call_kind_faults s c =
    matched_kind_faults s (kind_in s c.target.name c.action) c.open_at c.parameter
    ++ filter_kind_faults s c.target c.filter

unfoldable pub rule_kind_faults : File → Rule → List Fault
unfolding flat_map clause_kind_faults call_kind_faults clauses scope_of
rule_kind_faults f r = flat_map (clause_kind_faults (scope_of f r)) (clauses r.condition) ++ flat_map (call_kind_faults (scope_of f r)) r.calls

unfoldable pub kind_faults : File → List Fault
unfolding flat_map entity_kind_faults rule_kind_faults
kind_faults f = flat_map (entity_kind_faults f) f.entities ++ flat_map (rule_kind_faults f) f.rules
