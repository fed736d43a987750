-- The total machine, which code computes: the reference machine (Reference, Bindings, Cycle), but what that is stuck at gives unset, false or no
-- write here. For accepted files the two are equal (`accepted_sound`), so nobody has to believe this one.
use Rattle.std.specs.Prelude.{ℕ, Bool, true, false, not, ◌&&◌, ◌||◌}
use mathlib.Core.List.{List, [], flat_map}
use Rattle.std.proofs.Math.Option.{Option, none, some}
use Rattle.values.specs.declared.Value.{Value}
use Rattle.values.specs.declared.Value.TheVariants.{Unset}
use Rattle.values.specs.definitions.Value.{is_set, fitted, settled, operated, negated, as_real, equal, differ}
use Rattle.text.specs.definitions.Syntax.{
  literal_value,
  Expression,
  literal,
  member,
  to_real,
  negate,
  apply,
  Target,
  Filter,
  Test,
  changed,
  equals,
  Clause,
  Condition,
  clause,
  both,
  either,
  Call,
  Rule,
  File,
  priority_of,
}
use Rattle.checking.specs.definitions.Scope.{variables}
use Rattle.writes.specs.definitions.Writes.{Write}
use Rattle.cycles.specs.definitions.Store.{Store, Inputs, Stores}
use Rattle.cycles.specs.definitions.Spots.{Spot, Spots, spots}
use Rattle.cycles.specs.definitions.Reference.{read_spot, written_if}
use Rattle.cycles.specs.definitions.Bindings.{bindings}
use Rattle.cycles.specs.definitions.Cycle.{seen, next_stores}

unfoldable pub value_at : Store → Option Spot → Value
unfolding read_spot
value_at s none = Unset
value_at s (some p) = read_spot s p

unfoldable pub is_present_at : Store → Option Spot → Bool
is_present_at s none = false
is_present_at s (some p) = s.present p.entity

unfoldable pub value : Spots → Store → Expression → Value
unfolding literal_value value_at fitted settled
value sp s (literal l) = literal_value l
value sp s (member n m) = value_at s (sp n.bytes m.bytes)
value sp s (to_real at a) = as_real (value sp s a)
value sp s (negate at a) = negated (value sp s a)
value sp s (apply o at a b) = operated o (value sp s a) (value sp s b)

-- as `ref_filter`
unfoldable pub filter_holds : Spots → Store → Target → Option Filter → Bool
unfolding value_at value
filter_holds sp s t none = true
filter_holds sp s t (some g) = equal (value_at s (sp t.name.bytes g.attribute.bytes)) (value sp s g.expression)

-- as `ref_test`
unfoldable pub test_holds : Spots → Store → Store → Option Spot → Test → Bool
unfolding value_at value
test_holds sp now previous p changed = differ (value_at now p) (value_at previous p)
test_holds sp now previous p (equals at a) =
    equal (value_at now p) (value sp now a) && not (equal (value_at previous p) (value sp previous a))

-- as `ref_clause`
unfoldable pub clause_holds : Spots → Store → Store → Clause → Bool
unfolding is_present_at filter_holds test_holds
clause_holds sp now previous c =
    is_present_at now (sp c.target.name.bytes c.event.bytes)
    && (filter_holds sp now c.target c.filter
    && test_holds sp now previous (sp c.target.name.bytes c.event.bytes) c.test)

unfoldable pub holds : Spots → Store → Store → Condition → Bool
unfolding clause_holds
holds sp now previous (clause c) = clause_holds sp now previous c
holds sp now previous (both a b) = holds sp now previous a && holds sp now previous b
holds sp now previous (either a b) = holds sp now previous a || holds sp now previous b

-- as `ref_call`
unfoldable pub call_writes : Spots → Store → (priority : ℕ) → Call → List Write
unfolding written_if is_present_at filter_holds value
call_writes sp now priority c =
    written_if
    (is_present_at now (sp c.target.name.bytes c.action.bytes)
    && (filter_holds sp now c.target c.filter
    && is_set (value sp now c.parameter)))
    (sp c.target.name.bytes c.action.bytes)
    priority
    (value sp now c.parameter)

unfoldable pub writes_if : Bool → List Write → List Write
writes_if true ws = ws
writes_if false ws = []

-- a rule at one binding
unfoldable pub binding_writes : Spots → Store → Store → Rule → List Write
unfolding writes_if holds flat_map call_writes priority_of
binding_writes sp now previous r = writes_if (holds sp now previous r.condition) (flat_map (call_writes sp now (priority_of r)) r.calls)

-- ---- all rules, as `ref_all_writes`

unfoldable pub rule_writes : File → Store → Store → Rule → List Write
unfolding flat_map binding_writes spots bindings variables
rule_writes f now previous r = flat_map (λ b. binding_writes (spots f (variables r) b) now previous r) (bindings f now (variables r))

unfoldable pub all_writes : File → Store → Store → List Write
unfolding flat_map rule_writes
all_writes f now previous = flat_map (rule_writes f now previous) f.rules

-- ---- a cycle, as `ref_cycle`

unfoldable pub cycle : File → Stores → Inputs → Stores
unfolding next_stores all_writes
cycle f s i = next_stores f s i (all_writes f (seen f s.now i) s.previous)
