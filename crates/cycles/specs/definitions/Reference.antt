-- The reference machine, document 01's bare machine, at one binding: "Of each choice it works out every clause and, if the condition holds, every call's `with` and parameter."
use Rattle.std.specs.Prelude.{ℕ, List, [], ◌∷◌, Bool, true, false, not, ◌&&◌, ◌||◌}
use Rattle.std.proofs.Math.Option.{Option, none, some}
use Rattle.values.specs.declared.Value.{Value}
use Rattle.values.specs.definitions.Value.{is_set, operated, negated, as_real, equal, differ}
use Rattle.values.specs.definitions.Storable.{of_kind}
use Rattle.values.specs.definitions.Fitting.{number_kind, real_kind, operand_fits, operands_fit, kinds_fit, value_kind}
use Rattle.text.specs.definitions.Syntax.{
  Sort,
  literal_value,
  Expression,
  literal,
  member,
  to_real,
  negate,
  apply,
  Target,
  Filter,
  Test,
  changed,
  equals,
  Clause,
  Condition,
  clause,
  both,
  either,
  Call,
  Rule,
  priority_of,
}
use Rattle.checking.specs.definitions.Scope.{is_attribute, is_action, is_event}
use Rattle.writes.specs.definitions.Writes.{Write}
use Rattle.cycles.specs.definitions.Outcome.{Outcome, running, proceed, with_found, run_if, collected}
use Rattle.cycles.specs.definitions.Store.{Store, read_cell}
use Rattle.cycles.specs.definitions.Spots.{Spot, Spots}

-- ---- what is read and written

unfoldable pub read_spot : Store → Spot → Value
unfolding read_cell
read_spot s p = read_cell s p.entity p.member

-- document 02, order 6: "The write of the highest rank stands": a write carries the priority of its rule
unfoldable pub written_if : Bool → Option Spot → (priority : ℕ) → Value → List Write
written_if false p priority v = []
written_if true none priority v = []
written_if true (some p) priority v = record { entity = p.entity; member = p.member; priority = priority; value = v } ∷ []

-- ---- one binding

-- "It stops .. where `=`, an operator, `real` or a parameter meets values of unfitting kinds"
unfoldable pub ref_equal : Value → Value → Outcome Bool
unfolding run_if kinds_fit value_kind
ref_equal a b = run_if (kinds_fit (value_kind a) (value_kind b)) (running (equal a b))

unfoldable pub ref_value : Spots → Store → Expression → Outcome Value
unfolding with_found proceed run_if read_spot literal_value operand_fits real_kind number_kind operands_fit value_kind
ref_value sp s (literal l) = running (literal_value l)
ref_value sp s (member n m) = with_found (sp n.bytes m.bytes) λ p. running (read_spot s p)
ref_value sp s (to_real at a) = proceed (ref_value sp s a) λ x. run_if (operand_fits real_kind (value_kind x)) (running (as_real x))
ref_value sp s (negate at a) = proceed (ref_value sp s a) λ x. run_if (operand_fits number_kind (value_kind x)) (running (negated x))
ref_value sp s (apply o at a b) =
    proceed (ref_value sp s a) λ x.
    proceed (ref_value sp s b) λ y.
    run_if (operands_fit (value_kind x) (value_kind y)) (running (operated o x y))

-- a member that is not of the sort wanted there is not found
unfoldable pub with_sort : (Sort → Bool) → Option Spot → {B : Type 0} → (Spot → Outcome B) → Outcome B
unfolding with_found run_if
with_sort sort p next = with_found p λ q. run_if (sort q.what.sort) (next q)

-- "`with` attribute `=` sum", at a target, read in one store
unfoldable pub ref_filter : Spots → Store → Target → Option Filter → Outcome Bool
unfolding with_sort is_attribute proceed ref_value ref_equal
ref_filter sp s t none = running true
ref_filter sp s t (some g) =
    with_sort is_attribute (sp t.name.bytes g.attribute.bytes) λ p.
    proceed (ref_value sp s g.expression) λ x.
    ref_equal (read_spot s p) x

-- "`value = X` holds if equal now and not equal one cycle before, X worked out in each. `changed` holds if the two values differ"
unfoldable pub ref_test : Spots → Store → Store → Spot → Test → Outcome Bool
unfolding proceed ref_value ref_equal
ref_test sp now previous p changed = running (differ (read_spot now p) (read_spot previous p))
ref_test sp now previous p (equals at a) =
    proceed (ref_value sp now a) λ x.
    proceed (ref_value sp previous a) λ y.
    proceed (ref_equal (read_spot now p) x) λ i.
    proceed (ref_equal (read_spot previous p) y) λ j.
    running (i && not j)

-- "A clause at an absent entity is false"; document 02, order 1: "a clause's `with` reads the present cycle, as a call's does; `value = X` and
-- `changed` still compare two cycles"
unfoldable pub ref_clause : Spots → Store → Store → Clause → Outcome Bool
unfolding with_sort is_event proceed ref_filter ref_test
ref_clause sp now previous c =
    with_sort is_event (sp c.target.name.bytes c.event.bytes) λ p.
    proceed (ref_filter sp now c.target c.filter) λ i.
    proceed (ref_test sp now previous p c.test) λ j.
    running (now.present p.entity && (i && j))

unfoldable pub ref_holds : Spots → Store → Store → Condition → Outcome Bool
unfolding ref_clause proceed
ref_holds sp now previous (clause c) = ref_clause sp now previous c
ref_holds sp now previous (both a b) =
    proceed (ref_holds sp now previous a) λ i. proceed (ref_holds sp now previous b) λ j. running (i && j)
ref_holds sp now previous (either a b) =
    proceed (ref_holds sp now previous a) λ i. proceed (ref_holds sp now previous b) λ j. running (i || j)

-- "a call's `with` and parameter read now"; "a call there writes nothing", at an absent entity; "An unset parameter writes nothing"
unfoldable pub ref_call : Spots → Store → (priority : ℕ) → Call → Outcome (List Write)
unfolding with_sort is_action proceed ref_value run_if of_kind ref_filter written_if
ref_call sp now priority c =
    with_sort is_action (sp c.target.name.bytes c.action.bytes) λ p.
    proceed (ref_value sp now c.parameter) λ v.
    run_if (of_kind p.what.kind v)
    (proceed (ref_filter sp now c.target c.filter) λ i.
    running (written_if (now.present p.entity && (i && is_set v)) (some p) priority v))

unfoldable pub ref_writes_if : Bool → Spots → Store → (priority : ℕ) → List Call → Outcome (List Write)
unfolding collected ref_call
ref_writes_if true sp now priority cs = collected (ref_call sp now priority) cs
ref_writes_if false sp now priority cs = running []

unfoldable pub ref_binding_writes : Spots → Store → Store → Rule → Outcome (List Write)
unfolding proceed ref_holds ref_writes_if priority_of
ref_binding_writes sp now previous r = proceed (ref_holds sp now previous r.condition) λ b. ref_writes_if b sp now (priority_of r) r.calls
