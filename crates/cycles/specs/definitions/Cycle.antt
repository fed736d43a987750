-- A cycle, and the fresh stores (document 01, "The bare machine"). It asks for the two stores and a line's readings alone, whoever sent the line.
use Rattle.std.specs.Prelude.{ℕ, List, Bool, true, false, not, ◌&&◌, cond}
use Rattle.std.proofs.Math.Option.{Option, none, some, get_or}
use Rattle.std.proofs.Math.ListN.{get_elem?}
use Rattle.values.specs.declared.Value.{Value}
use Rattle.values.specs.declared.Value.TheVariants.{Unset}
use Rattle.values.specs.declared.Kind.{Kind}
use Rattle.values.specs.definitions.Storable.{of_kind}
use Rattle.text.specs.definitions.Syntax.{Sort, Member, Interface, Assignment, literal_value, Entity, File}
use Rattle.checking.specs.definitions.Scope.{Indexed, look_up, is_found, member_of, interface_named, member_named, is_attribute, is_action}
use Rattle.writes.specs.definitions.Writes.{Write, standing, written_value}
use Rattle.cycles.specs.definitions.Outcome.{Outcome, running, proceed, run_if}
use Rattle.cycles.specs.definitions.Store.{Store, Inputs, Stores}
use Rattle.cycles.specs.definitions.Spots.{every, cells}
use Rattle.cycles.specs.definitions.Bindings.{ref_all_writes}

unfoldable pub is_sort : (Sort → Bool) → Option Member → Bool
is_sort sort none = false
is_sort sort (some m) = sort m.sort

-- is the entity present after the line's presence?
unfoldable pub present_after : Store → Inputs → ℕ → Bool
present_after s i e = get_or (i.presence e) (s.present e)

unfoldable pub leaves : Store → Inputs → ℕ → Bool
unfolding present_after
leaves s i e = s.present e && not (present_after s i e)

-- "Presence is applied, then readings. An entity that leaves has events and actions unset"
unfoldable pub seen : File → Store → Inputs → Store
unfolding present_after leaves is_sort is_attribute member_of
seen f s i = record {
  present = present_after s i;
  cell = λ e m. get_or (i.given e m) (cond (leaves s i e && not (is_sort is_attribute (member_of f e m))) Unset (s.cell e m));
}

-- "Action cells become unset, then take the writes", of which document 02, order 6 says: "The write of the highest rank stands; among equal ranks the
-- earliest write does"
unfoldable pub stored : File → Store → List Write → Store
unfolding is_sort is_action member_of written_value standing
stored f s ws = record {
  present = s.present;
  cell = λ e m. cond (is_sort is_action (member_of f e m)) (written_value (standing e m ws)) (s.cell e m);
}

unfoldable pub next_stores : File → Stores → Inputs → List Write → Stores
unfolding seen stored
next_stores f s i ws = record { now = stored f (seen f s.now i) ws; previous = seen f s.now i }

unfoldable pub input_fits : Kind → Option Value → Bool
unfolding of_kind
input_fits k none = true
input_fits k (some v) = of_kind k v

-- the reference machine stops "where a reading's kind isn't its cell's", or an entity's interface isn't found
unfoldable pub inputs_fit : File → Inputs → Bool
unfolding every input_fits cells is_found interface_named
inputs_fit f i =
    every (λ e. is_found (interface_named f e.interface.bytes)) f.entities
    && every (λ p. input_fits p.what.kind (i.given p.entity p.member)) (cells f)

-- a cycle for one line: the rules read the line's store as now, and the one before as previous
unfoldable pub ref_cycle : File → Stores → Inputs → Outcome Stores
unfolding run_if inputs_fit proceed ref_all_writes next_stores
ref_cycle f s i =
    run_if (inputs_fit f i)
    (proceed (ref_all_writes f (seen f s.now i) s.previous) λ ws.
    running (next_stores f s i ws))

unfoldable pub assigned : Option (Indexed Assignment) → Value
unfolding literal_value
assigned none = Unset
assigned (some a) = literal_value a.item.literal

unfoldable pub initial_value : Option Entity → Option Member → Value
unfolding assigned look_up is_attribute
initial_value none m = Unset
initial_value (some e) none = Unset
initial_value (some e) (some m) = cond (is_attribute m.sort) (assigned (look_up (λ a. a.name) m.name.bytes e.assignments)) Unset

-- "Fresh: all present, attributes set, the rest unset"; "(all absent before the first cycle)"
unfoldable pub fresh_stores : File → Stores
unfolding is_found initial_value member_of
fresh_stores f = record {
  now = record { present = λ e. is_found (get_elem? f.entities e); cell = λ e m. initial_value (get_elem? f.entities e) (member_of f e m) };
  previous = record { present = λ e. false; cell = λ e m. Unset };
}

-- an assignment: its name is found among the attributes, and its literal is of the attribute's kind
unfoldable pub assignment_fits : Option (Indexed Member) → Value → Bool
unfolding is_attribute of_kind
assignment_fits none v = false
assignment_fits (some m) v = is_attribute m.item.sort && of_kind m.item.kind v

unfoldable pub assignments_fit : Option Interface → List Assignment → Bool
unfolding every assignment_fits member_named literal_value
assignments_fit none xs = false
assignments_fit (some i) xs = every (λ a. assignment_fits (member_named i a.name.bytes) (literal_value a.literal)) xs

-- the reference machine "stops where a name or member isn't found, where `=` .. meets values of unfitting kinds"
unfoldable pub ref_fresh_stores : File → Outcome Stores
unfolding run_if every assignments_fit interface_named fresh_stores
ref_fresh_stores f =
    run_if (every (λ e. assignments_fit (interface_named f e.interface.bytes) e.assignments) f.entities)
    (running (fresh_stores f))
