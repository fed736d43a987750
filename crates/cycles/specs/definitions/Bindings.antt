-- The bindings of a rule's variables, which document 01 calls choices, and what all rules write.
use Rattle.std.specs.Prelude.{ℕ, Bool, true, false, ◌&&◌}
use mathlib.Core.List.{List, [], ◌∷◌, map, flat_map}
use Rattle.values.specs.definitions.Bytes.{same_bytes}
use Rattle.text.specs.definitions.Syntax.{Rule, File}
use Rattle.checking.specs.definitions.Scope.{is_found, interface_named, Variable, variables}
use Rattle.writes.specs.definitions.Writes.{Write}
use Rattle.cycles.specs.definitions.Outcome.{Outcome, run_if, collected}
use Rattle.cycles.specs.definitions.Store.{Store}
use Rattle.cycles.specs.definitions.Spots.{spots, numbered, every}
use Rattle.cycles.specs.definitions.Reference.{ref_binding_writes}

unfoldable pub number_if : Bool → ℕ → List ℕ
number_if true e = e ∷ []
number_if false e = []

-- "present entities of the right interfaces", "entities in file order"
unfoldable pub candidates : File → Store → List ℕ → List ℕ
unfolding flat_map number_if same_bytes numbered
candidates f s i = flat_map (λ e. number_if (s.present e.number && same_bytes e.item.interface.bytes i) e.number) (numbered 0 f.entities)

-- "every choice of present entities .. for its variables, including those that only calls declare. The first declared variable turns slowest"
unfoldable pub bindings : File → Store → List Variable → List (List ℕ)
unfolding flat_map candidates
bindings f s [] = [] ∷ []
bindings f s (v ∷ vs) = flat_map (λ e. map (λ b. e ∷ b) (bindings f s vs)) (candidates f s v.interface.bytes)

-- a variable's interface is looked up by its name, too
unfoldable pub are_known : File → List Variable → Bool
unfolding every is_found interface_named
are_known f vs = every (λ v. is_found (interface_named f v.interface.bytes)) vs

unfoldable pub ref_rule_writes : File → Store → Store → Rule → Outcome (List Write)
unfolding run_if are_known collected ref_binding_writes spots bindings variables
ref_rule_writes f now previous r =
    run_if (are_known f (variables r))
    (collected (λ b. ref_binding_writes (spots f (variables r) b) now previous r) (bindings f now (variables r)))

-- "Writes come by rule, choice, call"
unfoldable pub ref_all_writes : File → Store → Store → Outcome (List Write)
unfolding collected ref_rule_writes
ref_all_writes f now previous = collected (ref_rule_writes f now previous) f.rules
