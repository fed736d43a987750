-- Rules at rest, here quiescent (document 02, order 7).
use Rattle.std.specs.Prelude.{ℕ, Bool, true, false, not, ◌&&◌}
use mathlib.Core.List.{List, [], ◌∷◌, flat_map}
use Rattle.values.specs.definitions.Value.{differ}
use Rattle.text.specs.definitions.Syntax.{Rule, File}
use Rattle.cycles.specs.definitions.Outcome.{Outcome, running, proceed, run_if, collected}
use Rattle.cycles.specs.definitions.Store.{Store, read_cell, Inputs, Stores}
use Rattle.cycles.specs.definitions.Spots.{every, cells}
use Rattle.cycles.specs.definitions.Bindings.{ref_rule_writes}
use Rattle.cycles.specs.definitions.Cycle.{seen, next_stores, inputs_fit}
use Rattle.cycles.specs.definitions.Reads.{reads_cell}

-- "the set of cells that moved since the cycle before, actions included": as they read, by the comparison of `changed` ("both unset counts as same, and
-- so do the two zeros")
unfoldable pub has_moved : Store → Store → ℕ → ℕ → Bool
unfolding read_cell
has_moved now previous e m = differ (read_cell now e m) (read_cell previous e m)

-- "every cell read by a rule's condition reads the same now as in the cycle before"
unfoldable pub is_quiescent : File → Store → Store → Rule → Bool
unfolding every cells reads_cell has_moved
is_quiescent f now previous r =
    every (λ p. not (reads_cell f r p.entity p.member && has_moved now previous p.entity p.member)) (cells f)

module _ {A : Type 0} where
  -- the item, or nothing
  unfoldable pub item_unless : Bool → A → List A
  item_unless true x = []
  item_unless false x = x ∷ []

-- "the rule is passed over without a choice being tried": the rules that are tried are the others
unfoldable pub tried_rules : File → Store → Store → List Rule
unfolding flat_map item_unless is_quiescent
tried_rules f now previous = flat_map (λ r. item_unless (is_quiescent f now previous r) r) f.rules

-- a cycle that passes over the rules at rest; otherwise as `ref_cycle`
unfoldable pub ref_skipping_cycle : File → Stores → Inputs → Outcome Stores
unfolding run_if inputs_fit proceed collected ref_rule_writes tried_rules seen next_stores
ref_skipping_cycle f s i =
    run_if (inputs_fit f i)
    (proceed (collected (ref_rule_writes f (seen f s.now i) s.previous) (tried_rules f (seen f s.now i) s.previous)) λ ws.
    running (next_stores f s i ws))
