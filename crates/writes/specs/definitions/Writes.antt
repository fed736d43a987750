-- The writes of a cycle, and which of them stand (document 02, order 6).
use Rattle.std.specs.Prelude.{ℕ, List, [], ◌∷◌, Bool, cond, ◌&&◌, ltb, eqb}
use Rattle.std.proofs.Math.Option.{Option, none, some}
use Rattle.values.specs.declared.Value.{Value}
use Rattle.values.specs.declared.Value.TheVariants.{Unset}

-- a write: the cell that it is to, by the numbers of its entity and member, the priority of its rule, and the value
pub record Write : Type 0 where
  pub entity : ℕ
  pub member : ℕ
  pub priority : ℕ
  pub value : Value

-- is it to this cell?
unfoldable pub is_to : ℕ → ℕ → Write → Bool
is_to e m w = eqb w.entity e && eqb w.member m

-- "The write of the highest rank stands; among equal ranks the earliest write does": of a write, and the one that stands of those after it
unfoldable pub stronger : Write → Option Write → Write
stronger w none = w
stronger w (some v) = cond (ltb w.priority v.priority) v w

-- of writes in their order, the one that stands in a cell
unfoldable pub standing : ℕ → ℕ → List Write → Option Write
unfolding is_to stronger
standing e m [] = none
standing e m (w ∷ ws) = cond (is_to e m w) (some (stronger w (standing e m ws))) (standing e m ws)

-- document 01: "Action cells become unset, then take the writes"
unfoldable pub written_value : Option Write → Value
written_value none = Unset
written_value (some w) = w.value
