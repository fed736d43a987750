-- The cells that a rule's condition reads (document 02, order 7: "Keep for each rule the list of cells it reads, by the interface of its variables"). They
-- go by the text of the rule, not by what a binding happens to read; a rule's calls are no part of it.
use Rattle.std.specs.Prelude.{ℕ, Bool, false, ◌&&◌, ◌||◌, eqb}
use mathlib.Core.List.{List, [], ◌∷◌, ◌++◌, flat_map}
use Rattle.std.proofs.Math.Option.{Option, none, some}
use Rattle.text.specs.definitions.Syntax.{
  Name,
  Expression,
  literal,
  member,
  to_real,
  negate,
  apply,
  Target,
  Filter,
  Test,
  changed,
  equals,
  Clause,
  Rule,
  File,
}
use Rattle.checking.specs.definitions.Scope.{clauses, Variable, variables}
use Rattle.cycles.specs.definitions.Spots.{Spot, spot_of}
use Rattle.cycles.specs.definitions.ClosedSet.{can_be}

-- a member of an entity or a variable, by the names of both
pub record Mention : Type 0 where
  pub owner : Name
  pub member : Name

-- each member in an expression
unfoldable pub mentions_in : Expression → List Mention
mentions_in (literal l) = []
mentions_in (member n m) = record { owner = n; member = m } ∷ []
mentions_in (to_real at a) = mentions_in a
mentions_in (negate at a) = mentions_in a
mentions_in (apply o at a b) = mentions_in a ++ mentions_in b

-- the filter's attribute at the target, and each member in its expression
unfoldable pub mentions_in_filter : Target → Option Filter → List Mention
unfolding mentions_in
mentions_in_filter t none = []
mentions_in_filter t (some g) = record { owner = t.name; member = g.attribute } ∷ mentions_in g.expression

-- each member in the expression after `value =`
unfoldable pub mentions_in_test : Test → List Mention
unfolding mentions_in
mentions_in_test changed = []
mentions_in_test (equals at a) = mentions_in a

-- the clause's event at its target, and what its filter and its test mention
unfoldable pub mentions_in_clause : Clause → List Mention
unfolding mentions_in_filter mentions_in_test
mentions_in_clause c =
    record { owner = c.target.name; member = c.event } ∷ mentions_in_filter c.target c.filter ++ mentions_in_test c.test

-- what the rule's condition mentions
unfoldable pub mentions : Rule → List Mention
unfolding flat_map mentions_in_clause clauses
mentions r = flat_map mentions_in_clause (clauses r.condition)

-- was a member found, and is it number m?
unfoldable pub has_number : ℕ → Option Spot → Bool
has_number m none = false
has_number m (some p) = eqb p.member m

-- is member number m of entity number e one that is mentioned? Of an entity by its name, its member of that name; "by the interface of its variables":
-- of a variable, that member of every entity of the variable's interface
unfoldable pub is_mentioned : File → List Variable → ℕ → ℕ → Mention → Bool
unfolding can_be has_number spot_of
is_mentioned f vs e m x = can_be f vs x.owner.bytes e && has_number m (spot_of f e x.member.bytes)

module _ {A : Type 0} where
  -- does at least one item pass?
  unfoldable pub one_passes : (A → Bool) → List A → Bool
  one_passes test [] = false
  one_passes test (x ∷ xs) = test x || one_passes test xs

-- does the rule's condition read member number m of entity number e?
unfoldable pub reads_cell : File → Rule → ℕ → ℕ → Bool
unfolding one_passes is_mentioned variables mentions
reads_cell f r e m = one_passes (is_mentioned f (variables r) e m) (mentions r)
