-- The counts as a scan of the columns takes them: how many items of a sort may still come, and the faults.
use Prim.Native.Nat.{ℕ, zero, suc, ◌-◌}
use mathlib.Core.List.{List, [], ◌∷◌, ◌++◌}
use Rattle.std.specs.Prelude.{true, false, ◌&&◌, leb, eqb, get_or}
use Rattle.text.specs.definitions.Tokens.{INTERFACE, ATTRIBUTE, EVENT, ACTION, ENTITY, WHEN, COLON}
use Rattle.checking.specs.definitions.Faults.{Fault}
use Rattle.checking.specs.definitions.CountFaults.{MOST_MEMBERS, MOST_VARIABLES, MOST_CLAUSES, MOST_CALLS, beyond}

-- what a token adds to, before `rules`
pub data DeclaredSort : Type 0 where
  an_interface a_member an_entity none_declared : DeclaredSort

unfoldable pub declared_count : ℕ → DeclaredSort
declared_count c = elim (eqb c INTERFACE) [
  | true ↦ an_interface
  | false ↦ elim (leb ATTRIBUTE c && leb c ACTION) [
    | true ↦ a_member
    | false ↦ elim (eqb c ENTITY) [ true ↦ an_entity | false ↦ none_declared ]
  ]
]

-- and after it
pub data RuledSort : Type 0 where
  a_rule a_variable a_clause a_call none_ruled : RuledSort

unfoldable pub ruled_count : ℕ → RuledSort
ruled_count c = elim (eqb c WHEN) [
  | true ↦ a_rule
  | false ↦ elim (eqb c COLON) [
    | true ↦ a_variable
    | false ↦ elim (eqb c EVENT) [
      | true ↦ a_clause
      | false ↦ elim (eqb c ACTION) [ true ↦ a_call | false ↦ none_ruled ]
    ]
  ]
]

module _ (offsets : List ℕ) where
  -- an item at token number i, where so many may still come
  unfoldable pub past : ℕ → ℕ → List Fault
  unfolding beyond
  past left i = beyond left (get_or offsets i 0 ∷ [])

  -- interfaces, members of the last of them, entities that may still come; then what is left to scan
  unfoldable pub declared_step : DeclaredSort → ℕ → ℕ → ℕ → ℕ → (ℕ → ℕ → ℕ → List Fault) → List Fault
  unfolding past
  declared_step an_interface i a b c rest = past a i ++ rest (a - 1) MOST_MEMBERS c
  declared_step a_member i a b c rest = past b i ++ rest a (b - 1) c
  declared_step an_entity i a b c rest = past c i ++ rest a b (c - 1)
  declared_step none_declared i a b c rest = rest a b c

  -- rules, and in the last of them variables (at the token before the `:`), clauses and calls that may still come
  unfoldable pub ruled_step : RuledSort → ℕ → ℕ → ℕ → ℕ → ℕ → (ℕ → ℕ → ℕ → ℕ → List Fault) → List Fault
  unfolding past
  ruled_step a_rule i a b c d rest = past a i ++ rest (a - 1) MOST_VARIABLES MOST_CLAUSES MOST_CALLS
  ruled_step a_variable i a b c d rest = past b (i - 1) ++ rest a (b - 1) c d
  ruled_step a_clause i a b c d rest = past c i ++ rest a b (c - 1) d
  ruled_step a_call i a b c d rest = past d i ++ rest a b c (d - 1)
  ruled_step none_ruled i a b c d rest = rest a b c d

module _ (classes offsets : List ℕ) where
  -- so many tokens from number i on
  unfoldable pub declared_scan : ℕ → ℕ → ℕ → ℕ → ℕ → List Fault
  unfolding declared_step declared_count
  declared_scan zero i a b c = []
  declared_scan (suc k) i a b c = declared_step offsets (declared_count (get_or classes i 0)) i a b c (declared_scan k (suc i))

  unfoldable pub ruled_scan : ℕ → ℕ → ℕ → ℕ → ℕ → ℕ → List Fault
  unfolding ruled_step ruled_count
  ruled_scan zero i a b c d = []
  ruled_scan (suc k) i a b c d = ruled_step offsets (ruled_count (get_or classes i 0)) i a b c d (ruled_scan k (suc i))
