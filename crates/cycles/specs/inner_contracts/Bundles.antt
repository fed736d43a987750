-- What is lent together, as the lists that stand in it.
use Rattle.std.specs.Prelude.{ℕ, get_or}
use mathlib.Core.List.{List}
use Rattle.checking.specs.declared.columns.Columns.{Columns}
use Rattle.checking.specs.inner_contracts.Directory.{ENTITY_COUNT_ROW}
use Rattle.cycles.specs.declared.rules.Rules.{Rules}

-- a store in memory: a flag for each entity, and its cells
pub record StoreMemory : Type 0 where
  pub flags : List ℕ
  pub cells : List ℕ

-- what is said of lists, said of the columns that are lent together: of the classes and the directory, which say what members a file has
abbrev pub of_members : {R : Type 1} → (List ℕ → List ℕ → R) → Columns → R
of_members p c = p c.classes.now c.d.now

-- of all of them, and what the literals read
abbrev pub of_literals : {R : Type 1} → (List ℕ → List ℕ → List ℕ → List ℕ → List ℕ → List ℕ → R) → Columns → List ℕ → R
of_literals p c literals = p c.text.now c.classes.now c.offsets.now c.lengths.now literals c.d.now

-- how many entities the directory says
abbrev pub entities_of : Columns → ℕ
entities_of c = get_or c.d.now ENTITY_COUNT_ROW 0

-- what is said of lists, said of the rules that are lent together: all that they read of a bench
abbrev pub of_rules : {R : Type 1} → (List ℕ → List ℕ → List ℕ → List ℕ → List ℕ → R) → Rules → R
of_rules p r = p r.columns.classes.now r.literals.now r.columns.d.now r.references.now r.scopes.now

-- and that with the text and where its tokens stand
abbrev pub of_bench : {R : Type 1} → (List ℕ → List ℕ → List ℕ → List ℕ → List ℕ → List ℕ → List ℕ → List ℕ → R) → Rules → R
of_bench p r = p r.columns.text.now r.columns.classes.now r.columns.offsets.now r.columns.lengths.now r.literals.now r.columns.d.now r.references.now
    r.scopes.now
