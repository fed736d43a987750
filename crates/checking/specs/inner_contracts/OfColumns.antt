-- What is said of lists, said of the columns that are lent together.
use Rattle.std.specs.Prelude.{ℕ, List}
use Rattle.checking.specs.inner_contracts.Directory.{name_in}
use Rattle.checking.specs.declared.columns.Columns.{Columns}

-- of all of them
abbrev pub of_file : {R : Type 1} → (List ℕ → List ℕ → List ℕ → List ℕ → List ℕ → R) → Columns → R
of_file p c = p c.text.now c.classes.now c.offsets.now c.lengths.now c.d.now

-- of the text and the tokens
abbrev pub of_tokens : {R : Type 1} → (List ℕ → List ℕ → List ℕ → List ℕ → R) → Columns → R
of_tokens p c = p c.text.now c.classes.now c.offsets.now c.lengths.now

-- of the text, where its tokens stand, and the directory
abbrev pub of_names : {R : Type 1} → (List ℕ → List ℕ → List ℕ → List ℕ → R) → Columns → R
of_names p c = p c.text.now c.offsets.now c.lengths.now c.d.now

-- the bytes of token number i
abbrev pub name_of : Columns → ℕ → List ℕ
name_of c i = name_in c.text.now c.offsets.now c.lengths.now i
