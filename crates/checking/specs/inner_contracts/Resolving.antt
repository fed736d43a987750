-- What the functions that resolve the names of a file's rules promise, row by row.
use Rattle.std.specs.Prelude.{ℕ, ◌+◌, ◌/◌, ◌%◌, ◌≤◌, ◌<◌, ◌≡◌, Bool, true, false, List, [], ◌∷◌, length, get_or, drop}
use Rattle.std.proofs.Math.Option.{some}
use Rattle.std.proofs.Math.ListN.{get_elem?}
use Rattle.values.specs.definitions.Bytes.{same_bytes}
use Rattle.text.specs.definitions.Tokens.{NAME}
use Rattle.checking.specs.declared.resolver.Variables.{Variables}
use Rattle.checking.specs.definitions.Scope.{Variable, variables}
use Rattle.checking.specs.definitions.CountFaults.{MOST_VARIABLES}
use Rattle.checking.specs.inner_contracts.Directory.{name_in, NO_MEMBER, interface_number, Bench}
use Rattle.checking.specs.inner_contracts.DirectoryReads.{Few}
use Rattle.checking.specs.inner_contracts.RuleParts.{declared_names, RuleWorld, world_scope}
use Rattle.checking.specs.inner_contracts.Resolution.{NO_REFERENCE, FIRST_VARIABLE, reference, member_meant, Within, Owned, Scopes}

-- ---- references

unfoldable pub alike_or : Bool → ℕ → ℕ → ℕ
alike_or true k other = k
alike_or false k other = other

-- the number of the first of some tokens that has the bytes of token number i, where the first has number k
unfoldable pub reference_alike : List ℕ → List ℕ → List ℕ → ℕ → ℕ → List ℕ → ℕ
unfolding alike_or same_bytes
reference_alike text offsets lengths i k [] = NO_REFERENCE
reference_alike text offsets lengths i k (n ∷ ns) =
    alike_or (same_bytes (name_in text offsets lengths i) (name_in text offsets lengths n)) k (reference_alike text offsets lengths i (k + 1) ns)

-- the variable named as token number i, in the rule that begins with token number `start`, where 8 bits hold its number
pub record VariableReference (text classes offsets lengths : List ℕ) (start i r : ℕ) : Type 0 where
  pub within : r < 256
  pub is : reference_alike text offsets lengths i FIRST_VARIABLE (declared_names start (drop (start + 1) classes)) < 256
      → r ≡ reference_alike text offsets lengths i FIRST_VARIABLE (declared_names start (drop (start + 1) classes))

-- what the name of token number i refers to in that rule, where 8 bits hold it
pub record Referred (text classes offsets lengths d : List ℕ) (start i r : ℕ) : Type 0 where
  pub within : r < 256
  pub is : (c : RuleWorld text classes offsets lengths d start) → reference (world_scope c) (name_in text offsets lengths i) < 256
      → r ≡ reference (world_scope c) (name_in text offsets lengths i)

-- the token that names what token number i is a member of
pub record OwnerOf (classes : List ℕ) (i r : ℕ) : Type 0 where
  pub is : (start used n : ℕ) → Owned classes start used n i → r ≡ n

pub record MemberOf (text classes offsets lengths d : List ℕ) (start owner i r : ℕ) : Type 0 where
  pub within : r ≤ NO_MEMBER
  pub is : (c : RuleWorld text classes offsets lengths d start)
      → r ≡ member_meant (world_scope c) (name_in text offsets lengths owner) (name_in text offsets lengths i)

-- row i of the column of references, by the rule that begins with token number `start`
pub record RowResolved (text classes offsets lengths d : List ℕ) (start i r : ℕ) : Type 0 where
  pub owner : (c : RuleWorld text classes offsets lengths d start) → reference (world_scope c) (name_in text offsets lengths i) < 256
      → r % 256 ≡ reference (world_scope c) (name_in text offsets lengths i)
  pub member : (c : RuleWorld text classes offsets lengths d start) (n : ℕ) → Owned classes start c.begins.used n i
      → r / 256 ≡ member_meant (world_scope c) (name_in text offsets lengths n) (name_in text offsets lengths i)

-- the column of references, which was refs; a reference is said where 8 bits hold it, as they do for up to 224 variables in a rule
pub record NamesResolved (text classes offsets lengths d refs new : List ℕ) : Type 0 where
  pub owner : (start : ℕ) (c : RuleWorld text classes offsets lengths d start) (i : ℕ) → Within classes start c.begins.used i NAME
      → reference (world_scope c) (name_in text offsets lengths i) < 256
      → get_or new i 0 % 256 ≡ reference (world_scope c) (name_in text offsets lengths i)
  pub member : (start : ℕ) (c : RuleWorld text classes offsets lengths d start) (n m : ℕ) → Owned classes start c.begins.used n m
      → get_or new m 0 / 256 ≡ member_meant (world_scope c) (name_in text offsets lengths n) (name_in text offsets lengths m)
  pub kept : length new ≡ length refs

-- ---- scopes

-- the token that declares variable number v of the rule that begins with token number `start`; the number of tokens if none does
pub record DeclarationNumber (classes : List ℕ) (start v r : ℕ) : Type 0 where
  pub is : r ≡ get_or (declared_names start (drop (start + 1) classes)) v (length classes)

-- how many of three declarations there are, by which of them are missing
unfoldable pub present : Bool → Bool → Bool → ℕ
present true b c = 0
present false true c = 1
present false false true = 2
present false false false = 3

-- the interface of the variable that token number n declares
pub record InterfaceAt (text classes offsets lengths d : List ℕ) (n r : ℕ) : Type 0 where
  pub is : n + 1 < length classes → (w : Bench text classes offsets lengths d) → Few w.file
      → r ≡ interface_number w.file (name_in text offsets lengths (n + 1 + 1))

-- a rule's four rows: how many variables it has, and the interfaces of the first three
pub record ScopeHeld (text classes offsets lengths d : List ℕ) (start count a b c : ℕ) : Type 0 where
  pub count_is : (w : RuleWorld text classes offsets lengths d start) → length (variables w.rule) ≤ MOST_VARIABLES → count ≡ length (variables w.rule)
  pub interface_is : (w : RuleWorld text classes offsets lengths d start) → length (variables w.rule) ≤ MOST_VARIABLES → (v : ℕ) (x : Variable)
      → get_elem? (variables w.rule) v ≡ some x → get_or (a ∷ b ∷ c ∷ []) v 0 ≡ interface_number w.bench.file x.interface.bytes

abbrev pub VariablesHeld : List ℕ → List ℕ → List ℕ → List ℕ → List ℕ → ℕ → Variables → Type 0
VariablesHeld text classes offsets lengths d start r = ScopeHeld text classes offsets lengths d start r.count r.first r.second r.third

-- the column of scopes, which was scopes
pub record ScopesResolved (text classes offsets lengths d scopes new : List ℕ) : Type 0 where
  pub scopes_are : Scopes text classes offsets lengths d new
  pub kept : length new ≡ length scopes
