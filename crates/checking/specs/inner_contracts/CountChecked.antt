-- What the check of the counts finds.
use Rattle.std.specs.Prelude.{ℕ, ◌≡◌, List, length, get_or}
use Rattle.std.proofs.Math.Option.{some}
use Rattle.std.proofs.Math.ListN.{get_elem?}
use Rattle.text.specs.definitions.Tokens.{Token}
use Rattle.text.specs.definitions.Syntax.{File}
use Rattle.text.specs.definitions.Readers.{read}
use Rattle.text.specs.definitions.Grammar.{file_reader}
use Rattle.checking.specs.definitions.Faults.{earliest}
use Rattle.checking.specs.inner_contracts.FoundFaults.{Found, found_as}
use Rattle.checking.specs.definitions.CountFaults.{count_faults}

-- the column of the tokens' classes, and that of their offsets
pub record ClassesOf (classes : List ℕ) (ts : List Token) : Type 0 where
  pub count : length ts ≡ length classes
  pub class : (i : ℕ) (t : Token) → get_elem? ts i ≡ some t → t.class ≡ get_or classes i 0

pub record OffsetsOf (offsets : List ℕ) (ts : List Token) : Type 0 where
  pub offset : (i : ℕ) (t : Token) → get_elem? ts i ≡ some t → t.at ≡ get_or offsets i 0

-- for a grammatical file with these columns
pub record CountChecked (classes offsets : List ℕ) (r : Found) : Type 0 where
  pub found : (ts : List Token) (f : File) → ClassesOf classes ts → OffsetsOf offsets ts → file_reader ts ≡ read f (length ts)
      → found_as r ≡ earliest (count_faults f)
