-- The priorities as a scan of the columns takes them, and what their check finds.
use Rattle.std.specs.Prelude.{ℕ, zero, suc, ◌≡◌, List, [], ◌++◌, cond, eqb, leb, length, get_or}
use Rattle.text.specs.definitions.Tokens.{Token, RANK}
use Rattle.text.specs.definitions.Syntax.{File}
use Rattle.text.specs.definitions.Readers.{read}
use Rattle.text.specs.definitions.Grammar.{file_reader}
use Rattle.checking.specs.definitions.Faults.{Fault, fault_unless, earliest}
use Rattle.checking.specs.definitions.PriorityFaults.{MOST_PRIORITY, priority_faults}
use Rattle.checking.specs.inner_contracts.FoundFaults.{Found, found_as}
use Rattle.checking.specs.inner_contracts.CountChecked.{ClassesOf, OffsetsOf}
use Rattle.checking.specs.inner_contracts.CheckedBench.{ValuesOf}

-- the fault of a priority's number at token number i, if it is above the greatest
unfoldable pub number_fault_at : List ℕ → List ℕ → ℕ → List Fault
unfolding fault_unless
number_fault_at offsets values i = fault_unless (leb (get_or values i 0) MOST_PRIORITY) 44 (get_or offsets i 0)

-- so many tokens from number i on: after each `rank` its number
unfoldable pub priority_scan : List ℕ → List ℕ → List ℕ → ℕ → ℕ → List Fault
unfolding number_fault_at
priority_scan classes offsets values zero i = []
priority_scan classes offsets values (suc k) i =
    cond (eqb (get_or classes i 0) RANK) (number_fault_at offsets values (suc i)) [] ++ priority_scan classes offsets values k (suc i)

-- for a grammatical file with these columns
pub record PriorityChecked (classes offsets values : List ℕ) (r : Found) : Type 0 where
  pub found : (ts : List Token) (f : File) → ClassesOf classes ts → OffsetsOf offsets ts → ValuesOf values ts → file_reader ts ≡ read f (length ts)
      → found_as r ≡ earliest (priority_faults f)
