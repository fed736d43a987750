-- The candidates for a rule's variable by numbers: in an accepted file an entity is of the variable's interface if both have that interface's number.
use Prim.Native.Nat.{ℕ, ◌≤◌, ◌<◌}
use native.Mathlib.Omega.{arith}
use mathlib.Core.Path.{◌≡◌, refl}
use mathlib.Core.List.{List, []}
use mathlib.Core.Option.{Option, none, some}
use lib.ListN.{length, get_elem?}
use Rattle.text.specs.definitions.Syntax.{Interface, Rule, File}
use Rattle.text.proofs.laws.ListLaws.{none_some, three_empty, flatMap_empty, number_member}
use Rattle.text.proofs.laws.SpotLaws.{stands_below}
use Rattle.checking.specs.definitions.Scope.{Indexed, look_up, item_of, interface_named, Variable, variables}
use Rattle.checking.specs.definitions.CountFaults.{rule_count_faults}
use Rattle.checking.specs.definitions.Verdict.{accepted, verdict}
use Rattle.checking.specs.inner_contracts.Directory.{number_or, interface_number}
use Rattle.checking.proofs.laws.LookUpLaws.{found_at}
use Rattle.checking.proofs.laws.VerdictLaws.{accepted_verdict}
use Rattle.checking.proofs.laws.AcceptedLaws.{accepted_faultless, within, counted}
use Rattle.checking.proofs.laws.CheckedFile.{accepted_known}

-- ---- numbers and names

-- its number is one of the 16
pub known_number : (f : File) → length f.interfaces ≤ 16 → (b : List ℕ) {i : Interface} → interface_named f b ≡ some i → interface_number f b < 16
unfolding interface_number interface_named number_or
known_number f most b {i} h = go (look_up (λ (i : Interface). i.name) b f.interfaces) refl h
  where
    go : (o : Option (Indexed Interface)) → look_up (λ (i : Interface). i.name) b f.interfaces ≡ o → item_of o ≡ some i → number_or 16 o < 16
    go none e h = absurd (none_some h)
    go (some q) e h = omega (arith, most, stands_below f.interfaces q.number (found_at (λ (i : Interface). i.name) b f.interfaces e))

-- ---- an accepted file's rules

module _ (text : List ℕ) (f : File) (accepts : verdict text ≡ accepted f) (k : ℕ) (r : Rule) (stands : get_elem? f.rules k ≡ some r) where
  -- "per rule 3 variables"
  pub few_variables : length (variables r) ≤ 3
  unfolding rule_count_faults
  few_variables =
      let c = counted f (accepted_faultless f (accepted_verdict text accepts)).counts in
      let p : rule_count_faults r ≡ [] = flatMap_empty rule_count_faults f.rules c.4 (number_member f.rules k stands) in
      within 3 (λ (v : Variable). v.name.at) (variables r) (three_empty p).0

  -- a variable's interface is known
  pub variable_interface : (n : ℕ) (v : Variable) → get_elem? (variables r) n ≡ some v
      → (i : Interface) × (interface_named f v.interface.bytes ≡ some i)
  variable_interface n v h =
      ((accepted_known f (accepted_verdict text accepts)).rule r (number_member f.rules k stands)).variable v (number_member (variables r) n h)
