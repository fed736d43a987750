-- A file without faults of its counts has no more items than the counts say, so each item's number is below its count.
use Prim.Native.Nat.{ℕ, ◌<◌}
use native.Mathlib.Omega.{arith}
use mathlib.Core.Path.{◌≡◌}
use mathlib.Core.List.{[]}
use mathlib.Core.Option.{some}
use lib.ListN.{get_elem?}
use Rattle.text.specs.definitions.Syntax.{Member, Interface, Entity, Rule, File}
use Rattle.text.proofs.laws.ListLaws.{flatMap_empty, number_member}
use Rattle.text.proofs.laws.SpotLaws.{stands_below}
use Rattle.checking.specs.definitions.CountFaults.{count_faults, interface_count_faults}
use Rattle.checking.proofs.laws.AcceptedLaws.{within, counted}

module _ (f : File) (none : count_faults f ≡ []) where
  pub few_interfaces : (k : ℕ) {i : Interface} → get_elem? f.interfaces k ≡ some i → k < 16
  few_interfaces k e = omega (arith, stands_below f.interfaces k e, within 16 (λ (i : Interface). i.at) f.interfaces (counted f none).0)

  pub FewMembers : (k j : ℕ) (i : Interface) {m : Member} → get_elem? f.interfaces k ≡ some i → get_elem? i.members j ≡ some m → j < 12
  unfolding interface_count_faults
  FewMembers k j i e g = omega (
    arith,
    stands_below i.members j g,
    within 12 (λ (m : Member). m.at) i.members (flatMap_empty interface_count_faults f.interfaces (counted f none).1 (number_member f.interfaces k e)),
  )

  pub few_entities : (k : ℕ) {x : Entity} → get_elem? f.entities k ≡ some x → k < 32
  few_entities k e = omega (arith, stands_below f.entities k e, within 32 (λ (x : Entity). x.at) f.entities (counted f none).2)

  pub few_rules : (k : ℕ) {r : Rule} → get_elem? f.rules k ≡ some r → k < 64
  few_rules k e = omega (arith, stands_below f.rules k e, within 64 (λ (r : Rule). r.at) f.rules (counted f none).3)
