-- The walk over the interfaces of a file: their names, and the names of each one's members.
use Prim.Native.Nat.{ℕ, ◌+◌, ◌*◌, ◌≤◌, ◌<◌}
use native.Mathlib.Omega.{arith}
use mathlib.Core.Path.{◌≡◌}
use mathlib.Core.List.{List, ◌++◌, map, flat_map}
use mathlib.Core.Option.{Option}
use Rattle.std.specs.Prelude.{min}
use lib.ListN.{get_or}
use Rattle.text.specs.definitions.Syntax.{Member, Interface}
use Rattle.checking.specs.inner_contracts.DirectoryReads.{Few}
use Rattle.checking.specs.definitions.Faults.{Fault}
use Rattle.checking.specs.inner_contracts.FoundFaults.{Found, found_as, merged}
use Rattle.checking.specs.definitions.NameFaults.{again_faults, interface_name_faults}
use Rattle.checking.specs.inner_contracts.Directory.{Bench}
use Rattle.checking.specs.inner_contracts.DeclarationWalk.{RepeatedRows, InterfacesFound}
use Rattle.checking.proofs.laws.WalkedFaults.{left_second, ItemsLeft, items_next, items_end}
use Rattle.checking.proofs.steps.RepeatedLaws.{repeated_items}

-- a file within the counts that stands in the columns and the directory
pub record Within (text classes offsets lengths d : List ℕ) : Type 0 where
  pub bench : Bench text classes offsets lengths d
  pub few : Few bench.file

abbrev pub InterfacesLeft : List ℕ → List ℕ → List ℕ → List ℕ → Option Fault → ℕ → Type 0
InterfacesLeft text offsets lengths d =
    ItemsLeft {W = (classes : List ℕ) × Within text classes offsets lengths d} (λ w. w.1.bench.file.interfaces) (λ w. interface_name_faults)
    (λ w. again_faults (map (λ i. i.name) w.1.bench.file.interfaces) ++ flat_map interface_name_faults w.1.bench.file.interfaces)

module _ {text offsets lengths d : List ℕ} {count : ℕ} (c : count ≡ min (get_or d 0 0) 16) where
  pub interfaces_begin : {r : Found} → RepeatedRows text offsets lengths d 3 count r → InterfacesLeft text offsets lengths d (found_as r) 0
  interfaces_begin h = record {
    left = λ w.
        left_second (again_faults (map (λ i. i.name) w.1.bench.file.interfaces)) (flat_map interface_name_faults w.1.bench.file.interfaces)
        (repeated_items w.1.bench (λ (i : Interface). i.name) w.1.bench.file.interfaces 3 h w.1.bench.directory.interface_name
        (let z = w.1.bench.directory.interfaces in let y = w.1.few.interfaces in omega arith));
  }

  module _ {found : Option Fault} {k : ℕ} (l : InterfacesLeft text offsets lengths d found k) where
    pub interfaces_next : {members : ℕ} {one : Found} {both : Option Fault} → k < count → members ≡ min (get_or d (19 + k) 0) 12
        → RepeatedRows text offsets lengths d (35 + k * 12) members one → both ≡ merged found (found_as one)
        → InterfacesLeft text offsets lengths d both (k + 1)
    unfolding interface_name_faults
    interfaces_next m e h f =
        items_next (λ w. w.1.bench.file.interfaces) (λ w. interface_name_faults) _ l (λ w. let z = w.1.bench.directory.interfaces in omega arith)
        (λ w i s.
        repeated_items w.1.bench (λ (x : Member). x.name) i.members (35 + k * 12) h (λ j x t. w.1.bench.directory.member_name k j i x s t)
        (let z = w.1.bench.directory.member_count k i s in let y = w.1.few.members k i s in omega arith))
        f

  pub interfaces_end : {r : Found} {k : ℕ} → InterfacesLeft text offsets lengths d (found_as r) k → count ≤ k
      → InterfacesFound text offsets lengths d r
  interfaces_end l h = record {
    is = λ classes w few.
        items_end (λ w. w.1.bench.file.interfaces) (λ w. interface_name_faults) _ l
        (λ w. let z = w.1.bench.directory.interfaces in let y = w.1.few.interfaces in omega arith)
        (classes, record { bench = w; few = few });
  }
