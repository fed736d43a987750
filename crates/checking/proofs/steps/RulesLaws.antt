-- The walk over the rules of a file, and the faults of all its parts.
use Prim.Native.Nat.{ℕ, ◌+◌, ◌≤◌, ◌<◌}
use native.Mathlib.Omega.{arith}
use mathlib.Core.Path.{◌≡◌, sym, ap, ap₂, ◌∙◌}
use mathlib.Core.List.{List, ◌++◌, append_assoc, map, flat_map}
use mathlib.Core.Option.{Option, none}
use Rattle.std.specs.Prelude.{min}
use lib.ListN.{length, get_or}
use Rattle.text.specs.definitions.Syntax.{Rule, File}
use Rattle.checking.specs.inner_contracts.DirectoryReads.{Few}
use Rattle.checking.specs.declared.faults.Faults.{Faults}
use Rattle.checking.specs.definitions.Faults.{Fault, earliest}
use Rattle.checking.specs.inner_contracts.FoundFaults.{Found, found_as, merged}
use Rattle.checking.specs.definitions.NameFaults.{again_faults, interface_name_faults, entity_name_faults, rule_name_faults, name_faults}
use Rattle.checking.specs.definitions.KindFaults.{entity_kind_faults, rule_kind_faults, kind_faults}
use Rattle.checking.specs.inner_contracts.Directory.{Bench}
use Rattle.checking.specs.inner_contracts.DeclarationWalk.{InterfacesFound, EntitiesFound}
use Rattle.checking.specs.inner_contracts.RuleWalk.{RuleFaults}
use Rattle.checking.specs.inner_contracts.FileWalk.{RulesFound, FileFound}
use Rattle.checking.proofs.laws.FaultLaws.{earliest_append}
use Rattle.checking.proofs.laws.WalkedFaults.{left_all, ItemsLeft, items_next, items_end}

-- ---- rule after rule

-- a file within the counts that stands in the columns and the directory
pub record WithinRules (text classes offsets lengths d : List ℕ) : Type 0 where
  pub bench : Bench text classes offsets lengths d
  pub few : Few bench.file
  pub few_rules : length bench.file.rules ≤ 64

abbrev pub LeftOf : (File → Rule → List Fault) → List ℕ → List ℕ → List ℕ → List ℕ → List ℕ → Option Fault → ℕ → Type 0
LeftOf faults text classes offsets lengths d =
    ItemsLeft {W = WithinRules text classes offsets lengths d} (λ w. w.bench.file.rules) (λ w. faults w.bench.file)
    (λ w. flat_map (faults w.bench.file) w.bench.file.rules)

-- what is found in the first k rules
pub record Ruled (text classes offsets lengths d : List ℕ) (names kinds : Found) (k : ℕ) : Type 0 where
  pub names_left : LeftOf rule_name_faults text classes offsets lengths d (found_as names) k
  pub kinds_left : LeftOf rule_kind_faults text classes offsets lengths d (found_as kinds) k

module _ {text classes offsets lengths d : List ℕ} {names kinds : Found} where
  pub ruled_none : found_as names ≡ none → found_as kinds ≡ none → Ruled text classes offsets lengths d names kinds 0
  ruled_none e f = record {
    names_left = record { left = λ w. left_all (flat_map (rule_name_faults w.bench.file) w.bench.file.rules) e };
    kinds_left = record { left = λ w. left_all (flat_map (rule_kind_faults w.bench.file) w.bench.file.rules) f };
  }

  module _ {count k : ℕ} (c : count ≡ min (get_or d 2 0) 64) (p : Ruled text classes offsets lengths d names kinds k) where
    pub ruled_next : {at : ℕ} {one : Faults} {names' kinds' : Found} → k < count → at ≡ get_or d (259 + k) 0
        → RuleFaults text classes offsets lengths d at one → found_as names' ≡ merged (found_as names) (found_as one.names)
        → found_as kinds' ≡ merged (found_as kinds) (found_as one.kinds) → Ruled text classes offsets lengths d names' kinds' (k + 1)
    ruled_next m a h f g = record {
      names_left =
          items_next (λ w. w.bench.file.rules) (λ w. rule_name_faults w.bench.file) _ p.names_left
          (λ w. let z = w.bench.directory.rules in omega arith) (λ w x s. h.names w.bench w.few x (rw a (w.bench.directory.rule k x s))) f;
      kinds_left =
          items_next (λ w. w.bench.file.rules) (λ w. rule_kind_faults w.bench.file) _ p.kinds_left
          (λ w. let z = w.bench.directory.rules in omega arith) (λ w x s. h.kinds w.bench w.few x (rw a (w.bench.directory.rule k x s))) g;
    }

    pub ruled_all : count ≤ k → RulesFound text classes offsets lengths d (record { names = names; kinds = kinds })
    ruled_all h = record {
      names = λ w few m.
          items_end (λ w. w.bench.file.rules) (λ w. rule_name_faults w.bench.file) _ p.names_left all_passed
          (record { bench = w; few = few; few_rules = m });
      kinds = λ w few m.
          items_end (λ w. w.bench.file.rules) (λ w. rule_kind_faults w.bench.file) _ p.kinds_left all_passed
          (record { bench = w; few = few; few_rules = m });
    }
      where
        all_passed : (w : WithinRules text classes offsets lengths d) → length w.bench.file.rules ≤ k
        all_passed w = let z = w.bench.directory.rules in let y = w.few_rules in omega arith

-- ---- the parts of a file

module _ {text classes offsets lengths d : List ℕ} {interfaces : Found} {entities rules : Faults} (i : InterfacesFound text offsets lengths d interfaces)
    (e : EntitiesFound text classes offsets lengths d entities) (r : RulesFound text classes offsets lengths d rules) where
  module _ (w : Bench text classes offsets lengths d) (few : Few w.file) (most : length w.file.rules ≤ 64) where
    abbrev again_interfaces : List Fault
    again_interfaces = again_faults (map (λ i. i.name) w.file.interfaces)

    abbrev members : List Fault
    members = flat_map interface_name_faults w.file.interfaces

    abbrev again_entities : List Fault
    again_entities = again_faults (map (λ e. e.name) w.file.entities)

    abbrev in_entities : List Fault
    in_entities = flat_map (entity_name_faults w.file) w.file.entities

    abbrev in_rules : List Fault
    in_rules = flat_map (rule_name_faults w.file) w.file.rules

    names_whole : {declared names : Option Fault} → declared ≡ merged (found_as interfaces) (found_as entities.names)
        → names ≡ merged declared (found_as rules.names) → names ≡ earliest (name_faults w.file)
    unfolding name_faults
    names_whole f g =
        g
        ∙ ap₂ merged (f ∙ ap₂ merged (i.is classes w few) (e.names w few) ∙ sym (earliest_append (again_interfaces ++ members) (again_entities ++ in_entities)))
        (r.names w few most)
        ∙ sym (earliest_append (again_interfaces ++ members ++ (again_entities ++ in_entities)) in_rules)
        ∙ ap (λ (l : List Fault). earliest (l ++ in_rules)) (sym (append_assoc (again_interfaces ++ members) again_entities in_entities))

    kinds_whole : {kinds : Option Fault} → kinds ≡ merged (found_as entities.kinds) (found_as rules.kinds) → kinds ≡ earliest (kind_faults w.file)
    unfolding kind_faults
    kinds_whole f =
        f
        ∙ ap₂ merged (e.kinds w few) (r.kinds w few most)
        ∙ sym (earliest_append (flat_map (entity_kind_faults w.file) w.file.entities) (flat_map (rule_kind_faults w.file) w.file.rules))

  pub file_told : {declared : Option Fault} {names kinds : Found} → declared ≡ merged (found_as interfaces) (found_as entities.names)
      → found_as names ≡ merged declared (found_as rules.names) → found_as kinds ≡ merged (found_as entities.kinds) (found_as rules.kinds)
      → FileFound text classes offsets lengths d (record { names = names; kinds = kinds })
  file_told f g h = record { names = λ w few most. names_whole w few most f g; kinds = λ w few most. kinds_whole w few most h }
