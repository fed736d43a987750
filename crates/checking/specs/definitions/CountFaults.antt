-- "Most: 16 interfaces, 12 members each, 32 entities, 64 rules; per rule 3 variables, 8 clauses, 8 calls"
use Rattle.std.specs.Prelude.{ℕ, drop}
use mathlib.Core.List.{List, ◌++◌, map, flat_map}
use Rattle.text.specs.definitions.Syntax.{Interface, Rule, File}
use Rattle.checking.specs.definitions.Faults.{Fault, fault}
use Rattle.checking.specs.definitions.Scope.{clauses, variables}

abbrev pub MOST_INTERFACES : ℕ
MOST_INTERFACES = 16

abbrev pub MOST_MEMBERS : ℕ
MOST_MEMBERS = 12

abbrev pub MOST_ENTITIES : ℕ
MOST_ENTITIES = 32

abbrev pub MOST_RULES : ℕ
MOST_RULES = 64

abbrev pub MOST_VARIABLES : ℕ
MOST_VARIABLES = 3

abbrev pub MOST_CLAUSES : ℕ
MOST_CLAUSES = 8

abbrev pub MOST_CALLS : ℕ
MOST_CALLS = 8

-- 14, place: "first word of the first item beyond a count": items by the offsets of their first tokens
unfoldable pub beyond : ℕ → List ℕ → List Fault
beyond most offsets = map (fault 14) (drop most offsets)

unfoldable pub interface_count_faults : Interface → List Fault
unfolding beyond
interface_count_faults i = beyond MOST_MEMBERS (map (λ m. m.at) i.members)

-- "(variables by declaration)"
unfoldable pub rule_count_faults : Rule → List Fault
unfolding beyond variables clauses
rule_count_faults r =
    beyond MOST_VARIABLES (map (λ v. v.name.at) (variables r))
    ++ beyond MOST_CLAUSES (map (λ c. c.at) (clauses r.condition))
    ++ beyond MOST_CALLS (map (λ c. c.at) r.calls)

unfoldable pub count_faults : File → List Fault
unfolding beyond flat_map interface_count_faults rule_count_faults
count_faults f =
    beyond MOST_INTERFACES (map (λ i. i.at) f.interfaces)
    ++ flat_map interface_count_faults f.interfaces
    ++ beyond MOST_ENTITIES (map (λ e. e.at) f.entities)
    ++ beyond MOST_RULES (map (λ r. r.at) f.rules)
    ++ flat_map rule_count_faults f.rules
