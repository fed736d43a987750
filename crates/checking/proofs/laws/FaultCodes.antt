-- Codes of refusals: what holds of 11 to 18 and of 44 holds of the code of every refused text.
use Prim.Native.Nat.{ℕ}
use mathlib.Core.Bool.{Bool, true, false}
use mathlib.Core.List.{List, [], ◌∷◌, ◌++◌, map, flat_map}
use mathlib.Core.Option.{Option, none, some}
use lib.Dec.{leb}
use lib.ListN.{length, drop}
use Rattle.text.specs.definitions.Tokens.{Lexing, tokens, no_token_at, tokens_of}
use Rattle.text.specs.definitions.Syntax.{Name, Sort, Interface, Assignment, Entity, Expression, literal, member, to_real, negate, apply, Target, Filter, Test, changed, equals, Clause, Call, Priority, Rule, File}
use Rattle.text.specs.definitions.Parse.{ParseVerdict, grammatical, ungrammatical_at, parse}
use Rattle.values.specs.declared.Kind.{Kind}
use Rattle.checking.specs.definitions.Faults.{Fault, fault, fault_unless, earlier, earliest}
use Rattle.checking.specs.definitions.Scope.{Scope, interface_in, is_attribute}
use Rattle.checking.specs.definitions.PriorityFaults.{MOST_PRIORITY, number_faults, given_faults, priority_faults}
use Rattle.checking.specs.definitions.CountFaults.{beyond, interface_count_faults, rule_count_faults, count_faults}
use Rattle.checking.specs.definitions.NameFaults.{
  repeated_faults,
  again_faults,
  interface_faults,
  member_faults,
  interface_name_faults,
  attribute_faults,
  unset_faults,
  entity_name_faults,
  unknown_name_faults,
  expression_name_faults,
  variable_faults,
  declaration_faults,
  target_name_faults,
  filter_name_faults,
  test_name_faults,
  clause_name_faults,
  call_name_faults,
  rule_name_faults,
  name_faults,
}
use Rattle.checking.specs.definitions.KindFaults.{
  expression_kind_faults,
  matched_kind_faults,
  assignment_kind_faults,
  entity_kind_faults,
  filter_kind_faults,
  test_kind_faults,
  clause_kind_faults,
  call_kind_faults,
  rule_kind_faults,
  kind_faults,
}
use Rattle.checking.specs.definitions.Verdict.{
  Verdict,
  accepted,
  refused_at,
  refused_by,
  file_verdict,
  parsing_verdict,
  lexing_verdict,
  MOST_BYTES,
  verdict,
}

module _ (P : ℕ → Type 0) where
  pub data Coded : List Fault → Type 0 where
    coded_none : Coded []
    coded_more : {f : Fault} {fs : List Fault} → P f.code → Coded fs → Coded (f ∷ fs)

  -- of a verdict: an acceptance has no code
  abbrev pub RefusedByCode : Verdict → Type 0
  RefusedByCode (accepted f) = Unit {0}
  RefusedByCode (refused_at code at) = P code

  coded_append : {xs ys : List Fault} → Coded xs → Coded ys → Coded (xs ++ ys)
  coded_append coded_none q = q
  coded_append (coded_more p ps) q = coded_more p (coded_append ps q)

  coded_each : {A : Type 0} {g : A → List Fault} → ((x : A) → Coded (g x)) → (xs : List A) → Coded (flat_map g xs)
  unfolding flat_map
  coded_each h [] = coded_none
  coded_each h (x ∷ xs) = coded_append (h x) (coded_each h xs)

  coded_unless : (b : Bool) (c at : ℕ) → P c → Coded (fault_unless b c at)
  unfolding fault_unless
  coded_unless true c at p = coded_none
  coded_unless false c at p = coded_more p coded_none

  abbrev CodeOf : Option Fault → Type 0
  CodeOf none = Unit {0}
  CodeOf (some f) = P f.code

  earlier_code : (f : Fault) (o : Option Fault) → P f.code → CodeOf o → P (earlier f o).code
  unfolding earlier
  earlier_code f none p q = p
  earlier_code f (some g) p q = go (leb f.at g.at)
    where
      go : (b : Bool) → P (elim b as (λ (x : Bool). Fault) [ true ↦ f | false ↦ g ]).code
      go true = p
      go false = q

  first_code : (fs : List Fault) → Coded fs → CodeOf (earliest fs)
  unfolding earliest
  first_code fs coded_none = tt
  first_code fs (coded_more {f = f} {fs = gs} p ps) = earlier_code f (earliest gs) p (first_code gs ps)

  earliest_code : (fs : List Fault) (v : Verdict) → Coded fs → RefusedByCode v → RefusedByCode (refused_by (earliest fs) v)
  unfolding refused_by
  earliest_code fs v p q = go (earliest fs) (first_code fs p)
    where
      go : (o : Option Fault) → CodeOf o → RefusedByCode (refused_by o v)
      go none r = q
      go (some f) r = r

  -- ---- 44

  priority_codes : P 44 → (f : File) → Coded (priority_faults f)
  unfolding priority_faults given_faults number_faults
  priority_codes p f = coded_each (λ r. go r.priority) f.rules
    where
      go : (o : Option Priority) → Coded (given_faults o)
      go none = coded_none
      go (some k) = coded_unless (leb k.number MOST_PRIORITY) 44 k.at p

  -- ---- 14

  module _ (fourteen : P 14) where
    coded_beyond : (most : ℕ) (offsets : List ℕ) → Coded (beyond most offsets)
    unfolding beyond
    coded_beyond most offsets = go (drop most offsets)
      where
        go : (xs : List ℕ) → Coded (map (fault 14) xs)
        go [] = coded_none
        go (x ∷ xs) = coded_more fourteen (go xs)

    count_codes : (f : File) → Coded (count_faults f)
    unfolding count_faults interface_count_faults rule_count_faults
    count_codes f = search (coded_append, coded_each, coded_beyond) depth 20

  -- ---- 15, 16, 17

  module _ (fifteen : P 15) (sixteen : P 16) (seventeen : P 17) where
    repeated_codes : (before ns : List Name) → Coded (repeated_faults before ns)
    unfolding repeated_faults
    repeated_codes before [] = coded_none
    repeated_codes before (n ∷ ns) = let later = repeated_codes (before ++ n ∷ []) ns in search (coded_append, coded_unless, fifteen, later)

    member_codes : (sort : Sort → Bool) (o : Option Interface) (n : Name) → Coded (member_faults sort o n)
    unfolding member_faults
    member_codes sort none n = coded_none
    member_codes sort (some i) n = search (coded_unless, sixteen)

    unset_codes : (e : Entity) (o : Option Interface) → Coded (unset_faults e o)
    unfolding unset_faults attribute_faults
    unset_codes e none = coded_none
    unset_codes e (some i) = search (coded_each, coded_unless, seventeen)

    interface_codes : (f : File) (n : Name) → Coded (interface_faults f n)
    unfolding interface_faults
    interface_codes f n = search (coded_unless, sixteen)

    entity_codes : (f : File) (e : Entity) → Coded (entity_name_faults f e)
    unfolding entity_name_faults again_faults
    entity_codes f e = search (coded_append, coded_each, interface_codes, repeated_codes, member_codes, unset_codes) depth 20

    expression_codes : (s : Scope) (a : Expression) → Coded (expression_name_faults s a)
    unfolding expression_name_faults unknown_name_faults
    expression_codes s (literal l) = coded_none
    expression_codes s (member n m) = search (coded_append, coded_unless, sixteen, member_codes)
    expression_codes s (to_real at a) = expression_codes s a
    expression_codes s (negate at a) = expression_codes s a
    expression_codes s (apply o at a b) = coded_append (expression_codes s a) (expression_codes s b)

    declaration_codes : (s : Scope) (n : Name) (o : Option Name) → Coded (declaration_faults s n o)
    unfolding declaration_faults unknown_name_faults variable_faults
    declaration_codes s n none = search (coded_unless, sixteen)
    declaration_codes s n (some i) = search (coded_append, coded_unless, fifteen, interface_codes)

    filter_codes : (s : Scope) (t : Target) (o : Option Filter) → Coded (filter_name_faults s t o)
    unfolding filter_name_faults
    filter_codes s t none = coded_none
    filter_codes s t (some g) = coded_append (member_codes is_attribute (interface_in s t.name.bytes) g.attribute) (expression_codes s g.expression)

    test_codes : (s : Scope) (t : Test) → Coded (test_name_faults s t)
    unfolding test_name_faults
    test_codes s changed = coded_none
    test_codes s (equals at a) = expression_codes s a

    clause_codes : (s : Scope) (c : Clause) → Coded (clause_name_faults s c)
    unfolding clause_name_faults target_name_faults
    clause_codes s c = search (coded_append, member_codes, declaration_codes, filter_codes, test_codes) depth 20

    call_codes : (s : Scope) (c : Call) → Coded (call_name_faults s c)
    unfolding call_name_faults target_name_faults
    call_codes s c = search (coded_append, member_codes, expression_codes, declaration_codes, filter_codes) depth 20

    rule_codes : (f : File) (r : Rule) → Coded (rule_name_faults f r)
    unfolding rule_name_faults again_faults
    rule_codes f r = search (coded_append, coded_each, repeated_codes, clause_codes, call_codes) depth 20

    name_codes : (f : File) → Coded (name_faults f)
    unfolding name_faults interface_name_faults again_faults
    name_codes f = search (coded_append, coded_each, repeated_codes, entity_codes, rule_codes) depth 20

  -- ---- 18

  module _ (eighteen : P 18) where
    expression_kind_codes : (s : Scope) (a : Expression) → Coded (expression_kind_faults s a)
    unfolding expression_kind_faults
    expression_kind_codes s (literal l) = coded_none
    expression_kind_codes s (member n m) = coded_none
    expression_kind_codes s (to_real at a) = let inside = expression_kind_codes s a in search (coded_append, coded_unless, eighteen, inside)
    expression_kind_codes s (negate at a) = let inside = expression_kind_codes s a in search (coded_append, coded_unless, eighteen, inside)
    expression_kind_codes s (apply o at a b) =
        let left = expression_kind_codes s a in
        let right = expression_kind_codes s b in
        search (coded_append, coded_unless, eighteen, left, right)

    matched_codes : (s : Scope) (k : Option Kind) (at : ℕ) (a : Expression) → Coded (matched_kind_faults s k at a)
    unfolding matched_kind_faults
    matched_codes s k at a = search (coded_append, coded_unless, eighteen, expression_kind_codes)

    assignment_codes : (o : Option Interface) (a : Assignment) → Coded (assignment_kind_faults o a)
    unfolding assignment_kind_faults
    assignment_codes o a = search (coded_unless, eighteen)

    filter_kind_codes : (s : Scope) (t : Target) (o : Option Filter) → Coded (filter_kind_faults s t o)
    unfolding filter_kind_faults
    filter_kind_codes s t none = coded_none
    filter_kind_codes s t (some g) = search (matched_codes)

    test_kind_codes : (s : Scope) (k : Option Kind) (t : Test) → Coded (test_kind_faults s k t)
    unfolding test_kind_faults
    test_kind_codes s k changed = coded_none
    test_kind_codes s k (equals at a) = matched_codes s k at a

    kind_codes : (f : File) → Coded (kind_faults f)
    unfolding kind_faults entity_kind_faults rule_kind_faults clause_kind_faults call_kind_faults
    kind_codes f = search (coded_append, coded_each, assignment_codes, matched_codes, filter_kind_codes, test_kind_codes) depth 20

  pub verdict_code : P 11 → P 12 → P 13 → P 44 → P 14 → P 15 → P 16 → P 17 → P 18 → (text : List ℕ) → RefusedByCode (verdict text)
  unfolding verdict lexing_verdict parsing_verdict file_verdict
  verdict_code p11 p12 p13 p44 p14 p15 p16 p17 p18 text = by_length (leb (length text) MOST_BYTES)
    where
      by_file : (p : ParseVerdict) → RefusedByCode (parsing_verdict p)
      by_file (grammatical f) =
          earliest_code (priority_faults f) _ (priority_codes p44 f)
          (earliest_code (count_faults f) _ (count_codes p14 f)
          (earliest_code (name_faults f) _ (name_codes p15 p16 p17 f)
          (earliest_code (kind_faults f) (accepted f) (kind_codes p18 f) tt)))
      by_file (ungrammatical_at at) = p13

      by_tokens : (x : Lexing) → RefusedByCode (lexing_verdict (length text) x)
      by_tokens (tokens ts) = by_file (parse (length text) ts)
      by_tokens (no_token_at at) = p12

      by_length : (b : Bool)
          → RefusedByCode (elim b [ true ↦ lexing_verdict (length text) (tokens_of text) | false ↦ refused_at 11 MOST_BYTES ])
      by_length true = by_tokens (tokens_of text)
      by_length false = p11
