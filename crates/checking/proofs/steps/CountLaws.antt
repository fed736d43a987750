-- The items of a file beyond the counts: in the order of the text, as a scan meets them, and by their sorts, as they are defined. The earliest
-- is the same.
use Prim.Native.Nat.{ℕ, zero, suc, ◌-◌}
use native.Mathlib.Nat.{sub-zero}
use native.Mathlib.Omega.{arith}
use mathlib.Core.Path.{◌≡◌, refl, sym, ap, ◌∙◌}
use mathlib.Core.List.{List, [], ◌∷◌, ◌++◌, map, flat_map, append_assoc, map-append, cons≢nil}
use mathlib.Core.Option.{Option}
use lib.ListN.{length, drop}
use lib.Seq.{drop-nil}
use Rattle.text.specs.definitions.Syntax.{Member, Interface, Entity, Rule, File}
use Rattle.text.proofs.laws.ListLaws.{map_flatMap}
use Rattle.text.proofs.laws.DeclarationMarks.{Declared, interface_mark, member_mark, entity_mark, close_mark, interface_marks, entity_marks}
use Rattle.text.proofs.laws.RuleMarks.{Ruled, rule_mark, priority_mark, variable_mark, clause_mark, call_mark, rule_marks}
use Rattle.text.proofs.laws.FlatLaws.{declarations, rulings, rule_in, clause_in, call_in, rule_within}
use Rattle.checking.specs.definitions.Faults.{fault, earliest}
use Rattle.checking.specs.inner_contracts.FoundFaults.{merged}
use Rattle.checking.specs.definitions.Scope.{clauses, variables}
use Rattle.checking.specs.definitions.CountFaults.{count_faults}
use Rattle.checking.proofs.laws.FaultLaws.{earliest_append}
use Rattle.checking.proofs.laws.LeastLaws.{
  lower,
  least,
  lower_assoc,
  least_append,
  lower_first,
  shuffled,
  to_second,
  to_third,
  swapped,
  at_least,
  earliest_least,
}
use Rattle.checking.proofs.laws.RuleSpots.{variable_in, marks_clauses, marks_calls, marks_variables}

-- ---- the items of marks beyond the counts, in the order of the text

-- one item more of a list
drop_more : {A : Type 0} (n : ℕ) (x : A) (xs : List A) → drop n (x ∷ xs) ≡ drop n (x ∷ []) ++ drop (n - 1) xs
drop_more zero x xs = refl
drop_more (suc n) x xs = let e : suc n - 1 ≡ n = omega arith in rw (e, drop-nil n)

least_more : (n x : ℕ) (xs : List ℕ) → least (drop n (x ∷ xs)) ≡ lower (least (drop n (x ∷ []))) (least (drop (n - 1) xs))
least_more n x xs = ap least (drop_more n x xs) ∙ least_append (drop n (x ∷ [])) (drop (n - 1) xs)

less_more : (n k : ℕ) → n - 1 - k ≡ n - suc k
less_more n k = omega arith

unfoldable pub declared_late : ℕ → ℕ → ℕ → List Declared → List ℕ
declared_late a b c [] = []
declared_late a b c (interface_mark i ∷ xs) = drop a (i.at ∷ []) ++ declared_late (a - 1) 12 c xs
declared_late a b c (member_mark m ∷ xs) = drop b (m.at ∷ []) ++ declared_late a (b - 1) c xs
declared_late a b c (entity_mark e ∷ xs) = drop c (e.at ∷ []) ++ declared_late a b (c - 1) xs
declared_late a b c (close_mark ∷ xs) = declared_late a b c xs

unfoldable pub ruled_late : ℕ → ℕ → ℕ → ℕ → List Ruled → List ℕ
ruled_late a b c d [] = []
ruled_late a b c d (rule_mark r ∷ xs) = drop a (r.at ∷ []) ++ ruled_late (a - 1) 3 8 8 xs
ruled_late a b c d (priority_mark k ∷ xs) = ruled_late a b c d xs
ruled_late a b c d (variable_mark n i ∷ xs) = drop b (n.at ∷ []) ++ ruled_late a (b - 1) c d xs
ruled_late a b c d (clause_mark k ∷ xs) = drop c (k.at ∷ []) ++ ruled_late a b (c - 1) d xs
ruled_late a b c d (call_mark k ∷ xs) = drop d (k.at ∷ []) ++ ruled_late a b c (d - 1) xs

-- members, and after them whatever comes
late_members : (a b c : ℕ) (ms : List Member) (ys : List Declared)
    → declared_late a b c (map member_mark ms ++ ys) ≡ drop b (map (λ m. m.at) ms) ++ declared_late a (b - length ms) c ys
unfolding declared_late
late_members a b c [] ys = rw (drop-nil {A = ℕ} b, sub-zero b)
late_members a b c (m ∷ ms) ys =
    ap (λ l. drop b (m.at ∷ []) ++ l) (late_members a (b - 1) c ms ys)
    ∙ sym (append_assoc (drop b (m.at ∷ [])) (drop (b - 1) (map (λ m. m.at) ms)) (declared_late a (b - 1 - length ms) c ys))
    ∙ rw (less_more b (length ms), drop_more b m.at (map (λ m. m.at) ms))

late_entities : (a b c : ℕ) (es : List Entity) → declared_late a b c (flat_map entity_marks es) ≡ drop c (map (λ e. e.at) es)
unfolding declared_late entity_marks flat_map
late_entities a b c [] = sym (drop-nil c)
late_entities a b c (e ∷ es) = ap (λ l. drop c (e.at ∷ []) ++ l) (late_entities a b (c - 1) es) ∙ sym (drop_more c e.at (map (λ e. e.at) es))

unfoldable pub interface_late : Interface → List ℕ
interface_late i = drop 12 (map (λ m. m.at) i.members)

late_declared : (a b c : ℕ) (is : List Interface) (es : List Entity) → least (declared_late a b c (flat_map interface_marks is ++ flat_map entity_marks es))
    ≡ lower (least (drop a (map (λ i. i.at) is))) (lower (least (flat_map interface_late is)) (least (drop c (map (λ e. e.at) es))))
unfolding flat_map declared_late interface_marks interface_late
late_declared a b c [] es = rw (late_entities a b c es, drop-nil {A = ℕ} a) (sym (lower_first (least (drop c (map (λ e. e.at) es)))))
late_declared a b c (i ∷ is) es =
    ap (λ l. least (declared_late a b c l)) flat
    ∙ first
    ∙ ap (λ o. lower (least (drop a (i.at ∷ []))) (lower (least (interface_late i)) o)) (late_declared (a - 1) (12 - length i.members) c is es)
    ∙ shuffled (least (drop a (i.at ∷ []))) (least (interface_late i)) (least (drop (a - 1) (map (λ i. i.at) is))) (least (flat_map interface_late is))
    (least (drop c (map (λ e. e.at) es)))
    ∙ rw (least_more a i.at (map (λ i. i.at) is), least_append)
  where
    R : List Declared
    R = flat_map interface_marks is ++ flat_map entity_marks es

    flat : interface_marks i ++ flat_map interface_marks is ++ flat_map entity_marks es ≡ interface_mark i ∷ (map member_mark i.members ++ (close_mark ∷ R))
    flat = ap (λ l. interface_mark i ∷ l) (simp append_assoc)

    first : least (declared_late a b c (interface_mark i ∷ (map member_mark i.members ++ (close_mark ∷ R))))
        ≡ lower (least (drop a (i.at ∷ []))) (lower (least (interface_late i)) (least (declared_late (a - 1) (12 - length i.members) c R)))
    first =
        least_append (drop a (i.at ∷ [])) (declared_late (a - 1) 12 c (map member_mark i.members ++ (close_mark ∷ R)))
        ∙ ap (lower (least (drop a (i.at ∷ []))))
        (ap least (late_members (a - 1) 12 c i.members (close_mark ∷ R))
        ∙ least_append (interface_late i) (declared_late (a - 1) (12 - length i.members) c R))

-- ---- rules

abbrev variable_offsets : List Ruled → List ℕ
variable_offsets xs = map (λ v. v.name.at) (flat_map variable_in xs)

abbrev clause_offsets : List Ruled → List ℕ
clause_offsets xs = map (λ c. c.at) (flat_map clause_in xs)

abbrev call_offsets : List Ruled → List ℕ
call_offsets xs = map (λ c. c.at) (flat_map call_in xs)

-- marks within a rule, and after them whatever comes
late_within : (a b c d : ℕ) (xs ys : List Ruled) → flat_map rule_in xs ≡ [] → (b' : ℕ) × (c' : ℕ) × (d' : ℕ)
    × (least (ruled_late a b c d (xs ++ ys))
    ≡ lower (least (drop b (variable_offsets xs)))
    (lower (least (drop c (clause_offsets xs))) (lower (least (drop d (call_offsets xs))) (least (ruled_late a b' c' d' ys)))))
unfolding ruled_late flat_map rule_in variable_in clause_in call_in least lower
late_within a b c d [] ys h = (b, c, d, rw (drop-nil {A = ℕ} b, drop-nil {A = ℕ} c, drop-nil {A = ℕ} d))
late_within a b c d (rule_mark r ∷ xs) ys h = absurd (cons≢nil h)
late_within a b c d (priority_mark k ∷ xs) ys h = late_within a b c d xs ys h
late_within a b c d (variable_mark n i ∷ xs) ys h =
    let (b', c', d', e) = late_within a (b - 1) c d xs ys h in (
      b',
      c',
      d',
      rw (least_more b n.at (variable_offsets xs)) (least_append (drop b (n.at ∷ [])) _ ∙ ap (lower (least (drop b (n.at ∷ [])))) e
          ∙ sym (lower_assoc (least (drop b (n.at ∷ []))) (least (drop (b - 1) (variable_offsets xs))) _)),
    )
late_within a b c d (clause_mark k ∷ xs) ys h =
    let (b', c', d', e) = late_within a b (c - 1) d xs ys h in (
      b',
      c',
      d',
      rw (least_more c k.at (clause_offsets xs)) (least_append (drop c (k.at ∷ [])) _ ∙ ap (lower (least (drop c (k.at ∷ [])))) e
          ∙ to_second (least (drop c (k.at ∷ []))) (least (drop b (variable_offsets xs))) (least (drop (c - 1) (clause_offsets xs)))
          (least (drop d (call_offsets xs))) _),
    )
late_within a b c d (call_mark k ∷ xs) ys h =
    let (b', c', d', e) = late_within a b c (d - 1) xs ys h in (
      b',
      c',
      d',
      rw (least_more d k.at (call_offsets xs)) (least_append (drop d (k.at ∷ [])) _ ∙ ap (lower (least (drop d (k.at ∷ [])))) e
          ∙ to_third (least (drop d (k.at ∷ []))) (least (drop b (variable_offsets xs))) (least (drop c (clause_offsets xs)))
          (least (drop (d - 1) (call_offsets xs))) _),
    )

unfoldable pub rule_late : Rule → List ℕ
rule_late r =
    drop 3 (map (λ v. v.name.at) (variables r)) ++ drop 8 (map (λ c. c.at) (clauses r.condition)) ++ drop 8 (map (λ c. c.at) r.calls)

late_rule : (a : ℕ) (r : Rule) (ys : List Ruled) → (b : ℕ) × (c : ℕ) × (d : ℕ)
    × (least (ruled_late a 3 8 8 (rule_marks r ++ ys)) ≡ lower (least (rule_late r)) (least (ruled_late a b c d ys)))
unfolding rule_late
late_rule a r ys = go (late_within a 3 8 8 (rule_marks r) ys (rule_within r))
  where
    vs : List ℕ
    vs = drop 3 (map (λ v. v.name.at) (variables r))

    cs : List ℕ
    cs = drop 8 (map (λ c. c.at) (clauses r.condition))

    ks : List ℕ
    ks = drop 8 (map (λ c. c.at) r.calls)

    same : (o : Option ℕ) → lower (least vs) (lower (least cs) (lower (least ks) o)) ≡ lower (least (vs ++ cs ++ ks)) o
    same o = simp (least_append, lower_assoc)

    go : (b : ℕ) × (c : ℕ) × (d : ℕ) × (least (ruled_late a 3 8 8 (rule_marks r ++ ys))
        ≡ lower (least (drop 3 (variable_offsets (rule_marks r)))) (lower (least (drop 8 (clause_offsets (rule_marks r))))
        (lower (least (drop 8 (call_offsets (rule_marks r)))) (least (ruled_late a b c d ys)))))
        → (b : ℕ) × (c : ℕ) × (d : ℕ) × (least (ruled_late a 3 8 8 (rule_marks r ++ ys)) ≡ lower (least (rule_late r)) (least (ruled_late a b c d ys)))
    go (b, c, d, e) = (b, c, d, (rw (marks_variables r, marks_clauses r, marks_calls r) at e) ∙ same (least (ruled_late a b c d ys)))

late_ruled : (a b c d : ℕ) (rs : List Rule) → least (ruled_late a b c d (flat_map (λ r. rule_mark r ∷ rule_marks r) rs))
    ≡ lower (least (drop a (map (λ r. r.at) rs))) (least (flat_map rule_late rs))
unfolding ruled_late flat_map least lower
late_ruled a b c d [] = rw (drop-nil {A = ℕ} a)
late_ruled a b c d (r ∷ rs) = go (late_rule (a - 1) r (flat_map (λ r. rule_mark r ∷ rule_marks r) rs)) (λ b c d. late_ruled (a - 1) b c d rs)
  where
    F : List Ruled
    F = flat_map (λ r. rule_mark r ∷ rule_marks r) rs

    H : Option ℕ
    H = least (drop (a - 1) (map (λ r. r.at) rs))

    Q : Option ℕ
    Q = least (flat_map rule_late rs)

    go : (b : ℕ) × (c : ℕ) × (d : ℕ) × (least (ruled_late (a - 1) 3 8 8 (rule_marks r ++ F)) ≡ lower (least (rule_late r)) (least (ruled_late (a - 1) b c d F)))
        → ((b c d : ℕ) → least (ruled_late (a - 1) b c d F) ≡ lower H Q)
        → least (drop a (r.at ∷ []) ++ ruled_late (a - 1) 3 8 8 (rule_marks r ++ F))
        ≡ lower (least (drop a (r.at ∷ map (λ r. r.at) rs))) (least (rule_late r ++ flat_map rule_late rs))
    go (b, c, d, e) ih =
        least_append (drop a (r.at ∷ [])) (ruled_late (a - 1) 3 8 8 (rule_marks r ++ F))
        ∙ ap (lower (least (drop a (r.at ∷ [])))) (e ∙ ap (lower (least (rule_late r))) (ih b c d))
        ∙ swapped (least (drop a (r.at ∷ []))) (least (rule_late r)) H Q
        ∙ rw (least_more a r.at (map (λ r. r.at) rs), least_append (rule_late r) (flat_map rule_late rs))

-- ---- the whole file

unfoldable pub count_late : File → List ℕ
count_late f =
    drop 16 (map (λ i. i.at) f.interfaces) ++ flat_map interface_late f.interfaces ++ drop 32 (map (λ e. e.at) f.entities)
    ++ drop 64 (map (λ r. r.at) f.rules)
    ++ flat_map rule_late f.rules

count_faults_late : (f : File) → count_faults f ≡ map (fault 14) (count_late f)
unfolding count_faults count_late interface_late rule_late
count_faults_late f = simp (map-append, map_flatMap (fault 14) interface_late f.interfaces, map_flatMap (fault 14) rule_late f.rules)

-- in the order of the text, and by their sorts
pub late_earliest : (f : File)
    → merged (earliest (map (fault 14) (declared_late 16 12 32 (declarations f)))) (earliest (map (fault 14) (ruled_late 64 3 8 8 (rulings f))))
    ≡ earliest (count_faults f)
unfolding declarations rulings count_late
late_earliest f =
    sym (earliest_append (map (fault 14) D) (map (fault 14) R))
    ∙ ap earliest (sym (map-append (fault 14) D R))
    ∙ earliest_least (D ++ R)
    ∙ ap at_least same
    ∙ sym (earliest_least (count_late f))
    ∙ ap earliest (sym (count_faults_late f))
  where
    D : List ℕ
    D = declared_late 16 12 32 (declarations f)

    R : List ℕ
    R = ruled_late 64 3 8 8 (rulings f)

    same : least (D ++ R) ≡ least (count_late f)
    same =
        least_append D R
        ∙ rw (late_declared 16 12 32 f.interfaces f.entities, late_ruled 64 3 8 8 f.rules)
        (simp (least_append, lower_assoc))
