-- A rule's clauses, calls and variables by the classes of its tokens alone: `event`, `action`, and `:` between a variable's name and its interface's.
use Prim.Native.Nat.{ℕ, suc, ◌+◌}
use mathlib.Core.Path.{◌≡◌, refl, sym, ap, ◌∙◌, subst}
use mathlib.Core.Bool.{true}
use mathlib.Core.List.{List, [], ◌∷◌, ◌++◌, map, flat_map, append-nil}
use mathlib.Core.Option.{Option, none, some}
use lib.ListN.{take, drop}
use Rattle.text.specs.definitions.Tokens.{Token, EVENT, ACTION, WHEN, COLON}
use Rattle.text.specs.definitions.Syntax.{Name, Target, Clause, Condition, clause, both, either, Call, Priority, Rule}
use Rattle.text.specs.definitions.Readers.{read}
use Rattle.text.specs.definitions.Grammar.{rule_after}
use Rattle.text.proofs.laws.LanguageLaws.{is}
use Rattle.text.proofs.laws.ListLaws.{flatMap_append, flatMap_map, flatMap_flatMap, flatMap_self, flatMap_none}
use Rattle.text.proofs.laws.SpotLaws.{Spots, spots_select, offsets_of, spots_offsets}
use Rattle.text.proofs.laws.DeclarationMarks.{FirstAt}
use Rattle.text.proofs.laws.RuleMarks.{
  RuleAt,
  VariableAt,
  Ruled,
  rule_mark,
  priority_mark,
  variable_mark,
  clause_mark,
  call_mark,
  RuledAt,
  declared_marks,
  target_marks,
  condition_marks,
  call_marks,
  priority_marks,
  rule_marks,
  is_ruling,
  rule_after_marks,
}
use Rattle.text.proofs.laws.FlatLaws.{same_offset, rule_in, rule_within, clause_in, call_in, ruled_class, ruled_class_at, unchosen, chosen_one, not_wanted}
use Rattle.checking.specs.definitions.Scope.{Variable, clauses, declared_as, variables}

unfoldable pub variable_in : Ruled → List Variable
variable_in (rule_mark r) = []
variable_in (priority_mark k) = []
variable_in (variable_mark n i) = record { name = n; interface = i } ∷ []
variable_in (clause_mark c) = []
variable_in (call_mark c) = []

-- ---- what of a rule's marks is which

-- of a condition's marks those that are picked, by its clauses; of a call's, by the call
module _ {X : Type 0} (pick : Ruled → List X) (of_clause : Clause → List X) (of_call : Call → List X)
    (clause_picks : (c : Clause) → flat_map pick (condition_marks (clause c)) ≡ of_clause c)
    (call_picks : (c : Call) → flat_map pick (call_marks c) ≡ of_call c) (priority_picks : (k : Priority) → pick (priority_mark k) ≡ []) where
  condition_pick : (c : Condition) → flat_map pick (condition_marks c) ≡ flat_map of_clause (clauses c)
  unfolding condition_marks clauses flat_map
  condition_pick (clause c) = clause_picks c ∙ sym (append-nil (of_clause c))
  condition_pick (both a b) =
      flatMap_append pick (condition_marks a) (condition_marks b)
      ∙ rw (condition_pick a, condition_pick b) (sym (flatMap_append of_clause (clauses a) (clauses b)))
  condition_pick (either a b) =
      flatMap_append pick (condition_marks a) (condition_marks b)
      ∙ rw (condition_pick a, condition_pick b) (sym (flatMap_append of_clause (clauses a) (clauses b)))

  rule_pick : (r : Rule) → flat_map pick (rule_marks r) ≡ flat_map of_clause (clauses r.condition) ++ flat_map of_call r.calls
  unfolding rule_marks priority_marks flat_map
  rule_pick r =
      flatMap_append pick (priority_marks r.priority) (condition_marks r.condition ++ flat_map call_marks r.calls)
      ∙ rw (no_priority r.priority) (flatMap_append pick (condition_marks r.condition) (flat_map call_marks r.calls)
      ∙ rw (condition_pick r.condition, flatMap_flatMap pick call_marks of_call call_picks r.calls))
    where
      no_priority : (o : Option Priority) → flat_map pick (priority_marks o) ≡ []
      no_priority none = refl
      no_priority (some k) = rw (priority_picks k)

-- a target's mark is of no clause and no call
module _ {X : Type 0} (pick : Ruled → List X) (skips : (n i : Name) → pick (variable_mark n i) ≡ []) where
  target_none : (t : Target) → flat_map pick (target_marks t) ≡ []
  unfolding target_marks flat_map
  target_none t = go t.name t.declares
    where
      go : (n : Name) (o : Option Name) → flat_map pick (declared_marks n o) ≡ []
      go n none = refl
      go n (some i) = rw (skips n i)

pub marks_clauses : (r : Rule) → flat_map clause_in (rule_marks r) ≡ clauses r.condition
unfolding clause_in condition_marks call_marks flat_map
marks_clauses r =
    rule_pick clause_in (λ c. c ∷ []) (λ c. []) (λ c. ap (λ l. c ∷ l) (target_none clause_in (λ n i. refl) c.target))
    (λ c. target_none clause_in (λ n i. refl) c.target) (λ k. refl) r
    ∙ rw (flatMap_self (clauses r.condition), flatMap_none {B = Clause} r.calls) (append-nil (clauses r.condition))

pub marks_calls : (r : Rule) → flat_map call_in (rule_marks r) ≡ r.calls
unfolding call_in condition_marks call_marks flat_map
marks_calls r =
    rule_pick call_in (λ c. []) (λ c. c ∷ []) (λ c. target_none call_in (λ n i. refl) c.target)
    (λ c. ap (λ l. c ∷ l) (target_none call_in (λ n i. refl) c.target)) (λ k. refl) r
    ∙ rw (flatMap_none {B = Call} (clauses r.condition), flatMap_self r.calls)

pub marks_variables : (r : Rule) → flat_map variable_in (rule_marks r) ≡ variables r
unfolding variable_in condition_marks call_marks target_marks variables
marks_variables r =
    rule_pick variable_in (λ c. of c.target) (λ c. of c.target) (λ c. target c.target.name c.target.declares)
    (λ c. target c.target.name c.target.declares) (λ k. refl) r
    ∙ rw (← flatMap_map of (λ c. c.target) (clauses r.condition), ← flatMap_map of (λ c. c.target) r.calls)
    (sym (flatMap_append of (map (λ c. c.target) (clauses r.condition)) (map (λ c. c.target) r.calls)))
  where
    of : Target → List Variable
    of t = declared_as t.name t.declares

    target : (n : Name) (o : Option Name) → flat_map variable_in (declared_marks n o) ≡ declared_as n o
    target n none = refl
    target n (some i) = refl

-- ---- in the tokens after `when`

module _ (ts : List Token) (t : Token) (p : ℕ) (r : Rule) (n : ℕ) (e : rule_after t (drop p ts) ≡ read r n) where
  chosen : {X : Type 0} (c : ℕ) (at : ℕ → X → Type 0) (pick : Ruled → List X) (xs : List X) → is_ruling c ≡ true → flat_map pick (rule_marks r) ≡ xs
      → ((q : ℕ) (x : Ruled) → RuledAt ts q x → Spots ts (is c) at q (suc q) (pick x)) → Spots ts (is c) at p (p + n) xs
  chosen c at pick xs w picks here =
      let (ms, s, h) = (rule_after_marks ts t p).marks r n e in
      subst (λ l. Spots ts (is c) at p (p + n) l) (ap (flat_map pick) h.0 ∙ picks) (spots_select pick (not_wanted is_ruling c w) here s)

  pub rule_clauses : Spots ts (is EVENT) (λ q c. FirstAt ts q EVENT c.at) p (p + n) (clauses r.condition)
  unfolding clause_in ruled_class
  rule_clauses = chosen EVENT _ clause_in _ refl (marks_clauses r) here
    where
      here : (q : ℕ) (x : Ruled) → RuledAt ts q x → Spots ts (is EVENT) (λ q c. FirstAt ts q EVENT c.at) q (suc q) (clause_in x)
      here q (rule_mark y) a = unchosen (ruled_class_at (rule_mark y) a) refl
      here q (priority_mark k) a = unchosen a.word refl
      here q (variable_mark m i) a = unchosen (ruled_class_at (variable_mark m i) a) refl
      here q (clause_mark c) a = chosen_one (ruled_class_at (clause_mark c) a) refl a
      here q (call_mark c) a = unchosen (ruled_class_at (call_mark c) a) refl

  pub rule_calls : Spots ts (is ACTION) (λ q c. FirstAt ts q ACTION c.at) p (p + n) r.calls
  unfolding call_in ruled_class
  rule_calls = chosen ACTION _ call_in _ refl (marks_calls r) here
    where
      here : (q : ℕ) (x : Ruled) → RuledAt ts q x → Spots ts (is ACTION) (λ q c. FirstAt ts q ACTION c.at) q (suc q) (call_in x)
      here q (rule_mark y) a = unchosen (ruled_class_at (rule_mark y) a) refl
      here q (priority_mark k) a = unchosen a.word refl
      here q (variable_mark m i) a = unchosen (ruled_class_at (variable_mark m i) a) refl
      here q (clause_mark c) a = unchosen (ruled_class_at (clause_mark c) a) refl
      here q (call_mark c) a = chosen_one (ruled_class_at (call_mark c) a) refl a

  -- no rule begins within one
  pub rule_no_rules : Spots ts (is WHEN) (RuleAt ts) p (p + n) []
  unfolding rule_in ruled_class
  rule_no_rules = chosen WHEN _ rule_in _ refl (rule_within r) here
    where
      here : (q : ℕ) (x : Ruled) → RuledAt ts q x → Spots ts (is WHEN) (RuleAt ts) q (suc q) (rule_in x)
      here q (rule_mark y) a = chosen_one (ruled_class_at (rule_mark y) a) refl a
      here q (priority_mark k) a = unchosen a.word refl
      here q (variable_mark m i) a = unchosen (ruled_class_at (variable_mark m i) a) refl
      here q (clause_mark c) a = unchosen (ruled_class_at (clause_mark c) a) refl
      here q (call_mark c) a = unchosen (ruled_class_at (call_mark c) a) refl

  -- their offsets
  pub clause_offsets : offsets_of (is EVENT) (take n (drop p ts)) ≡ map (λ c. c.at) (clauses r.condition)
  clause_offsets = spots_offsets (λ c. c.at) (λ q c u a s. same_offset ts q a.stands s a.offset) rule_clauses n refl

  pub call_offsets : offsets_of (is ACTION) (take n (drop p ts)) ≡ map (λ c. c.at) r.calls
  call_offsets = spots_offsets (λ c. c.at) (λ q c u a s. same_offset ts q a.stands s a.offset) rule_calls n refl

  pub rule_variables : Spots ts (is COLON) (λ q v. VariableAt ts q v.name v.interface) p (p + n) (variables r)
  unfolding variable_in ruled_class
  rule_variables = chosen COLON _ variable_in _ refl (marks_variables r) here
    where
      here : (q : ℕ) (x : Ruled) → RuledAt ts q x → Spots ts (is COLON) (λ q v. VariableAt ts q v.name v.interface) q (suc q) (variable_in x)
      here q (rule_mark y) a = unchosen (ruled_class_at (rule_mark y) a) refl
      here q (priority_mark k) a = unchosen a.word refl
      here q (variable_mark m i) a = chosen_one (ruled_class_at (variable_mark m i) a) refl a
      here q (clause_mark c) a = unchosen (ruled_class_at (clause_mark c) a) refl
      here q (call_mark c) a = unchosen (ruled_class_at (call_mark c) a) refl
