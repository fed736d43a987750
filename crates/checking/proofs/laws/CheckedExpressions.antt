-- What a rule's clauses and calls have where the checks find no fault: known members of the right sort, and expressions of a cell's kind.
use Prim.Native.Nat.{ℕ}
use mathlib.Core.Path.{◌≡◌, refl, sym, ap, ◌∙◌}
use mathlib.Core.Bool.{Bool, true, false}
use mathlib.Core.List.{List, [], cons≢nil}
use mathlib.Core.Option.{Option, none, some, bind}
use lib.Dec.{T}
use Rattle.values.specs.declared.Kind.{Kind}
use Rattle.values.specs.definitions.Fitting.{number_kind, operated_kind, real_kind, has_kind, operand_fits, operands_fit, kinds_fit}
use Rattle.values.proofs.laws.FittingLaws.{same_kind_eq}
use Rattle.text.specs.definitions.Syntax.{
  Name,
  Sort,
  Member,
  Interface,
  literal_kind,
  Expression,
  literal,
  member,
  to_real,
  negate,
  apply,
  Target,
  Filter,
  Test,
  changed,
  equals,
  Clause,
  Call,
}
use Rattle.checking.specs.definitions.Faults.{fault_unless}
use Rattle.checking.specs.definitions.Scope.{Indexed, member_named, Scope, is_known, interface_in, is_attribute, is_action, is_event, is_member}
use Rattle.checking.specs.definitions.NameFaults.{
  is_of_sort,
  member_faults,
  unknown_name_faults,
  expression_name_faults,
  target_name_faults,
  filter_name_faults,
  test_name_faults,
  clause_name_faults,
  call_name_faults,
}
use Rattle.checking.specs.definitions.KindFaults.{
  kind_if_found,
  member_kind,
  kind_in,
  kind_of,
  expression_kind_faults,
  matched_kind_faults,
  filter_kind_faults,
  test_kind_faults,
  clause_kind_faults,
  call_kind_faults,
}
use Rattle.text.proofs.laws.ListLaws.{both_empty, three_empty, four_empty}

pub no_fault : (b : Bool) (c p : ℕ) → fault_unless b c p ≡ [] → T b
unfolding fault_unless
no_fault true c p h = tt
no_fault false c p h = absurd (cons≢nil h)

-- ---- what is known

-- a name whose interface is known, and a member of that interface
pub record KnownMember (s : Scope) (sort : Sort → Bool) (n m : List ℕ) : Type 0 where
  pub interface : Interface
  pub found : Indexed Member
  pub of_interface : interface_in s n ≡ some interface
  pub named : member_named interface m ≡ some found
  pub of_sort : T (sort found.item.sort)

-- a cell beside an expression of its kind
pub record KnownEquation (s : Scope) (sort : Sort → Bool) (n m : List ℕ) (a : Expression) : Type 0 where
  pub cell : KnownMember s sort n m
  pub kind : kind_of s a ≡ some cell.found.item.kind

abbrev pub KnownFilter : Scope → List ℕ → Option Filter → Type 0
KnownFilter s n none = Unit {0}
KnownFilter s n (some g) = KnownEquation s is_attribute n g.attribute.bytes g.expression

abbrev pub KnownTest : Scope → Kind → Test → Type 0
KnownTest s k changed = Unit {0}
KnownTest s k (equals at a) = kind_of s a ≡ some k

pub record KnownClause (s : Scope) (c : Clause) : Type 0 where
  pub cell : KnownMember s is_event c.target.name.bytes c.event.bytes
  pub filter : KnownFilter s c.target.name.bytes c.filter
  pub test : KnownTest s cell.found.item.kind c.test

pub record KnownCall (s : Scope) (c : Call) : Type 0 where
  pub parameter : KnownEquation s is_action c.target.name.bytes c.action.bytes c.parameter
  pub filter : KnownFilter s c.target.name.bytes c.filter

-- ---- kinds

pub kinds_fit_eq : (j k : Kind) → T (kinds_fit (some j) (some k)) → j ≡ k
unfolding kinds_fit
kinds_fit_eq j k h = same_kind_eq j k h

pub member_kind_found : (i : Interface) (m : Name) {r : Indexed Member} → member_named i m.bytes ≡ some r → member_kind (some i) m ≡ some r.item.kind
unfolding member_kind
member_kind_found i m h = ap kind_if_found h

pub cell_kind : (s : Scope) {sort : Sort → Bool} (n m : Name) (c : KnownMember s sort n.bytes m.bytes) → kind_in s n m ≡ some c.found.item.kind
unfolding kind_in
cell_kind s n m c = ap (λ (i : Option Interface). member_kind i m) c.of_interface ∙ member_kind_found c.interface m c.named

-- an expression with no fault inside has a kind
Kinded : Option Kind → Type 0
Kinded o = (k : Kind) × (o ≡ some k)

there : (o : Option Kind) → T (has_kind o) → Kinded o
unfolding Kinded has_kind
there (some k) h = (k, refl)
there none h = elim h [ ]

operand_kinded : (result : Kind → Option Kind) (o : Option Kind) → Kinded o → T (operand_fits result o) → Kinded (bind o result)
unfolding Kinded bind operand_fits
operand_kinded result o (k, e) h = rw e (there (result k) (rw e at h))

operands_kinded : (o p : Option Kind) → Kinded o → Kinded p → T (operands_fit o p) → Kinded (bind o λ j. bind p λ k. operated_kind j k)
unfolding Kinded bind operands_fit
operands_kinded o p (j, d) (k, e) h = rw (d, e) (there (operated_kind j k) (rw (d, e) at h))

-- ---- no fault

module _ (s : Scope) (known_interface : (n : List ℕ) → T (is_known s n) → (i : Interface) × (interface_in s n ≡ some i)) where
  member_known : (sort : Sort → Bool) (n : List ℕ) (m : Name) → T (is_known s n) → member_faults sort (interface_in s n) m ≡ []
      → KnownMember s sort n m.bytes
  unfolding member_faults
  member_known sort n m k h = go (known_interface n k)
    where
      by_member : (i : Interface) → interface_in s n ≡ some i → (o : Option (Indexed Member)) → member_named i m.bytes ≡ o → T (is_of_sort sort o)
          → KnownMember s sort n m.bytes
      by_member i e (some r) q t = record { interface = i; found = r; of_interface = e; named = q; of_sort = t }
      by_member i e none q t = elim t [ ]

      go : (i : Interface) × (interface_in s n ≡ some i) → KnownMember s sort n m.bytes
      go (i, e) =
          by_member i e (member_named i m.bytes) refl (no_fault (is_of_sort sort (member_named i m.bytes)) 16 m.at (rw e at h))

  expression_kinded : (a : Expression) → expression_name_faults s a ≡ [] → expression_kind_faults s a ≡ [] → Kinded (kind_of s a)
  unfolding Kinded expression_name_faults expression_kind_faults
  expression_kinded (literal l) n k = (literal_kind l, refl)
  expression_kinded (member x m) n k =
      let p : (unknown_name_faults s x ≡ []) × (member_faults is_member (interface_in s x.bytes) m ≡ []) = both_empty n in
      let c = member_known is_member x.bytes m (no_fault (is_known s x.bytes) 16 x.at p.0) p.1 in
      (c.found.item.kind, cell_kind s x m c)
  expression_kinded (to_real at a) n k =
      let p : (fault_unless (operand_fits real_kind (kind_of s a)) 18 at ≡ []) × (expression_kind_faults s a ≡ []) = both_empty k in
      operand_kinded real_kind (kind_of s a) (expression_kinded a n p.1) (no_fault (operand_fits real_kind (kind_of s a)) 18 at p.0)
  expression_kinded (negate at a) n k =
      let p : (fault_unless (operand_fits number_kind (kind_of s a)) 18 at ≡ []) × (expression_kind_faults s a ≡ []) = both_empty k in
      operand_kinded number_kind (kind_of s a) (expression_kinded a n p.1) (no_fault (operand_fits number_kind (kind_of s a)) 18 at p.0)
  expression_kinded (apply o at a b) n k =
      let p : (fault_unless (operands_fit (kind_of s a) (kind_of s b)) 18 at ≡ []) × (expression_kind_faults s a ≡ []) × (expression_kind_faults s b ≡ []) =
      three_empty k in
      let q : (expression_name_faults s a ≡ []) × (expression_name_faults s b ≡ []) = both_empty n in
      operands_kinded (kind_of s a) (kind_of s b) (expression_kinded a q.0 p.1) (expression_kinded b q.1 p.2)
      (no_fault (operands_fit (kind_of s a) (kind_of s b)) 18 at p.0)

  -- beside a cell
  matched : (k : Kind) (at : ℕ) (a : Expression) → expression_name_faults s a ≡ [] → matched_kind_faults s (some k) at a ≡ [] → kind_of s a ≡ some k
  unfolding Kinded matched_kind_faults
  matched k at a n h =
      let p : (fault_unless (kinds_fit (some k) (kind_of s a)) 18 at ≡ []) × (expression_kind_faults s a ≡ []) = both_empty h in
      go (expression_kinded a n p.1) (no_fault (kinds_fit (some k) (kind_of s a)) 18 at p.0)
    where
      go : Kinded (kind_of s a) → T (kinds_fit (some k) (kind_of s a)) → kind_of s a ≡ some k
      go (j, e) t = e ∙ ap some (sym (kinds_fit_eq k j (rw e at t)))

  equation_known : (sort : Sort → Bool) (x m : Name) (at : ℕ) (a : Expression) → T (is_known s x.bytes)
      → member_faults sort (interface_in s x.bytes) m ≡ [] → expression_name_faults s a ≡ [] → matched_kind_faults s (kind_in s x m) at a ≡ []
      → KnownEquation s sort x.bytes m.bytes a
  equation_known sort x m at a k f n h =
      let c = member_known sort x.bytes m k f in
      record { cell = c; kind = matched c.found.item.kind at a n (rw (cell_kind s x m c) at h) }

  filter_known : (t : Target) (g : Option Filter) → T (is_known s t.name.bytes) → filter_name_faults s t g ≡ [] → filter_kind_faults s t g ≡ []
      → KnownFilter s t.name.bytes g
  unfolding filter_name_faults filter_kind_faults
  filter_known t none k n h = tt
  filter_known t (some g) k n h =
      let p : (member_faults is_attribute (interface_in s t.name.bytes) g.attribute ≡ []) × (expression_name_faults s g.expression ≡ []) = both_empty n in
      equation_known is_attribute t.name g.attribute g.equals_at g.expression k p.0 p.1 h

  test_known : (k : Kind) (t : Test) → test_name_faults s t ≡ [] → test_kind_faults s (some k) t ≡ [] → KnownTest s k t
  unfolding test_name_faults test_kind_faults
  test_known k changed n h = tt
  test_known k (equals at a) n h = matched k at a n h

  pub clause_known : (c : Clause) → T (is_known s c.target.name.bytes) → clause_name_faults s c ≡ [] → clause_kind_faults s c ≡ [] → KnownClause s c
  unfolding clause_name_faults clause_kind_faults
  clause_known c k n h =
      let p : (member_faults is_event (interface_in s c.target.name.bytes) c.event ≡ []) × (target_name_faults s c.target ≡ [])
      × (filter_name_faults s c.target c.filter ≡ []) × (test_name_faults s c.test ≡ []) = four_empty n in
      let q : (filter_kind_faults s c.target c.filter ≡ []) × (test_kind_faults s (kind_in s c.target.name c.event) c.test ≡ []) = both_empty h in
      let m = member_known is_event c.target.name.bytes c.event k p.0 in
      record {
        cell = m;
        filter = filter_known c.target c.filter k p.2 q.0;
        test = test_known m.found.item.kind c.test p.3 (rw (cell_kind s c.target.name c.event m) at q.1);
      }

  pub call_known : (c : Call) → T (is_known s c.target.name.bytes) → call_name_faults s c ≡ [] → call_kind_faults s c ≡ [] → KnownCall s c
  unfolding call_name_faults call_kind_faults
  call_known c k n h =
      let p : (member_faults is_action (interface_in s c.target.name.bytes) c.action ≡ []) × (expression_name_faults s c.parameter ≡ [])
      × (target_name_faults s c.target ≡ []) × (filter_name_faults s c.target c.filter ≡ []) = four_empty n in
      let q : (matched_kind_faults s (kind_in s c.target.name c.action) c.open_at c.parameter ≡ [])
      × (filter_kind_faults s c.target c.filter ≡ []) = both_empty h in
      record {
        parameter = equation_known is_action c.target.name c.action c.open_at c.parameter k p.0 p.1 q.0;
        filter = filter_known c.target c.filter k p.3 q.1;
      }
