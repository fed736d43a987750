-- Where names resolve and stores are sound, the reference machine runs through a rule at one binding, to what the total machine gives.
use Prim.Native.Nat.{ℕ}
use mathlib.Core.Path.{◌≡◌, refl, sym, ap, subst, ◌∙◌}
use mathlib.Core.Bool.{Bool, true, false, cond, ◌&&◌}
use mathlib.Core.List.Memᴰ
use mathlib.Core.List.{List, flat_map}
use mathlib.Core.Option.{Option, none, some, bind}
use lib.Dec.{T}
use lib.Ieee.Bits.{is_true}
use Rattle.values.specs.declared.Value.{Value}
use Rattle.values.specs.declared.Kind.{Kind}
use Rattle.values.specs.declared.Kind.TheVariants.{Wholes, Bools, Reals}
use Rattle.values.specs.definitions.Value.{is_set, equal}
use Rattle.values.specs.definitions.Storable.{of_kind, storable}
use Rattle.values.specs.definitions.Fitting.{same_kind, number_kind, operated_kind, real_kind, has_kind}
use Rattle.values.proofs.laws.StorableLaws.{storable_of_kind, operated_storable, negated_storable, as_real_storable}
use Rattle.values.proofs.laws.FittingLaws.{same_kind_eq, storable_kinds_fit, storable_operand_fits, storable_operands_fit}
use Rattle.text.specs.definitions.Syntax.{
  Name,
  Sort,
  Member,
  Expression,
  literal,
  member,
  to_real,
  negate,
  apply,
  Target,
  Filter,
  Test,
  changed,
  equals,
  Clause,
  Condition,
  clause,
  both,
  either,
  Call,
  Rule,
  File,
  priority_of,
}
use Rattle.text.proofs.laws.ListLaws.{some_injective, none_some, All, all_none, all_cons}
use Rattle.text.proofs.laws.LiteralLaws.{literal_storable}
use Rattle.checking.specs.definitions.Scope.{clauses, member_of, Scope, is_action, is_event}
use Rattle.checking.specs.definitions.KindFaults.{kind_of}
use Rattle.checking.proofs.laws.CheckedExpressions.{KnownEquation, KnownFilter, KnownTest, KnownClause, KnownCall}
use Rattle.writes.specs.definitions.Writes.{Write}
use Rattle.cycles.specs.definitions.Outcome.{Outcome, running, proceed}
use Rattle.cycles.specs.definitions.Store.{Store}
use Rattle.cycles.specs.definitions.Spots.{Spot, Spots}
use Rattle.cycles.specs.definitions.Reference.{read_spot, written_if}
use Rattle.cycles.specs.inner_contracts.TotalMachine.{
  value_at,
  value,
  filter_holds,
  test_holds,
  clause_holds,
  holds,
  call_writes,
  writes_if,
  binding_writes,
}
use Rattle.cycles.specs.definitions.Reference.{
  ref_equal,
  ref_value,
  with_sort,
  ref_filter,
  ref_test,
  ref_clause,
  ref_holds,
  ref_call,
  ref_writes_if,
  ref_binding_writes,
}
use Rattle.cycles.specs.definitions.SoundStores.{SoundStore}
use Rattle.cycles.proofs.laws.WalkLaws.{collected_runs}
use Rattle.cycles.proofs.laws.SpotLaws.{Stands, read_storable, found_spot, Resolves, kind_known}

-- ---- kinds

-- where the table has a kind of the result, the operands have kinds
bind_some : (o : Option Kind) (result : Kind → Option Kind) {k : Kind} → bind o result ≡ some k → (j : Kind) × (o ≡ some j) × (result j ≡ some k)
unfolding bind
bind_some none result h = absurd (none_some h)
bind_some (some j) result h = (j, refl, h)

real_kind_of : (j : Kind) {k : Kind} → real_kind j ≡ some k → (j ≡ Wholes) × (Reals ≡ k)
unfolding real_kind
real_kind_of Wholes h = (refl, some_injective h)
real_kind_of Bools h = absurd (none_some h)
real_kind_of Reals h = absurd (none_some h)

number_kind_of : (j : Kind) {k : Kind} → number_kind j ≡ some k → (j ≡ k) × T (has_kind (number_kind k))
unfolding number_kind has_kind
number_kind_of Wholes h = let e = some_injective h in (e, subst (λ (k : Kind). T (has_kind (number_kind k))) e tt)
number_kind_of Bools h = absurd (none_some h)
number_kind_of Reals h = let e = some_injective h in (e, subst (λ (k : Kind). T (has_kind (number_kind k))) e tt)

operated_kind_of : (i j : Kind) {k : Kind} → operated_kind i j ≡ some k → (i ≡ k) × (j ≡ k) × T (has_kind (number_kind k))
unfolding operated_kind
operated_kind_of i j {k} h = go (same_kind i j) refl h
  where
    go : (t : Bool) → same_kind i j ≡ t → cond t (number_kind i) none ≡ some k → (i ≡ k) × (j ≡ k) × T (has_kind (number_kind k))
    go true e g = let (p, n) = number_kind_of i g in (p, sym (same_kind_eq i j (rw e tt)) ∙ p, n)
    go false e g = absurd (none_some g)

-- ---- expressions

-- the reference machine runs to the value, and that is one of the kind
pub record RunsTo (k : Kind) (o : Outcome Value) (v : Value) : Type 0 where
  pub runs : o ≡ running v
  pub fits : T (storable k v)

pub equal_runs : (k : Kind) (a b : Value) → T (storable k a) → T (storable k b) → ref_equal a b ≡ running (equal a b)
unfolding ref_equal
equal_runs k a b h g = rw (storable_kinds_fit k a b h g)

module _ (f : File) (s : Scope) (sp : Spots) (resolves : Resolves f s sp) (st : Store) (sound : SoundStore f st) where
  cell_runs : (n m : Name) {k : Kind} → kind_of s (member n m) ≡ some k → RunsTo k (ref_value sp st (member n m)) (value sp st (member n m))
  unfolding kind_of ref_value value
  cell_runs n m {k} h =
      let (c, e) = kind_known s n m h in
      let (x, i, q) = resolves.resolve n.bytes m.bytes c.interface c.found c.of_interface c.named in
      record { runs = rw i; fits = rw i (rw e at (read_storable f st sound (found_spot x c.found) q)) }

  pub expression_runs : (a : Expression) {k : Kind} → kind_of s a ≡ some k → RunsTo k (ref_value sp st a) (value sp st a)
  unfolding kind_of ref_value value
  expression_runs (literal l) h = record { runs = refl; fits = rw (some_injective h) at (literal_storable l) }
  expression_runs (member n m) h = cell_runs n m h
  expression_runs (to_real at a) h =
      let (j, p, g) = bind_some (kind_of s a) real_kind h in
      let (w, q) = real_kind_of j g in
      let r = expression_runs a (p ∙ ap some w) in
      record {
        runs = rw (r.runs, storable_operand_fits real_kind Wholes (value sp st a) tt r.fits);
        fits = rw q at (as_real_storable (value sp st a) r.fits);
      }
  expression_runs (negate at a) {k} h =
      let (j, p, g) = bind_some (kind_of s a) number_kind h in
      let (q, n) = number_kind_of j g in
      let r = expression_runs a (p ∙ ap some q) in
      record {
        runs = rw (r.runs, storable_operand_fits number_kind k (value sp st a) n r.fits);
        fits = negated_storable k (value sp st a) n r.fits;
      }
  expression_runs (apply o at a b) {k} h =
      let (i, p, g) = bind_some (kind_of s a) (λ x. bind (kind_of s b) λ y. operated_kind x y) h in
      let (j, q, m) = bind_some (kind_of s b) (λ y. operated_kind i y) g in
      let (d, e, n) = operated_kind_of i j m in
      let r = expression_runs a (p ∙ ap some d) in
      let t = expression_runs b (q ∙ ap some e) in
      record {
        runs = rw (r.runs, t.runs, storable_operands_fit k (value sp st a) (value sp st b) n r.fits t.fits);
        fits = operated_storable k o (value sp st a) (value sp st b) n r.fits t.fits;
      }

  -- a cell beside an expression
  equation_runs : {sort : Sort → Bool} {n m : List ℕ} {a : Expression} → KnownEquation s sort n m a
      → (with_sort sort (sp n m) λ p. proceed (ref_value sp st a) λ x. ref_equal (read_spot st p) x) ≡ running (equal (value_at st (sp n m)) (value sp st a))
  unfolding with_sort proceed value_at
  equation_runs {sort} {n} {m} {a} h =
      let c = h.cell in
      let (x, i, q) = resolves.resolve n m c.interface c.found c.of_interface c.named in
      let r = expression_runs a h.kind in
      rw (i, is_true (sort c.found.item.sort) c.of_sort, r.runs)
      (equal_runs c.found.item.kind (read_spot st (found_spot x c.found)) (value sp st a)
      (read_storable f st sound (found_spot x c.found) q) r.fits)

  filter_runs : (t : Target) (g : Option Filter) → KnownFilter s t.name.bytes g → ref_filter sp st t g ≡ running (filter_holds sp st t g)
  unfolding ref_filter filter_holds
  filter_runs t none h = refl
  filter_runs t (some g) h = equation_runs h

-- ---- writes

-- a write goes to a cell, and is of its kind
abbrev pub SoundWrite : File → Write → Type 0
SoundWrite f w = (x : Member) × (member_of f w.entity w.member ≡ some x) × T (storable x.kind w.value)

written_sound : (f : File) (b : Bool) (p : Spot) (priority : ℕ) (v : Value) → Stands f p → T (storable p.what.kind v)
    → All (SoundWrite f) (written_if b (some p) priority v)
unfolding written_if
written_sound f true p priority v q h = all_cons (SoundWrite f) (p.what, q, h) (all_none (SoundWrite f))
written_sound f false p priority v q h = all_none (SoundWrite f)

-- ---- a rule at one binding

module _ (f : File) (s : Scope) (sp : Spots) (resolves : Resolves f s sp) (now previous : Store)
    (sound : SoundStore f now) (sound_previous : SoundStore f previous) where
  test_runs : (p : Spot) → Stands f p → (t : Test) → KnownTest s p.what.kind t
      → ref_test sp now previous p t ≡ running (test_holds sp now previous (some p) t)
  unfolding ref_test test_holds
  test_runs p q changed h = refl
  test_runs p q (equals at a) h =
      let r = expression_runs f s sp resolves now sound a h in
      let t = expression_runs f s sp resolves previous sound_previous a h in
      rw (
        r.runs,
        t.runs,
        equal_runs p.what.kind (read_spot now p) (value sp now a) (read_storable f now sound p q) r.fits,
        equal_runs p.what.kind (read_spot previous p) (value sp previous a) (read_storable f previous sound_previous p q) t.fits,
      )

  clause_runs : (c : Clause) → KnownClause s c → ref_clause sp now previous c ≡ running (clause_holds sp now previous c)
  unfolding ref_clause clause_holds
  clause_runs c h =
      let k = h.cell in
      let (x, i, q) = resolves.resolve c.target.name.bytes c.event.bytes k.interface k.found k.of_interface k.named in
      rw (
        i,
        is_true (is_event k.found.item.sort) k.of_sort,
        filter_runs f s sp resolves now sound c.target c.filter h.filter,
        test_runs (found_spot x k.found) q c.test h.test,
      )

  pub condition_runs : (c : Condition) → All (KnownClause s) (clauses c) → ref_holds sp now previous c ≡ running (holds sp now previous c)
  unfolding ref_holds holds clauses
  condition_runs (clause c) h = clause_runs c (h c (Memᴰ.head refl))
  condition_runs (both a b) h =
      rw (
        condition_runs a (λ c m. h c (Memᴰ.append_left (clauses b) m)),
        condition_runs b (λ c m. h c (Memᴰ.append_right (clauses a) m)),
      )
  condition_runs (either a b) h =
      rw (
        condition_runs a (λ c m. h c (Memᴰ.append_left (clauses b) m)),
        condition_runs b (λ c m. h c (Memᴰ.append_right (clauses a) m)),
      )

  call_runs : (priority : ℕ) (c : Call) → KnownCall s c
      → (ref_call sp now priority c ≡ running (call_writes sp now priority c)) × All (SoundWrite f) (call_writes sp now priority c)
  unfolding ref_call call_writes
  call_runs priority c h =
      let k = h.parameter.cell in
      let (x, i, q) = resolves.resolve c.target.name.bytes c.action.bytes k.interface k.found k.of_interface k.named in
      let v = value sp now c.parameter in
      let r = expression_runs f s sp resolves now sound c.parameter h.parameter.kind in (
        rw (
          i,
          is_true (is_action k.found.item.sort) k.of_sort,
          r.runs,
          is_true (of_kind k.found.item.kind v) (storable_of_kind k.found.item.kind v r.fits),
          filter_runs f s sp resolves now sound c.target c.filter h.filter,
        ),
        rw i (written_sound f (now.present x && (filter_holds sp now c.target c.filter && is_set v)) (found_spot x k.found) priority v q r.fits),
      )

  pub binding_runs : (r : Rule) → All (KnownClause s) (clauses r.condition) → All (KnownCall s) r.calls
      → (ref_binding_writes sp now previous r ≡ running (binding_writes sp now previous r)) × All (SoundWrite f) (binding_writes sp now previous r)
  unfolding ref_binding_writes binding_writes
  binding_runs r h g = let w = by_condition (holds sp now previous r.condition) in (rw (condition_runs r.condition h) w.0, w.1)
    where
      by_condition : (b : Bool) → (ref_writes_if b sp now (priority_of r) r.calls ≡ running (writes_if b (flat_map (call_writes sp now (priority_of r)) r.calls)))
          × All (SoundWrite f) (writes_if b (flat_map (call_writes sp now (priority_of r)) r.calls))
      by_condition true =
          collected_runs (ref_call sp now (priority_of r)) (call_writes sp now (priority_of r)) (SoundWrite f) r.calls
          (λ c m. call_runs (priority_of r) c (g c m))
      by_condition false = (refl, all_none (SoundWrite f))
