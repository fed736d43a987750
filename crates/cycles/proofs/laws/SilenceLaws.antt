-- A rule at rest is silent: where none of the cells that its condition reads moved, none of its clauses holds, at any binding.
use Prim.Native.Nat.{ℕ}
use mathlib.Core.Path.{◌≡◌, refl, sym, ap, ◌∙◌, subst}
use mathlib.Core.Bool.{Bool, true, false, not, ◌&&◌, and-false}
use mathlib.Core.List.Memᴰ
use mathlib.Core.List.{List, [], flat_map, append-nil, Memᴰ}
use mathlib.Core.Option.{Option, none, some}
use lib.Dec.{T, eqb_refl}
use lib.ListN.{get_elem?}
use lib.Ieee.Fits.{and_i}
use Rattle.values.specs.definitions.Value.{equal}
use Rattle.text.specs.definitions.Syntax.{
  Interface,
  Entity,
  Expression,
  literal,
  member,
  to_real,
  negate,
  apply,
  Test,
  changed,
  equals,
  Clause,
  Condition,
  clause,
  both,
  either,
  Rule,
  File,
}
use Rattle.text.proofs.laws.ListLaws.{none_some, flatMap_flatMap, flatMap_none, member_flatMap}
use Rattle.checking.proofs.laws.CheckedFile.{KnownFile}
use Rattle.checking.specs.definitions.Scope.{interface_of_entity, interface_of, nth_member, member_of, clauses, Variable, variables, scope_of}
use Rattle.cycles.specs.definitions.Outcome.{running, collected}
use Rattle.cycles.specs.definitions.Store.{Store, Inputs, Stores}
use Rattle.cycles.specs.definitions.Spots.{Spot, Spots, spot_of, meant, spot_if_meant, spots, entity_cells, cells}
use Rattle.cycles.specs.definitions.Reference.{read_spot, ref_holds}
use Rattle.cycles.specs.inner_contracts.TotalMachine.{
  value_at,
  is_present_at,
  value,
  filter_holds,
  test_holds,
  clause_holds,
  holds,
  binding_writes,
  rule_writes,
  all_writes,
}
use Rattle.cycles.specs.definitions.Bindings.{bindings, ref_rule_writes, ref_all_writes}
use Rattle.cycles.specs.definitions.Cycle.{seen, ref_cycle}
use Rattle.cycles.specs.definitions.ClosedSet.{Among, here, there, can_be}
use Rattle.cycles.specs.definitions.SoundStores.{SoundStore, SoundInputs, SoundStores}
use Rattle.cycles.specs.inner_contracts.AllRules.{Binds}
use Rattle.cycles.proofs.laws.AmongLaws.{
  AllIn,
  among_left,
  among_right,
  among_map,
  among_flatMap,
  numbered_among,
  every_at,
  some_at,
  flatMap_same,
}
use Rattle.cycles.proofs.laws.BindingLaws.{bindings_bind, meant_can_be}
use Rattle.cycles.proofs.laws.WalkLaws.{collected_runs, among_member}
use Rattle.cycles.proofs.laws.SpotLaws.{Stands, read_storable, spot_stands}
use Rattle.cycles.proofs.laws.SoundEvaluation.{SoundWrite, condition_runs}
use Rattle.cycles.proofs.laws.SoundBindings.{bindings_bound, binding_resolves, rule_runs, rules_run}
use Rattle.cycles.proofs.laws.SoundStores.{seen_sound}
use Rattle.cycles.specs.definitions.Reads.{
  Mention,
  mentions_in,
  mentions_in_filter,
  mentions_in_test,
  mentions_in_clause,
  mentions,
  has_number,
  is_mentioned,
  reads_cell,
}
use Rattle.cycles.specs.definitions.Quiescence.{has_moved, is_quiescent, item_unless, tried_rules, ref_skipping_cycle}
use Rattle.values.proofs.laws.SameLaws.{same, plain, same_plain, operated_plain, negated_plain, as_real_plain, equal_plain}

-- ---- cells

-- a spot that stands is one of the cells
pub stands_among : (f : File) (p : Spot) → Stands f p → Among p (cells f)
unfolding cells entity_cells member_of interface_of
stands_among f p h = by_entity (get_elem? f.entities p.entity) refl h
  where
    by_interface : (o : Option Interface) → interface_of f p.entity ≡ o → nth_member o p.member ≡ some p.what → Among p (entity_cells f p.entity)
    by_interface none q h = absurd (none_some h)
    by_interface (some i) q h =
        rw q (among_map (λ m. record { entity = p.entity; member = m.number; what = m.item }) (numbered_among i.members p.member h))

    by_entity : (o : Option Entity) → get_elem? f.entities p.entity ≡ o → nth_member (interface_of_entity f o) p.member ≡ some p.what
        → Among p (cells f)
    by_entity none q h = absurd (none_some h)
    by_entity (some x) q h =
        among_flatMap (λ e. entity_cells f e.number) (numbered_among f.entities p.entity q) p
        (by_interface (interface_of f p.entity) refl (rw q h))

-- what names lead to at a binding is mentioned by them
pub spot_mentioned : (f : File) (vs : List Variable) (b : List ℕ) → Binds f vs b → (x : Mention) (p : Spot)
    → spots f vs b x.owner.bytes x.member.bytes ≡ some p → T (is_mentioned f vs p.entity p.member x) × Stands f p
unfolding spots is_mentioned
spot_mentioned f vs b binds x p h = go (meant f vs b x.owner.bytes) refl h
  where
    go : (o : Option ℕ) → meant f vs b x.owner.bytes ≡ o → spot_if_meant f o x.member.bytes ≡ some p
        → T (is_mentioned f vs p.entity p.member x) × Stands f p
    go none q h = absurd (none_some h)
    go (some e) q h =
        let (same, stands) = spot_stands f e x.member.bytes h in
        let n : T (has_number p.member (spot_of f e x.member.bytes)) = rw h (eqb_refl p.member) in (
          rw same (and_i (can_be f vs x.owner.bytes e) (has_number p.member (spot_of f e x.member.bytes))
              (meant_can_be f vs b binds x.owner.bytes e q) n),
          stands,
        )

-- ---- a rule at rest, at one binding

-- what is mentioned reads the same in both stores, and so does what is worked out from it
abbrev Unmoved : Spots → Store → Store → Mention → Type 0
Unmoved sp now previous x =
    same (value_at now (sp x.owner.bytes x.member.bytes)) (value_at previous (sp x.owner.bytes x.member.bytes))
    × (plain (value_at now (sp x.owner.bytes x.member.bytes)) ≡ plain (value_at previous (sp x.owner.bytes x.member.bytes)))

but_not_before : (a b : Bool) → a ≡ b → (a && not b) ≡ false
but_not_before true b h = rw (← h)
but_not_before false b h = refl

module _ (sp : Spots) (now previous : Store) where
  value_unmoved : (a : Expression) → AllIn (mentions_in a) (Unmoved sp now previous) → plain (value sp now a) ≡ plain (value sp previous a)
  unfolding value mentions_in
  value_unmoved (literal l) h = refl
  value_unmoved (member n m) h = (h (record { owner = n; member = m }) here).1
  value_unmoved (to_real at a) h = as_real_plain (value sp now a) (value sp previous a) (value_unmoved a h)
  value_unmoved (negate at a) h = negated_plain (value sp now a) (value sp previous a) (value_unmoved a h)
  value_unmoved (apply o at a b) h =
      operated_plain (value sp now a) (value sp previous a) (value_unmoved a (λ x i. h x (among_left i (mentions_in b))))
      (value sp now b) (value sp previous b) (value_unmoved b (λ x i. h x (among_right (mentions_in a) i))) o

  test_silent : (x : Mention) (t : Test) → Unmoved sp now previous x → AllIn (mentions_in_test t) (Unmoved sp now previous)
      → test_holds sp now previous (sp x.owner.bytes x.member.bytes) t ≡ false
  unfolding test_holds mentions_in_test
  test_silent x changed h i = h.0
  test_silent x (equals at a) h i =
      let p = sp x.owner.bytes x.member.bytes in
      but_not_before (equal (value_at now p) (value sp now a)) (equal (value_at previous p) (value sp previous a))
      (equal_plain (value_at now p) (value_at previous p) h.1 (value sp now a) (value sp previous a) (value_unmoved a i))

  clause_silent : (c : Clause) → AllIn (mentions_in_clause c) (Unmoved sp now previous) → clause_holds sp now previous c ≡ false
  unfolding clause_holds mentions_in_clause
  clause_silent c h =
      rw (
        test_silent (record { owner = c.target.name; member = c.event }) c.test (h _ here)
            (λ x i. h x (there (among_right (mentions_in_filter c.target c.filter) i))),
        and-false (filter_holds sp now c.target c.filter),
        and-false (is_present_at now (sp c.target.name.bytes c.event.bytes)),
      )

  condition_silent : (a : Condition) → AllIn (clauses a) (λ c. AllIn (mentions_in_clause c) (Unmoved sp now previous)) → holds sp now previous a ≡ false
  unfolding holds clauses
  condition_silent (clause c) h = clause_silent c (h c here)
  condition_silent (both a b) h = rw (condition_silent a (λ c i. h c (among_left i (clauses b))))
  condition_silent (either a b) h =
      rw (condition_silent a (λ c i. h c (among_left i (clauses b))), condition_silent b (λ c i. h c (among_right (clauses a) i)))

-- ---- a rule at rest

not_both : (a b : Bool) → T (not (a && b)) → T a → b ≡ false
not_both true true h t = absurd h
not_both true false h t = refl
not_both false b h t = elim t [ ]

module _ (f : File) (now previous : Store) (sound : SoundStore f now) (sound_previous : SoundStore f previous) (r : Rule)
    (rests : T (is_quiescent f now previous r)) where
  cell_unmoved : (p : Spot) → Stands f p → T (reads_cell f r p.entity p.member) → same (read_spot now p) (read_spot previous p)
  unfolding is_quiescent has_moved read_spot
  cell_unmoved p s t =
      not_both (reads_cell f r p.entity p.member) (has_moved now previous p.entity p.member)
      (every_at (λ p. not (reads_cell f r p.entity p.member && has_moved now previous p.entity p.member)) (cells f) rests p (stands_among f p s)) t

  module _ (b : List ℕ) (binds : Binds f (variables r) b) where
    unmoved : AllIn (mentions r) (Unmoved (spots f (variables r) b) now previous)
    unfolding value_at reads_cell
    unmoved x a = go (spots f (variables r) b x.owner.bytes x.member.bytes) (λ p q. spot_mentioned f (variables r) b binds x p q)
      where
        go : (o : Option Spot) → ((p : Spot) → o ≡ some p → T (is_mentioned f (variables r) p.entity p.member x) × Stands f p)
            → same (value_at now o) (value_at previous o) × (plain (value_at now o) ≡ plain (value_at previous o))
        go none h = (refl, refl)
        go (some p) h =
            let (m, s) = h p refl in
            let e = cell_unmoved p s (some_at (is_mentioned f (variables r) p.entity p.member) a m) in
            (e, same_plain p.what.kind (read_spot now p) (read_spot previous p) (read_storable f now sound p s) (read_storable f previous sound_previous p s) e)

    pub at_rest : holds (spots f (variables r) b) now previous r.condition ≡ false
    unfolding mentions
    at_rest = condition_silent (spots f (variables r) b) now previous r.condition (λ c a x i. unmoved x (among_flatMap mentions_in_clause a x i))

    binding_silent : binding_writes (spots f (variables r) b) now previous r ≡ []
    unfolding binding_writes
    binding_silent = rw at_rest

  pub rule_silent : rule_writes f now previous r ≡ []
  unfolding rule_writes
  rule_silent =
      flatMap_same (λ b. binding_writes (spots f (variables r) b) now previous r) (λ b. []) (bindings f now (variables r))
      (λ b a. binding_silent b (bindings_bind f now (variables r) b a))
      ∙ flatMap_none (bindings f now (variables r))

-- ---- all rules

-- the rules that are tried write what all rules write
pub tried_write_all : (f : File) (now previous : Store) → SoundStore f now → SoundStore f previous
    → flat_map (rule_writes f now previous) (tried_rules f now previous) ≡ all_writes f now previous
unfolding tried_rules all_writes
tried_write_all f now previous sound sound_previous =
    flatMap_flatMap (rule_writes f now previous) (λ r. item_unless (is_quiescent f now previous r) r) (rule_writes f now previous)
    (λ r. go r (is_quiescent f now previous r) (rule_silent f now previous sound sound_previous r)) f.rules
  where
    go : (r : Rule) (b : Bool) → (T b → rule_writes f now previous r ≡ []) → flat_map (rule_writes f now previous) (item_unless b r) ≡ rule_writes f now previous r
    go r true h = sym (h tt)
    go r false h = append-nil (rule_writes f now previous r)

-- ---- the reference machine

module _ (f : File) (known : KnownFile f) (now previous : Store) (sound : SoundStore f now) (sound_previous : SoundStore f previous) where
  -- "no clause can hold", at any binding
  pub ref_at_rest : (r : Rule) → Among r f.rules → T (is_quiescent f now previous r) → (b : List ℕ) → Among b (bindings f now (variables r))
      → ref_holds (spots f (variables r) b) now previous r.condition ≡ running false
  ref_at_rest r a rests b i =
      condition_runs f (scope_of f r) (spots f (variables r) b) (binding_resolves f r b (bindings_bound f now (variables r) b (among_member i)))
      now previous sound sound_previous r.condition (known.rule r (among_member a)).clause
      ∙ ap running (at_rest f now previous sound sound_previous r rests b (bindings_bind f now (variables r) b i))

  pub ref_rule_silent : (r : Rule) → Among r f.rules → T (is_quiescent f now previous r) → ref_rule_writes f now previous r ≡ running []
  ref_rule_silent r a rests =
      (rule_runs f now previous sound sound_previous r (known.rule r (among_member a))).0
      ∙ ap running (rule_silent f now previous sound sound_previous r rests)

  tried_among : (r : Rule) → Memᴰ r (tried_rules f now previous) → Memᴰ r f.rules
  unfolding tried_rules
  tried_among r m =
      let (q, n, d) = member_flatMap (λ (q : Rule). item_unless (is_quiescent f now previous q) q) f.rules m in
      go q n (is_quiescent f now previous q) d
    where
      go : (q : Rule) → Memᴰ q f.rules → (b : Bool) → Memᴰ r (item_unless b q) → Memᴰ r f.rules
      go q n true d = absurd (Memᴰ.not-nil d)
      go q n false d = subst (λ (x : Rule). Memᴰ x f.rules) (sym (Memᴰ.eq_of_singleton d)) n

  pub tried_run_all : collected (ref_rule_writes f now previous) (tried_rules f now previous) ≡ ref_all_writes f now previous
  tried_run_all =
      (collected_runs (ref_rule_writes f now previous) (rule_writes f now previous) (SoundWrite f) (tried_rules f now previous)
      (λ r m. rule_runs f now previous sound sound_previous r (known.rule r (tried_among r m)))).0
      ∙ ap running (tried_write_all f now previous sound sound_previous)
      ∙ sym (rules_run f now previous sound sound_previous known).0

pub skipping_same : (f : File) → KnownFile f → (s : Stores) → SoundStores f s → (i : Inputs) → SoundInputs f i
    → ref_skipping_cycle f s i ≡ ref_cycle f s i
unfolding ref_skipping_cycle ref_cycle
skipping_same f known s sound i taken =
    rw (tried_run_all f known (seen f s.now i) s.previous (seen_sound f s.now i sound.now taken) sound.previous)
